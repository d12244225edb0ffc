use Rattle.printed_texts.proofs.WordLemmas.{line_and_word}
use Rattle.printed_texts.proofs.words.Words.word.Goals as goal

pub invariant_of-result : goal.invariant_of-result
invariant_of-result c =
    rw (c.in_ok-put_word.ensures, c.as_bytes.ensures.value)
    (line_and_word c.self.inside.bytes.items c.args.text.now c.self.invariant c.utf8.text)
