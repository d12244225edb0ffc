use Rattle.std.proofs.Common.{rules}
use Rattle.printed_texts.proofs.StayLemmas.{word_of_stays}
use Rattle.printed_texts.proofs.texts.put_word.Goals as goal

pub returns-then-stays_in_word : goal.returns-then-stays_in_word
returns-then-stays_in_word c =
    rw (word_of_stays c.args.text.now (let h = c.if-stays_in_word.true in search rules)) (search rules)
