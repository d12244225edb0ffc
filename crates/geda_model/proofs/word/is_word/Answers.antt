use Rattle.std.proofs.Common.{subst, arith}
use Rattle.std.proofs.lemmas.Str.{is_utf8-from_IsUtf8}
use Rattle.geda_model.specs.Names.{IsWordByte}
use Rattle.std.specs.Prelude.{All}
use Rattle.geda_model.proofs.word.is_word.Goals as goal

pub returns : goal.returns
returns c =
    let same = c.as_bytes.ensures.value in (
      λ yes. record {
        text = is_utf8-from_IsUtf8 _ c.utf8.text;
        short = omega arith;
        word_bytes = subst (All IsWordByte) same (c.are_word_bytes.ensures.0 yes);
      },
      λ word. c.are_word_bytes.ensures.1 (rw same word.word_bytes),
    )
