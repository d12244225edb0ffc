use Rattle.std.proofs.Common.{subst}
use Rattle.std.proofs.lemmas.Str.{is_utf8-from_IsUtf8}
use Rattle.geda_model.specs.Names.{IsLineByte}
use Rattle.std.specs.Prelude.{All}
use Rattle.geda_model.proofs.word.is_line.Goals as goal

pub returns : goal.returns
returns c =
    let same = c.as_bytes.ensures.value in (
      λ yes. record {
        text = is_utf8-from_IsUtf8 _ c.utf8.text;
        line_bytes = subst (All IsLineByte) same (c.are_line_bytes.ensures.0 yes);
      },
      λ line. c.are_line_bytes.ensures.1 (rw same line.line_bytes),
    )
