use Rattle.std.proofs.Common.{◌∙◌, ap, sym, refl, arith}
use Rattle.std.proofs.lemmas.Str.{is_utf8-from_IsUtf8}
use Rattle.geda_model.specs.Ranges.{has_cr_end}
use Rattle.geda_model.proofs.text.is_content.Goals as goal

pub returns : goal.returns
returns c =
    let few = c.line_feeds.ensures in (
      λ yes. record {
        text = is_utf8-from_IsUtf8 _ c.utf8.text;
        lines = omega (arith, few);
        no_cr = sym (ap has_cr_end c.as_bytes.ensures.value) ∙ sym c.has_cr_end.ensures ∙ c.if-has_cr_end.false;
      },
      λ content. refl,
    )
