use Rattle.std.proofs.Common.{◌≡◌, ◌∙◌, true, ap, length, subst, sym}
use Rattle.std.specs.Str.{is_utf8}
use Rattle.std.proofs.lemmas.List.{take_at}
use Rattle.std.proofs.lemmas.Str.{is_utf8-from_IsUtf8}
use Rattle.geda_model.proofs.short_text.ShortText.here.Goals as goal

pub invariant_of-result : goal.invariant_of-result
invariant_of-result c =
    let copied = c.copy_from_slice.ensures.after ∙ c.as_bytes.ensures.value in
    let same = take_at _ _ _ (ap length copied) ∙ copied in (
      c.requires,
      subst (λ bytes. is_utf8 bytes ≡ true) (sym same) (is_utf8-from_IsUtf8 _ c.utf8.text),
    )
