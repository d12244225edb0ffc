use Rattle.std.proofs.Common.{subst}
use Rattle.std.proofs.lemmas.Str.{IsUtf8-from_is_utf8}
use Rattle.geda_model.specs.steps.ShortTexts.{IsPlace}
use Rattle.geda_model.proofs.short_text.ShortText.as_str.Goals as goal

pub from_utf8_unchecked-requires : goal.from_utf8_unchecked-requires
from_utf8_unchecked-requires c = IsUtf8-from_is_utf8 _ (subst IsPlace c.in-Here.is c.self.invariant).1
