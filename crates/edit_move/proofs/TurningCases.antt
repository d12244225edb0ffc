-- A component at (100, 0) with the angle 90, which is mirrored and turned by a right angle.
use Rattle.std.proofs.Common.{◌≡◌, ℕ, ℤ, pos, neg_ℤ, Bool, true, false, None, Ok, Err, [], refl}
use Rattle.geda_model.specs.declared.object.Body.TheVariants as bodies
use Rattle.geda_model.specs.Sheets.{ObjectData}
use Rattle.edit_move.specs.declared.fault.MoveFault.TheVariants as faults
use Rattle.edit_move.specs.Motions.{point_after}
use Rattle.edit_move.specs.Objects.{object_after, body_after, component_after, embedded_after, texts_after}
use Rattle.edit_move.specs.Faults.{moved, turned}

abbrev placed : ℤ → ℤ → ℕ → Bool → ObjectData
placed across up angle mirror = record {
  body = bodies.Component (record { x = across; y = up; selectable = true; angle = angle; mirror = mirror; basename = []; embedded = None });
  attrs = [];
}

mirrored_and_turned : turned (pos 0) (pos 0) 1 true (placed (pos 100) (pos 0) 90 false) ≡ Ok (placed (pos 0) (neg_ℤ (pos 100)) 0 true)
unfolding turned object_after body_after component_after point_after embedded_after texts_after
mirrored_and_turned = refl

moved_off_the_sheet : moved (pos 200000) (pos 0) (placed (pos 100) (pos 0) 90 false) ≡ Err faults.OutOfRange
unfolding moved object_after body_after component_after point_after
moved_off_the_sheet = refl
