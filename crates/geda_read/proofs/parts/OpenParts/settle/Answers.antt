use Rattle.std.proofs.Common.{◌≤◌, ◌<◌, Bool, cond, List, length, Some, None, sym, refl, ap, subst, ◌∙◌, arith}
use Rattle.std.proofs.lemmas.Bool.{lt-ltb, le-ltb}
use Rattle.geda_model.specs.Limits.{most_objects}
use Rattle.geda_model.specs.Shapes.{PartData}
use Rattle.geda_model.specs.declared.shape.Shape.{Shape}
use Rattle.geda_grammar.specs.steps.Sheets.{make_part}
use Rattle.geda_read.specs.steps.Levels.{level_of}
use Rattle.geda_read.proofs.LastOnes.{room_at, room_none}
use Rattle.geda_read.proofs.parts.OpenParts.settle.Goals as goal

pub returns-then-is_open-clause-taken : goal.returns-then-is_open-clause-taken
returns-then-is_open-clause-taken c = rw (← c.self.view_is) (room_none PartData Shape (λ p. p.shape) (λ p. p.attrs) make_part (λ p. refl) most_objects c.self.inside.items c.self.inside.tail c.self.invariant.last (sym c.is_open.ensures ∙ c.if-is_open.true))

pub returns-then-as_slice-ge-MOST_OBJECTS-clause-taken : goal.returns-then-as_slice-ge-MOST_OBJECTS-clause-taken
returns-then-as_slice-ge-MOST_OBJECTS-clause-taken c =
    let full : most_objects ≤ length c.self.inside.items = subst (λ (l : List PartData). most_objects ≤ length l) c.as_slice.ensures.parts c.if-as_slice-ge-MOST_OBJECTS.true in
    rw (← c.self.view_is) (room_at PartData Shape (λ p. p.shape) (λ p. p.attrs) make_part (λ p. refl) most_objects c.self.inside.items c.self.inside.tail c.self.invariant.last (sym c.is_open.ensures ∙ c.if-is_open.false) ∙ ap (λ (b : Bool). cond b (Some c.self.inside.items) None) (le-ltb (length c.self.inside.items) most_objects full))

pub returns-clause-taken : goal.returns-clause-taken
unfolding level_of
returns-clause-taken c =
    let room : length c.self.inside.items < most_objects = subst (λ (l : List PartData). length l < most_objects) c.as_slice.ensures.parts (omega (arith, c.if-as_slice-ge-MOST_OBJECTS.false)) in
    rw (← c.self.view_is) (room_at PartData Shape (λ p. p.shape) (λ p. p.attrs) make_part (λ p. refl) most_objects c.self.inside.items c.self.inside.tail c.self.invariant.last (sym c.is_open.ensures ∙ c.if-is_open.false) ∙ ap (λ (b : Bool). cond b (Some c.self.inside.items) None) (lt-ltb (length c.self.inside.items) most_objects room))

pub returns-clause-few : goal.returns-clause-few
unfolding level_of
returns-clause-few c =
    let room : length c.self.inside.items < most_objects = subst (λ (l : List PartData). length l < most_objects) c.as_slice.ensures.parts (omega (arith, c.if-as_slice-ge-MOST_OBJECTS.false)) in
    omega (arith, room)

pub returns-clause-settled : goal.returns-clause-settled
unfolding level_of
returns-clause-settled c = refl
