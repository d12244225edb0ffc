use Rattle.std.proofs.Common.{◌≤◌, ◌<◌, Bool, cond, List, length, Some, None, sym, refl, ap, subst, ◌∙◌, arith}
use Rattle.std.proofs.lemmas.Bool.{lt-ltb, le-ltb}
use Rattle.geda_model.specs.Sheets.{ObjectData}
use Rattle.geda_model.specs.declared.object.Body.{Body}
use Rattle.geda_grammar.specs.steps.Sheets.{make_object}
use Rattle.geda_read.specs.steps.Levels.{level_of}
use Rattle.geda_read.proofs.LastOnes.{room_at, room_none}
use Rattle.geda_read.proofs.objects.OpenObjects.settle.Goals as goal

pub returns-then-is_open-clause-taken : goal.returns-then-is_open-clause-taken
returns-then-is_open-clause-taken c = rw (← c.self.view_is) (room_none ObjectData Body (λ o. o.body) (λ o. o.attrs) make_object (λ o. refl) c.args.most c.self.inside.items c.self.inside.tail c.self.invariant.last (sym c.is_open.ensures ∙ c.if-is_open.true))

pub returns-then-as_slice-most-clause-taken : goal.returns-then-as_slice-most-clause-taken
returns-then-as_slice-most-clause-taken c =
    let full : c.args.most ≤ length c.self.inside.items = subst (λ (l : List ObjectData). c.args.most ≤ length l) c.as_slice.ensures.objects c.if-as_slice-most.true in
    rw (← c.self.view_is) (room_at ObjectData Body (λ o. o.body) (λ o. o.attrs) make_object (λ o. refl) c.args.most c.self.inside.items c.self.inside.tail c.self.invariant.last (sym c.is_open.ensures ∙ c.if-is_open.false) ∙ ap (λ (b : Bool). cond b (Some c.self.inside.items) None) (le-ltb (length c.self.inside.items) c.args.most full))

pub returns-clause-taken : goal.returns-clause-taken
unfolding level_of
returns-clause-taken c =
    let room : length c.self.inside.items < c.args.most = subst (λ (l : List ObjectData). length l < c.args.most) c.as_slice.ensures.objects (omega (arith, c.if-as_slice-most.false)) in
    rw (← c.self.view_is) (room_at ObjectData Body (λ o. o.body) (λ o. o.attrs) make_object (λ o. refl) c.args.most c.self.inside.items c.self.inside.tail c.self.invariant.last (sym c.is_open.ensures ∙ c.if-is_open.false) ∙ ap (λ (b : Bool). cond b (Some c.self.inside.items) None) (lt-ltb (length c.self.inside.items) c.args.most room))

pub returns-clause-few : goal.returns-clause-few
unfolding level_of
returns-clause-few c =
    let room : length c.self.inside.items < c.args.most = subst (λ (l : List ObjectData). length l < c.args.most) c.as_slice.ensures.objects (omega (arith, c.if-as_slice-most.false)) in
    omega (arith, room, c.requires)

pub returns-clause-settled : goal.returns-clause-settled
unfolding level_of
returns-clause-settled c = refl
