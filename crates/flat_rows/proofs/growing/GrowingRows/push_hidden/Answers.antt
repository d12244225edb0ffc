use Rattle.std.proofs.Common.{◌++◌, ◌∷◌, [], length, ap, sym, subst, ◌∙◌}
use Rattle.flat_rows.specs.Conductors.{GrowingData}
use Rattle.flat_rows.specs.Rows.{IsPartOf, conductor_of}
use Rattle.flat_rows.specs.steps.Lists.{conductors_in}
use Rattle.flat_rows.proofs.RowLemmas.{flat_push, rows_push}
use Rattle.flat_rows.proofs.growing.GrowingRows.push_hidden.Goals as goal

pub invariant_of-self-in_default : goal.invariant_of-self-in_default
invariant_of-self-in_default c =
    let g = c.self.inside in
    let part = subst (λ (d : GrowingData). IsPartOf (length d.parts) c.args.conductor.member) (sym c.self.view_is) c.requires in
    let more = c.in_default.ensures (conductors_in g.hidden) c.self.invariant.1.lists in
    (c.self.invariant.0, rows_push g.parts g.hidden c.push.new.self c.args.conductor c.self.invariant.1 more part)

pub returns-clause-hidden : goal.returns-clause-hidden
returns-clause-hidden c =
    let g = c.self.inside in
    let more = c.in_default.ensures (conductors_in g.hidden) c.self.invariant.1.lists in
    flat_push g.parts g.hidden c.push.new.self c.args.conductor c.self.invariant.1 more
    ∙ ap (λ (d : GrowingData). d.hidden ++ conductor_of d.parts c.args.conductor ∷ []) c.self.view_is
