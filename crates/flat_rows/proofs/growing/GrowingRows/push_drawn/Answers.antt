use Rattle.std.proofs.Common.{◌++◌, ◌∷◌, [], length, ap, sym, subst, ◌∙◌}
use Rattle.flat_rows.specs.Conductors.{GrowingData}
use Rattle.flat_rows.specs.Rows.{IsPartOf, conductor_of}
use Rattle.flat_rows.specs.steps.Lists.{conductors_in}
use Rattle.flat_rows.proofs.RowLemmas.{flat_push, rows_push}
use Rattle.flat_rows.proofs.growing.GrowingRows.push_drawn.Goals as goal

pub invariant_of-self-in_default : goal.invariant_of-self-in_default
invariant_of-self-in_default c =
    let g = c.self.inside in
    let part = subst (λ (d : GrowingData). IsPartOf (length d.parts) c.args.conductor.member) (sym c.self.view_is) c.requires in
    let more = c.in_default.ensures (conductors_in g.drawn) c.self.invariant.0.lists in
    (rows_push g.parts g.drawn c.push.new.self c.args.conductor c.self.invariant.0 more part, c.self.invariant.1)

pub returns-clause-drawn : goal.returns-clause-drawn
returns-clause-drawn c =
    let g = c.self.inside in
    let more = c.in_default.ensures (conductors_in g.drawn) c.self.invariant.0.lists in
    flat_push g.parts g.drawn c.push.new.self c.args.conductor c.self.invariant.0 more
    ∙ ap (λ (d : GrowingData). d.drawn ++ conductor_of d.parts c.args.conductor ∷ []) c.self.view_is
