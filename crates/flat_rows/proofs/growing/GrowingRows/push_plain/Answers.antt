use Rattle.std.proofs.Common.{◌++◌, ◌∷◌, [], length, ap, sym, subst, ◌∙◌}
use Rattle.flat_rows.specs.Conductors.{GrowingData}
use Rattle.flat_rows.specs.Rows.{IsPartOf, conductor_of, plain_conductor}
use Rattle.flat_rows.specs.steps.Lists.{conductors_in}
use Rattle.flat_rows.proofs.RowLemmas.{flat_push, rows_push}
use Rattle.flat_rows.proofs.growing.GrowingRows.push_plain.Goals as goal

pub invariant_of-self-in_default : goal.invariant_of-self-in_default
invariant_of-self-in_default c =
    let g = c.self.inside in
    let d = plain_conductor c.args.row c.args.member in
    let part = subst (λ (x : GrowingData). IsPartOf (length x.parts) c.args.member) (sym c.self.view_is) c.requires in
    let more = c.in_default.ensures (conductors_in g.drawn) c.self.invariant.0.lists in
    (rows_push g.parts g.drawn c.push_plain.new.self d c.self.invariant.0 more part, c.self.invariant.1)

pub returns-clause-drawn : goal.returns-clause-drawn
returns-clause-drawn c =
    let g = c.self.inside in
    let d = plain_conductor c.args.row c.args.member in
    let more = c.in_default.ensures (conductors_in g.drawn) c.self.invariant.0.lists in
    flat_push g.parts g.drawn c.push_plain.new.self d c.self.invariant.0 more
    ∙ ap (λ (x : GrowingData). x.drawn ++ conductor_of x.parts d ∷ []) c.self.view_is
