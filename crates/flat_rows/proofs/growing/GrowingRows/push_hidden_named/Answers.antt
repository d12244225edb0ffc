use Rattle.std.proofs.Common.{◌++◌, ◌∷◌, [], length, ap, sym, subst, ◌∙◌}
use Rattle.flat_rows.specs.Conductors.{GrowingData}
use Rattle.flat_rows.specs.Rows.{IsPartOf, conductor_of, named_conductor}
use Rattle.flat_rows.specs.steps.Lists.{conductors_in}
use Rattle.flat_rows.proofs.RowLemmas.{flat_push, rows_push}
use Rattle.flat_rows.proofs.growing.GrowingRows.push_hidden_named.Goals as goal

pub invariant_of-self-in_default : goal.invariant_of-self-in_default
invariant_of-self-in_default c =
    let g = c.self.inside in
    let d = named_conductor c.args.row c.args.member c.args.names.now in
    let part = subst (λ (x : GrowingData). IsPartOf (length x.parts) c.args.member) (sym c.self.view_is) c.requires in
    let more = c.in_default.ensures (conductors_in g.hidden) c.self.invariant.1.lists in
    (c.self.invariant.0, rows_push g.parts g.hidden c.push_named.new.self d c.self.invariant.1 more part)

pub returns-clause-hidden : goal.returns-clause-hidden
returns-clause-hidden c =
    let g = c.self.inside in
    let d = named_conductor c.args.row c.args.member c.args.names.now in
    let more = c.in_default.ensures (conductors_in g.hidden) c.self.invariant.1.lists in
    flat_push g.parts g.hidden c.push_named.new.self d c.self.invariant.1 more
    ∙ ap (λ (x : GrowingData). x.hidden ++ conductor_of x.parts d ∷ []) c.self.view_is
