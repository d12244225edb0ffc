use Rattle.std.proofs.Common.{List, ap, subst, sym, ◌∙◌}
use Rattle.net_list.specs.declared.package.Package.{Package}
use Rattle.flat_rows.specs.Conductors.{GrowingData}
use Rattle.flat_rows.specs.steps.Lists.{AreRows, conductors_in, flat_in}
use Rattle.flat_rows.proofs.RowLemmas.{conductors_kept, rows_more}
use Rattle.flat_rows.proofs.growing.GrowingRows.add_part.Goals as goal

pub invariant_of-self-in_default : goal.invariant_of-self-in_default
invariant_of-self-in_default c =
    let g = c.self.inside in
    subst (λ (parts : List Package). AreRows parts g.drawn × AreRows parts g.hidden) (sym c.in_default.ensures)
    (rows_more g.parts c.args.part g.drawn c.self.invariant.0, rows_more g.parts c.args.part g.hidden c.self.invariant.1)

pub returns-clause-drawn : goal.returns-clause-drawn
returns-clause-drawn c =
    let g = c.self.inside in
    ap (λ (parts : List Package). flat_in parts g.drawn) c.in_default.ensures
    ∙ conductors_kept g.parts c.args.part (conductors_in g.drawn) c.self.invariant.0.known
    ∙ ap (λ (d : GrowingData). d.drawn) c.self.view_is

pub returns-clause-hidden : goal.returns-clause-hidden
returns-clause-hidden c =
    let g = c.self.inside in
    ap (λ (parts : List Package). flat_in parts g.hidden) c.in_default.ensures
    ∙ conductors_kept g.parts c.args.part (conductors_in g.hidden) c.self.invariant.1.known
    ∙ ap (λ (d : GrowingData). d.hidden) c.self.view_is
