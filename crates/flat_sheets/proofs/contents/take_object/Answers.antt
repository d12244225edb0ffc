use Rattle.std.proofs.Common.{◌≡◌, ◌++◌, List, subst, sym, ◌∙◌}
use Rattle.std.specs.Prelude.{OnOk}
use Rattle.flat_rows.specs.Conductors.{FlatConductor}
use Rattle.flat_sheets.proofs.ObjectLemmas.{drawn_of-component, hidden_of-component}
use Rattle.flat_sheets.proofs.contents.take_object.Goals as goal

pub returns-in-Component-clause-drawn : goal.returns-in-Component-clause-drawn
returns-in-Component-clause-drawn c =
    let same = drawn_of-component c.args.found.now.project c.args.found.now.flat c.in-Component.component (sym c.body.ensures ∙ c.in-Component.is) in
    subst (λ (more : List FlatConductor). OnOk c.take_component.result (c.take_component.new.rows.drawn ≡ c.args.rows.now.drawn ++ more)) same c.take_component.ensures.drawn

pub returns-in-Component-clause-hidden : goal.returns-in-Component-clause-hidden
returns-in-Component-clause-hidden c =
    let same = hidden_of-component c.args.found.now.project c.args.found.now.flat c.in-Component.component (sym c.body.ensures ∙ c.in-Component.is) in
    subst (λ (more : List FlatConductor). OnOk c.take_component.result (c.take_component.new.rows.hidden ≡ c.args.rows.now.hidden ++ more)) same c.take_component.ensures.hidden
