use Rattle.std.proofs.Common.{◌≡◌, ◌∙◌, IfOk, Option, subst, sym}
use Rattle.component_checks.specs.CheckedComponents.{CheckedData}
use Rattle.component_checks.proofs.ObjectLemmas.{checked_object-component}
use Rattle.component_checks.proofs.gathering.checked_object.Goals as goal

pub returns-in-Component-clause-made : goal.returns-in-Component-clause-made
returns-in-Component-clause-made c =
    let same = checked_object-component c.args.found.now.project c.args.found.now.flat c.in-Component.component (sym c.body.ensures ∙ c.in-Component.is) in
    subst (λ (checked : Option CheckedData). IfOk c.checked_component.result (λ made. made ≡ checked)) same c.checked_component.ensures.made
