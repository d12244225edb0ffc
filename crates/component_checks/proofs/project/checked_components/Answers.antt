use Rattle.std.proofs.Common.{◌≡◌, IfOk, List, subst}
use Rattle.instance_objects.specs.Occurrences.{occurrences}
use Rattle.component_checks.specs.CheckedComponents.{CheckedData}
use Rattle.component_checks.proofs.ObjectLemmas.{checked_at-are}
use Rattle.component_checks.proofs.project.checked_components.Goals as goal

pub returns : goal.returns
returns c =
    let p = c.args.objects.now in
    subst (λ (all : List CheckedData). IfOk c.components_among.result (λ components. components.items ≡ all)) (checked_at-are p (occurrences p)) c.components_among.ensures
