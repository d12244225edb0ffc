use Rattle.std.proofs.Common.{◌≡◌, IfOk, subst}
use Rattle.project_model.specs.Projects.{ProjectData}
use Rattle.drc_rules.specs.Findings.{findings}
use Rattle.drc_rules.proofs.check.findings.Goals as goal

pub returns-clause-findings : goal.returns-clause-findings
returns-clause-findings c =
    subst (λ (p : ProjectData). IfOk c.findings_on.result (λ list. list.items ≡ findings p c.args.nets.now c.args.matrix.now)) c.in_ok-objects.ensures c.findings_on.ensures.findings
