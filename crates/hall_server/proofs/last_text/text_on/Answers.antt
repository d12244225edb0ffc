use Rattle.std.proofs.Common.{◌≡◌, List, Ok, ap, subst}
use Rattle.pin_matrix.specs.Matrices.{usual}
use Rattle.pin_matrix.specs.declared.level.Level.{Level}
use Rattle.reports.specs.declared.what.What.TheVariants.{Drc}
use Rattle.reports.specs.NetLists.{CheckData}
use Rattle.reports.specs.Reports.{Reports}
use Rattle.reports.proofs.ReportLemmas.{check_told, net_refused, net_told}
use Rattle.hall_server.proofs.last_text.text_on.Goals as goal

pub returns-in_err-net_report-in-Net : goal.returns-in_err-net_report-in-Net
returns-in_err-net_report-in-Net c =
    let refused = net_refused c.args.project.now.contents usual c.in-Net.form c.in_err-net_report-in-Net.field-0.0 c.from_residual.result c.from_residual.ensures.1 c.in_err-net_report-in-Net.ensures in
    rw c.in-Net.is refused

pub returns-in_ok-net_report-in-Net : goal.returns-in_ok-net_report-in-Net
returns-in_ok-net_report-in-Net c =
    let told = net_told c.args.project.now.contents usual c.in-Net.form c.in_ok-net_report-in-Net.field-0.items c.in_ok-net_report-in-Net.ensures in
    rw c.in-Net.is told

pub returns-in_ok-check-in-Drc : goal.returns-in_ok-check-in-Drc
returns-in_ok-check-in-Drc c =
    let check = c.in_ok-check-in-Drc.field-0 in
    let made = check_told c.args.project.now.contents c.usual.result check c.in_ok-check-in-Drc.ensures in
    let told = subst (λ (matrix : List Level). Reports c.args.project.now.contents matrix Drc (Ok check.text)) c.usual.ensures made in
    let text : c.result.inside.text.items ≡ check.text = ap (λ (seen : CheckData). seen.text) c.result.view_is in
    rw (c.in-Drc.is, text) told
