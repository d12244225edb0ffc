use Rattle.std.proofs.Common.{◌≡◌, ap}
use Rattle.reports.specs.NetLists.{CheckData}
use Rattle.reports.proofs.ReportLemmas.{check_told, net_refused, net_told}
use Rattle.reports.proofs.each_report.report.Goals as goal

pub returns-in_err-board_report-in-Net : goal.returns-in_err-board_report-in-Net
returns-in_err-board_report-in-Net c =
    let refused = net_refused c.args.board.now.project c.args.matrix.now c.in-Net.form c.in_err-board_report-in-Net.field-0.0 c.from_residual.result c.from_residual.ensures.1 c.in_err-board_report-in-Net.ensures in
    rw c.in-Net.is refused

pub returns-in_ok-board_report-in-Net : goal.returns-in_ok-board_report-in-Net
returns-in_ok-board_report-in-Net c =
    let told = net_told c.args.board.now.project c.args.matrix.now c.in-Net.form c.in_ok-board_report-in-Net.field-0.items c.in_ok-board_report-in-Net.ensures in
    rw c.in-Net.is told

pub returns-in_ok-board_check-in-Drc : goal.returns-in_ok-board_check-in-Drc
returns-in_ok-board_check-in-Drc c =
    let told = check_told c.args.board.now.project c.args.matrix.now c.in_ok-board_check-in-Drc.field-0 c.in_ok-board_check-in-Drc.ensures in
    let text : c.result.inside.text.items ≡ c.in_ok-board_check-in-Drc.field-0.text = ap (λ (check : CheckData). check.text) c.result.view_is in
    rw (c.in-Drc.is, text) told
