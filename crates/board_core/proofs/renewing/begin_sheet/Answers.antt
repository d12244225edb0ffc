use Rattle.std.proofs.Common.{sym, subst}
use Rattle.board_core.specs.steps.Kept.{HoldsProject}
use Rattle.board_core.proofs.BoardLemmas.{all_kept}
use Rattle.board_core.proofs.RenewLemmas.{begun_holds, begun_keeps}
use Rattle.board_core.proofs.renewing.begin_sheet.Goals as goal

pub returns-clause-held : goal.returns-clause-held
returns-clause-held c =
    let old = c.args.groups.now in
    let sheet = c.args.sheet.now in
    λ p held. begun_holds old.rows c.open.new.self.rows sheet c.requires.not_kept c.open.ensures.others p held (all_kept old.rows c.requires.fresh sheet) c.in_ok-open.ensures.kept c.in_ok-open.ensures.conductors

pub returns-clause-still : goal.returns-clause-still
returns-clause-still c = begun_keeps c.args.groups.now.rows c.open.new.self.rows c.args.sheet.now c.requires.not_kept c.open.ensures.others

pub returns-in_err-open-clause-still : goal.returns-in_err-open-clause-still
returns-in_err-open-clause-still c = begun_keeps c.args.groups.now.rows c.open.new.self.rows c.args.sheet.now c.requires.not_kept c.open.ensures.others

pub returns-in_err-open-clause-held : goal.returns-in_err-open-clause-held
returns-in_err-open-clause-held c = λ p held. subst (HoldsProject p) (sym c.in_err-open.ensures.err) held
