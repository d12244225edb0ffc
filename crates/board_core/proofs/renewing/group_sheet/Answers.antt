use Rattle.std.proofs.Common.{◌≡◌, List, [], length, sym, ap, subst, ◌∙◌, arith}
use Rattle.group_runs.specs.Runs.{AreFree, Coming, sheets_in, with_all, without}
use Rattle.group_runs.specs.Sheets.{AreGone, AreKept, KeepsUntouched, kept_at}
use Rattle.board_core.proofs.HoldLemmas.{fresh, renewed_err, renewed_ok, renewed_others, renewed_still, renewing_free, renewing_free_steps, renewing_kept}
use Rattle.board_core.proofs.renewing.group_sheet.Goals as goal

pub apply-requires-clause-coming_kept : goal.apply-requires-clause-coming_kept
apply-requires-clause-coming_kept c =
    let p = c.args.project.now.contents in
    let sheet = c.args.sheet.now in
    let old = c.args.groups.now in
    let opened = c.open.new.self in
    let is : c.deref.result.now ≡ fresh p sheet = c.deref.ensures.value ∙ c.in_ok-coming.ensures in
    subst (λ (cs : List Coming). AreKept opened.rows (sheets_in cs)) (sym is)
    (renewing_kept p sheet old.rows opened.rows opened.rows c.requires.held c.requires.not_kept c.in_ok-open.ensures.kept c.in_ok-open.ensures.conductors c.open.ensures.others)

pub apply-requires-clause-free : goal.apply-requires-clause-free
apply-requires-clause-free c =
    let p = c.args.project.now.contents in
    let sheet = c.args.sheet.now in
    let old = c.args.groups.now in
    let opened = c.open.new.self in
    let is : c.deref.result.now ≡ fresh p sheet = c.deref.ensures.value ∙ c.in_ok-coming.ensures in
    subst (λ (cs : List Coming). AreFree (kept_at opened.rows) cs) (sym is)
    (renewing_free p sheet old.rows opened.rows opened.rows c.requires.held c.requires.not_kept c.in_ok-open.ensures.kept c.in_ok-open.ensures.conductors c.open.ensures.others)

pub returns-in_err-apply-clause-held : goal.returns-in_err-apply-clause-held
returns-in_err-apply-clause-held c =
    let p = c.args.project.now.contents in
    let sheet = c.args.sheet.now in
    let old = c.args.groups.now in
    let opened = c.open.new.self in
    let is : c.deref.result.now ≡ fresh p sheet = c.deref.ensures.value ∙ c.in_ok-coming.ensures in
    renewed_err p sheet old.rows opened.rows c.apply.new.self.rows c.requires.held c.requires.not_kept c.in_ok-open.ensures.kept c.in_ok-open.ensures.conductors c.open.ensures.others
    (subst (λ (cs : List Coming). KeepsUntouched [] cs opened.rows c.apply.new.self.rows) is c.apply.ensures.others)
    (subst (λ (cs : List Coming). AreGone (sheets_in cs) c.apply.new.self.rows) is c.in_err-apply.ensures.come_gone) c.apply.ensures.entries

pub returns-in_err-apply-clause-others : goal.returns-in_err-apply-clause-others
returns-in_err-apply-clause-others c =
    let p = c.args.project.now.contents in
    let sheet = c.args.sheet.now in
    let old = c.args.groups.now in
    let opened = c.open.new.self in
    let is : c.deref.result.now ≡ fresh p sheet = c.deref.ensures.value ∙ c.in_ok-coming.ensures in
    renewed_others p sheet old.rows opened.rows c.apply.new.self.rows c.requires.held c.requires.not_kept c.in_ok-open.ensures.kept c.in_ok-open.ensures.conductors c.open.ensures.others
    (subst (λ (cs : List Coming). KeepsUntouched [] cs opened.rows c.apply.new.self.rows) is c.apply.ensures.others)

pub returns-in_err-apply-clause-still : goal.returns-in_err-apply-clause-still
returns-in_err-apply-clause-still c =
    let p = c.args.project.now.contents in
    let sheet = c.args.sheet.now in
    let old = c.args.groups.now in
    let opened = c.open.new.self in
    let is : c.deref.result.now ≡ fresh p sheet = c.deref.ensures.value ∙ c.in_ok-coming.ensures in
    renewed_still p sheet old.rows opened.rows c.apply.new.self.rows c.requires.held c.requires.not_kept c.in_ok-open.ensures.kept c.in_ok-open.ensures.conductors c.open.ensures.others
    (subst (λ (cs : List Coming). KeepsUntouched [] cs opened.rows c.apply.new.self.rows) is c.apply.ensures.others)

pub returns-in_err-apply-clause-free : goal.returns-in_err-apply-clause-free
returns-in_err-apply-clause-free c =
    let p = c.args.project.now.contents in
    let sheet = c.args.sheet.now in
    let old = c.args.groups.now in
    let opened = c.open.new.self in
    let is : c.deref.result.now ≡ fresh p sheet = c.deref.ensures.value ∙ c.in_ok-coming.ensures in
    renewing_free_steps p sheet old.rows opened.rows c.apply.new.self.rows c.requires.held c.requires.not_kept c.in_ok-open.ensures.kept c.in_ok-open.ensures.conductors c.open.ensures.others old.steps c.apply.new.self.steps
    (λ sum sizes. let h = c.apply.ensures.steps sum sizes in let long = ap length is in let same = c.open.ensures.steps in omega (arith, h, long, same))

pub returns-clause-held : goal.returns-clause-held
returns-clause-held c =
    let p = c.args.project.now.contents in
    let sheet = c.args.sheet.now in
    let old = c.args.groups.now in
    let opened = c.open.new.self in
    let is : c.deref.result.now ≡ fresh p sheet = c.deref.ensures.value ∙ c.in_ok-coming.ensures in
    renewed_ok p sheet old.rows opened.rows c.apply.new.self.rows c.requires.held c.requires.not_kept c.in_ok-open.ensures.kept c.in_ok-open.ensures.conductors c.open.ensures.others
    (subst (λ (cs : List Coming). KeepsUntouched [] cs opened.rows c.apply.new.self.rows) is c.apply.ensures.others)
    c.in_ok-apply.ensures.kept (c.in_ok-apply.ensures.conductors ∙ ap (λ (cs : List Coming). with_all (without (kept_at opened.rows) []) cs) is)

pub returns-clause-others : goal.returns-clause-others
returns-clause-others c =
    let p = c.args.project.now.contents in
    let sheet = c.args.sheet.now in
    let old = c.args.groups.now in
    let opened = c.open.new.self in
    let is : c.deref.result.now ≡ fresh p sheet = c.deref.ensures.value ∙ c.in_ok-coming.ensures in
    renewed_others p sheet old.rows opened.rows c.apply.new.self.rows c.requires.held c.requires.not_kept c.in_ok-open.ensures.kept c.in_ok-open.ensures.conductors c.open.ensures.others
    (subst (λ (cs : List Coming). KeepsUntouched [] cs opened.rows c.apply.new.self.rows) is c.apply.ensures.others)

pub returns-clause-free : goal.returns-clause-free
returns-clause-free c =
    let p = c.args.project.now.contents in
    let sheet = c.args.sheet.now in
    let old = c.args.groups.now in
    let opened = c.open.new.self in
    let is : c.deref.result.now ≡ fresh p sheet = c.deref.ensures.value ∙ c.in_ok-coming.ensures in
    renewing_free_steps p sheet old.rows opened.rows c.apply.new.self.rows c.requires.held c.requires.not_kept c.in_ok-open.ensures.kept c.in_ok-open.ensures.conductors c.open.ensures.others old.steps c.apply.new.self.steps
    (λ sum sizes. let h = c.apply.ensures.steps sum sizes in let long = ap length is in let same = c.open.ensures.steps in omega (arith, h, long, same))
