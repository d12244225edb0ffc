use Rattle.std.proofs.Common.{◌≡◌, ℕ, ◌<◌, ◌+◌, suc, List, [], ◌∷◌, Ok, Err, drop, drop-cons, length, sym, ap, subst, ◌∙◌, arith}
use Rattle.std.proofs.lemmas.Result.{err_from_is_err_and}
use Rattle.sym_check.specs.declared.report.CheckedFile.{CheckedFile}
use Rattle.project_files.proofs.Passing.{fault_later}
use Rattle.symbol_files.specs.CheckedFiles.{ChecksFrom, FileChecksFrom}
use Rattle.symbol_files.proofs.CheckLemmas.{came, goes_on, kept_on, stays, stops}
use Rattle.symbol_files.proofs.files.checked_files.Goals as goal

pub loop-name-init : goal.loop-name-init
loop-name-init g c = record {
  comes = λ outcome h. subst (λ (done : List CheckedFile). ChecksFrom (g.F.Folder.files c.args.folder.now) done c.args.names.now outcome) c.new-checked.ensures.items h;
  kept = stays (g.F.Folder.files c.args.folder.now);
  later = omega arith;
}

pub returns-in_err-file-clause-read : goal.returns-in_err-file-clause-read
returns-in_err-file-clause-read g c =
    let p = err_from_is_err_and c.from_residual.result c.from_residual.ensures.1 in
    let told = g.F.Folder.files c.args.folder.now in
    let now = g.F.Folder.files c.loop-name.folder in
    let names = c.args.names.now in
    let i = c.loop-name.name-index in
    let name = c.name-item.result in
    let h : i < length names = omega arith in
    let next : suc i ≡ i + 1 = omega arith in
    let left : drop i names ≡ name ∷ drop (i + 1) names = drop-cons names i name h ∙ ap (λ (n : List ℕ). n ∷ drop (suc i) names) (sym c.name-item.is) ∙ ap (λ (k : ℕ). name ∷ drop k names) next in
    let fault = c.in_err-file.field-0.0 in
    let done : List CheckedFile = c.loop-name.checked.items in
    rw (p.1, p.2) (fault_later (g.F.Folder.faults c.args.folder.now) (g.F.Folder.faults c.loop-name.folder) _ (FileChecksFrom now name) (ChecksFrom told [] names) fault c.loop-name.invariant.later
    (λ from. c.loop-name.invariant.comes (Err fault) (subst (λ (l : List (List ℕ)). ChecksFrom told done l (Err fault)) (sym left) (stops told done name (drop (i + 1) names) fault (came told now name (Err fault) c.loop-name.invariant.kept from))))
    c.in_err-file.ensures.read)

pub returns-in_err-file-clause-files : goal.returns-in_err-file-clause-files
returns-in_err-file-clause-files g c = kept_on (g.F.Folder.files c.args.folder.now) (g.F.Folder.files c.loop-name.folder) (g.F.Folder.files c.check_file.new.folder) c.loop-name.invariant.kept c.in_err-file.ensures.files

pub loop-name-preserved : goal.loop-name-preserved
loop-name-preserved g c =
    let told = g.F.Folder.files c.args.folder.now in
    let now = g.F.Folder.files c.loop-name.folder in
    let names = c.args.names.now in
    let i = c.loop-name.name-index in
    let name = c.name-item.result in
    let h : i < length names = omega arith in
    let next : suc i ≡ i + 1 = omega arith in
    let left : drop i names ≡ name ∷ drop (i + 1) names = drop-cons names i name h ∙ ap (λ (n : List ℕ). n ∷ drop (suc i) names) (sym c.name-item.is) ∙ ap (λ (k : ℕ). name ∷ drop k names) next in
    let done : List CheckedFile = c.loop-name.checked.items in
    let file : CheckedFile = c.in_ok-file.file in
    record {
      comes = λ outcome rest. c.loop-name.invariant.comes outcome (subst (λ (l : List (List ℕ)). ChecksFrom told done l outcome) (sym left)
          (goes_on told done name (drop (i + 1) names) file outcome (came told now name (Ok file) c.loop-name.invariant.kept c.in_ok-file.ensures.read)
          (subst (λ (all : List CheckedFile). ChecksFrom told all (drop (i + 1) names) outcome) c.in_ok-push.ensures.items rest)));
      kept = kept_on told now (g.F.Folder.files c.check_file.new.folder) c.loop-name.invariant.kept c.in_ok-file.ensures.files;
      later = omega arith;
    }
