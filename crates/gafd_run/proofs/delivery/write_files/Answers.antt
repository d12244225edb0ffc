use Rattle.std.proofs.Common.{◌≡◌, ℕ, List, take, Ok, sym, ap, subst, ◌∙◌, arith}
use Rattle.project_files.specs.FolderWrites.{WritesFile}
use Rattle.project_files.specs.declared.folder.FolderFault.{FolderFault}
use Rattle.renum_files.specs.RenumberedFiles.{File}
use Rattle.gafd_run.specs.Writing.{HasFiles}
use Rattle.gafd_run.proofs.WritingLemmas.{has_next, take_next}
use Rattle.gafd_run.proofs.delivery.write_files.Goals as goal

pub loop-file-preserved : goal.loop-file-preserved
loop-file-preserved g c =
    let old = g.F.Folder.files c.args.folder.now in
    let mid = g.F.Folder.files c.loop-file.folder in
    let new = g.F.Folder.files c.write.new.self in
    let files = c.args.files.now in
    let i = c.loop-file.file-index in
    let x : File = c.file-item.result in
    let name : c.as_str.result.now ≡ x.0 = c.as_str.ensures.text ∙ ap (λ (f : File). f.0) c.file.view_is in
    let bytes : c.deref.result.now ≡ x.1 = c.deref.ensures.value ∙ ap (λ (f : File). f.1) c.file.view_is in
    let wrote = subst (λ (n : List ℕ). WritesFile {E = FolderFault} mid new n x.1 (Ok tt)) name (subst (λ (b : List ℕ). WritesFile {E = FolderFault} mid new c.as_str.result.now b (Ok tt)) bytes c.in_ok-write.ensures.file) in
    record {
      has = subst (HasFiles old new) (sym (take_next files i x c.loop-file-test.true c.file-item.is)) (has_next old mid new (take i files) x c.loop-file.invariant.has wrote);
      later = omega (arith, c.loop-file.invariant.later, c.in_ok-write.ensures.cause.later);
    }
