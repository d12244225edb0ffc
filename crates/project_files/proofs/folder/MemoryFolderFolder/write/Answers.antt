use Rattle.std.proofs.Common.{ℕ, List, ap, ◌∙◌}
use Rattle.project_files.specs.MemoryFolder.{MemoryFolderData, file_in, files_in}
use Rattle.project_files.proofs.WriteLemmas.{file_put, others_kept}
use Rattle.project_files.proofs.folder.MemoryFolderFolder.write.Goals as goal

pub returns-clause-file : goal.returns-clause-file
returns-clause-file c =
    let made = c.in_ok-put_file.ensures.ok in
    let before = files_in c.self.inside.files in
    let same = ap (λ (m : MemoryFolderData). m.files) c.self.view_is in
    let name = c.args.name.now in
    let bytes = c.args.bytes.now in (
      ap (λ (files : List (List ℕ × List ℕ)). file_in files name) made ∙ file_put before name bytes,
      λ other differ. ap (λ (files : List (List ℕ × List ℕ)). file_in files other) made ∙ others_kept before name bytes other differ ∙ ap (λ (files : List (List ℕ × List ℕ)). file_in files other) same,
    )
