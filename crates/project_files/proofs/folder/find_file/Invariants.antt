use Rattle.std.proofs.Common.{◌≡◌, map}
use Rattle.project_files.specs.MemoryFolder.{file_in}
use Rattle.project_files.proofs.folder.find_file.Given as goal

abbrev pub invariant-loop-key : goal.invariant-loop-key
invariant-loop-key l = file_in (map (λ e. (e.0, e.1.items)) l.key-iterator) l.name ≡ file_in (map (λ e. (e.0, e.1.items)) l.files.entries) l.name
