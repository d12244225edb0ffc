-- What the files of a folder are after some were written (own).
use Rattle.std.specs.Prelude.{◌≡◌, ◌≢◌, ⊤, ℕ, if◌then◌else◌, List, [], ◌∷◌, Some, None, take}
use Rattle.std.specs.declared.option.Option.{Option}
use Rattle.std.specs.List.{slice_get}
use Rattle.std.specs.Str.{bytes_eq}
use Rattle.geda_defs.specs.Contents.{Files}
use Rattle.outside.specs.Counts.{Counts}
use Rattle.renum_files.specs.RenumberedFiles.{File}

-- the files that a folder tells, and how often it failed, before a run and after it
pub record FolderRun : Type 0 where
  pub old : Option Files
  pub new : Option Files
  pub faults : Counts

-- the three, from what was told before and after
abbrev pub folder_run : Option Files → Option Files → Counts → FolderRun
folder_run old new faults = record { old = old; new = new; faults = faults }

-- files with one in the place of that of its name
abbrev pub with_file : Files → File → Files
with_file files file name = if bytes_eq file.0 name then Some file.1 else files name

-- files with others in their places, one after the other
abbrev pub with_files : Files → List File → Files
with_files files [] = files
with_files files (file ∷ more) = with_files (with_file files file) more

-- told files are as they were, but for these, which are written
abbrev pub HasFiles : Option Files → Option Files → List File → Type 0
HasFiles None new written = ⊤
HasFiles (Some old) None written = ⊥
HasFiles (Some old) (Some new) written = (name : List ℕ) → new name ≡ with_files old written name

-- the same of all but one, of which nothing is said
abbrev pub HasFilesBut : List ℕ → Option Files → Option Files → List File → Type 0
HasFilesBut but None new written = ⊤
HasFilesBut but (Some old) None written = ⊥
HasFilesBut but (Some old) (Some new) written =
    (name : List ℕ) → name ≢ but → new name ≡ with_files old written name

-- all files are written
abbrev pub WroteFiles : FolderRun → List File → Type 0
WroteFiles folder files = HasFiles folder.old folder.new files

-- the first so many are written, and of the one after them nothing is said
abbrev pub WroteSome : FolderRun → List File → Type 0
WroteSome folder files =
    (n : ℕ) × (next : File) × (slice_get files n ≡ Some next)
    × HasFilesBut next.0 folder.old folder.new (take n files)
