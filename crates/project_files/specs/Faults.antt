-- What a fault of the folder becomes (own).
use Rattle.std.specs.Prelude.{◌≡◌}
use Rattle.project_files.specs.declared.fault.FileFault.{FileFault}
use Rattle.project_files.specs.declared.fault.FileFault.TheVariants as faults
use Rattle.project_files.specs.declared.folder.FolderFault.{FolderFault}
use Rattle.project_files.specs.declared.folder.FolderFault.TheVariants as folder

-- the fault of a project of files by one of the folder
abbrev pub IsFaultOfFolder : FolderFault → FileFault → Type 0
IsFaultOfFolder folder.Failed e = e ≡ faults.FolderFault
IsFaultOfFolder folder.NoMemory e = e ≡ faults.NoMemory
