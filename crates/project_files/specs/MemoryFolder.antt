-- What the folder in memory holds, and how a call changes it (own).
use Rattle.std.specs.Prelude.{ℕ, if◌then◌else◌, List, [], ◌∷◌, Some, None, map, Contains, Vec}
use Rattle.std.specs.declared.option.Option.{Option}
use Rattle.std.specs.Str.{bytes_eq}
use Rattle.std.specs.declared.alloc.Global.{Global}
use Rattle.std.specs.BTreeMap.{BTreeMap, insert_entry}
use Rattle.geda_defs.specs.Order.{by_bytes}
use Rattle.outside.specs.Counts.{one_more}

-- files by name, the numbers of the calls that fail, and how many calls there were and failed
pub record MemoryFolderData : Type 0 where
  pub files : List (List ℕ × List ℕ)
  pub failing : List ℕ
  pub calls : ℕ
  pub faults : ℕ

-- the files of a map, in order of their names
abbrev pub files_in : BTreeMap (List ℕ) (Vec ℕ Global) → List (List ℕ × List ℕ)
files_in files = map (λ e. (e.0, e.1.items)) files.entries

-- the file of a name
abbrev pub file_in : List (List ℕ × List ℕ) → List ℕ → Option (List ℕ)
file_in [] name = None
file_in (file ∷ files) name = if bytes_eq file.0 name then Some file.1 else file_in files name

-- the next call of the folder is to fail
abbrev pub FolderFails : MemoryFolderData → Type 0
FolderFails folder = Contains folder.failing (one_more folder.calls)

-- the folder after a call that did not fail and wrote nothing, whether or not there was memory
abbrev pub folder_after_read : MemoryFolderData → MemoryFolderData
folder_after_read folder = record {
  files = folder.files;
  failing = folder.failing;
  calls = one_more folder.calls;
  faults = folder.faults;
}

-- the folder after a call that wrote a file
abbrev pub folder_after_write : MemoryFolderData → List ℕ → List ℕ → MemoryFolderData
folder_after_write folder name bytes = record {
  files = insert_entry by_bytes folder.files name bytes;
  failing = folder.failing;
  calls = one_more folder.calls;
  faults = folder.faults;
}

-- the folder after a call that failed
abbrev pub folder_after_fault : MemoryFolderData → MemoryFolderData
folder_after_fault folder = record {
  files = folder.files;
  failing = folder.failing;
  calls = one_more folder.calls;
  faults = one_more folder.faults;
}
