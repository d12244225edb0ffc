-- Steps of the code; no public clause cites them.
-- How far reading has come, and the files that are as those that were read (own).
use Rattle.std.specs.Prelude.{◌≡◌, ◌⊎◌, ℕ, Bool, true, false, List, [], ◌∷◌, ◌++◌, Result, Ok, Err, Some, None, map, ⊤}
use Rattle.std.specs.declared.option.Option.{Option}
use Rattle.std.specs.List.{list_any, All}
use Rattle.std.specs.Str.{bytes_eq}
use Rattle.geda_defs.specs.Contents.{Files, KeepsFiles, read_part}
use Rattle.geda_model.specs.Sheets.{SheetData}
use Rattle.project_files.specs.declared.fault.FileFault.{FileFault}
use Rattle.project_files.specs.Gathering.{ProjectFiles, AskedSymbol, Gathered, has_file_name}

-- the file of a sheet that was found, until its turn comes
pub record SheetFileData : Type 0 where
  pub name : List ℕ
  pub bytes : List ℕ

-- what is asked for so far: the queue of sheets; the files that are read of those whose turn comes;
-- the names that the folder has no sheet of; and the symbol files
pub record AskedData : Type 0 where
  pub queue : List (List ℕ)
  pub waiting : List SheetFileData
  pub absent : List (List ℕ)
  pub symbols : List AskedSymbol

-- the same, with these files waiting
abbrev pub with_waiting : AskedData → List SheetFileData → AskedData
with_waiting asked files = record {
  queue = asked.queue;
  waiting = files;
  absent = asked.absent;
  symbols = asked.symbols;
}

-- the first of the files that wait is taken, and all else stays; where none waits, nothing changes
abbrev pub TakesNext : AskedData → Option SheetFileData → AskedData → Type 0
TakesNext before None now = (before.waiting ≡ []) × (now ≡ before)
TakesNext before (Some file) now = before ≡ with_waiting now (file ∷ now.waiting)

-- what is gathered, with the sheets that are read
abbrev pub gathered : List SheetData → AskedData → Gathered
gathered sheets asked = record { queue = asked.queue; sheets = sheets; symbols = asked.symbols }

-- a name is in a list
abbrev pub is_in : List ℕ → List (List ℕ) → Bool
is_in name names = list_any (bytes_eq name) names

-- a name is that of a symbol file that was asked for
abbrev pub is_asked_symbol : List ℕ → List AskedSymbol → Bool
is_asked_symbol name symbols = list_any (has_file_name name) symbols

-- how far reading has come: what is asked for, the names of the sheets that are read, the words
-- whose files are not asked for yet, and files that are as those that were read
pub record Progress : Type 0 where
  pub asked : AskedData
  pub read : List (List ℕ)
  pub words : List (List ℕ)
  pub files : ProjectFiles

-- the same, were these the files
abbrev pub with_files : Progress → ProjectFiles → Progress
with_files p files = record {
  asked = p.asked;
  read = p.read;
  words = p.words;
  files = files;
}

-- reading has come to here
abbrev pub at : AskedData → List (List ℕ) → List (List ℕ) → ProjectFiles → Progress
at asked read words files = record { asked = asked; read = read; words = words; files = files }

-- the file of a sheet was asked for
abbrev pub IsAsked : Progress → List ℕ → Type 0
IsAsked p name =
    (is_in name p.asked.absent ≡ true)
    ⊎ ((is_in name p.asked.queue ≡ true) × (is_in name p.words ≡ false))

-- what was asked for before stays so, and its files are the same
pub record Follows (before now : Progress) : Type 0 where
  pub sheets : (name : List ℕ) → IsAsked before name →
      IsAsked now name × (now.files.sheets name ≡ before.files.sheets name)
  pub symbols : (name : List ℕ) → is_asked_symbol name before.asked.symbols ≡ true →
      (is_asked_symbol name now.asked.symbols ≡ true)
      × (now.files.symbols name ≡ before.files.symbols name)

-- this was found of a file, or of its first bytes
abbrev pub IsFoundOf : Option (List ℕ) → Option (List ℕ) → Type 0
IsFoundOf found file = (file ≡ found) ⊎ (read_part file ≡ found)

-- a sheet whose turn comes was asked for, and its file begins so
abbrev pub IsWaiting : Progress → SheetFileData → Type 0
IsWaiting p sheet =
    IsAsked p sheet.name × IsFoundOf (Some sheet.bytes) (p.files.sheets sheet.name)

-- the files are those that a folder tells, where it tells them
abbrev pub AreTold : Option Files → ProjectFiles → Type 0
AreTold None files = ⊤
AreTold (Some known) files = files ≡ record { sheets = known; symbols = known }

-- the files are as those that were read; the queue has what is read, the words, and what waits
pub record Fits (told : Option Files) (p : Progress) : Type 0 where
  pub as_told : AreTold told p.files
  pub queue : p.asked.queue ≡ p.read ++ (p.words ++ map (λ s. s.name) p.asked.waiting)
  pub waiting : All (IsWaiting p) p.asked.waiting
  pub absent : (name : List ℕ) → is_in name p.asked.absent ≡ true → p.files.sheets name ≡ None
  pub apart : (name : List ℕ) → is_in name p.asked.absent ≡ true →
      is_in name p.asked.queue ≡ false

-- it has come to here, where something holds of all files that are as those that were read
pub record Reaches (told : Option Files) (before now : Progress) (Holds : ProjectFiles → Type 0)
    : Type 0 where
  pub follows : Follows before now
  pub fits : Fits told now
  pub holds : (files : ProjectFiles) → Follows now (with_files now files) → Holds files

-- it ends, and something holds of some files that are as those that were read
pub record EndsAt (told : Option Files) (before : Progress) (files : ProjectFiles)
    (Holds : ProjectFiles → Type 0) : Type 0 where
  pub follows : Follows before (with_files before files)
  pub as_told : AreTold told files
  pub holds : Holds files

-- from wherever reading had come to: more is asked for, and something holds of the files
abbrev pub Leads : Option Files → AskedData → AskedData → (ProjectFiles → Type 0) → Type 0
Leads files before now Holds =
    (told : Option Files) → KeepsFiles told files →
    (read words : List (List ℕ)) (old : ProjectFiles) → Fits told (at before read words old) →
    (new : ProjectFiles) × Reaches told (at before read words old) (at now read words new) Holds

-- the same at a fault, after which nothing is asked for
abbrev pub LeadsOut : Option Files → AskedData → (ProjectFiles → Type 0) → Type 0
LeadsOut files before Holds =
    (told : Option Files) → KeepsFiles told files →
    (read words : List (List ℕ)) (old : ProjectFiles) → Fits told (at before read words old) →
    (new : ProjectFiles) × EndsAt told (at before read words old) new Holds

-- what a call leads to that asks for more
abbrev pub Asks : Option Files → AskedData →
    (ProjectFiles → Result AskedData FileFault → Type 0) → Result AskedData FileFault → Type 0
Asks files before Holds (Ok now) = Leads files before now (λ known. Holds known (Ok now))
Asks files before Holds (Err fault) = LeadsOut files before (λ known. Holds known (Err fault))
