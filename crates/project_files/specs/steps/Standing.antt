-- Steps of the code; no public clause cites them.
-- The sheets that are read so far, and what is gathered at the end (own).
use Rattle.std.specs.Prelude.{◌≡◌, ℕ, List, [], Result, Ok, Err, length, ◌≢◌}
use Rattle.std.specs.declared.option.Option.{Option}
use Rattle.geda_defs.specs.Contents.{Files}
use Rattle.geda_model.specs.Sheets.{SheetData}
use Rattle.project_files.specs.declared.fault.FileFault.{FileFault}
use Rattle.project_files.specs.Gathering.{AskedSymbol, Gathered, ProjectFiles, unread}
use Rattle.std.specs.List.{AllPairs}
use Rattle.project_files.specs.ProjectFiles.{OfFiles, SheetsComeTo}
use Rattle.project_files.specs.steps.Progress.{AskedData, Fits, Follows, Progress, at, gathered, with_files}

-- all sheets are read; no symbol stands twice
pub record IsWhole (g : Gathered) : Type 0 where
  pub sheets : length g.sheets ≡ length g.queue
  pub symbols_apart : AllPairs (λ (a b : AskedSymbol). a.0 ≢ b.0) g.symbols

-- what is read from a folder, from these sheets on
abbrev pub ReadsFrom : Option Files → List (List ℕ) → Result Gathered FileFault → Type 0
ReadsFrom files names read =
    OfFiles files (λ known. (count : ℕ) × SheetsComeTo known count (unread names) read)

-- whatever comes of the sheets that are left comes of all
abbrev pub Continues : List (List ℕ) → Gathered → ProjectFiles → Type 0
Continues names g files =
    (count : ℕ) (outcome : Result Gathered FileFault) → SheetsComeTo files count g outcome →
    (n : ℕ) × SheetsComeTo files n (unread names) outcome

-- these words are to be read, and nothing is asked for
pub record IsStart (names : List (List ℕ)) (asked : AskedData) : Type 0 where
  pub queue : asked.queue ≡ names
  pub waiting : asked.waiting ≡ []
  pub absent : asked.absent ≡ []
  pub symbols : asked.symbols ≡ []

-- reading stands here: so many sheets are read, and the rest decides what all comes to
pub record Stands (told : Option Files) (names : List (List ℕ)) (sheets : List SheetData)
    (now : Progress) : Type 0 where
  pub fits : Fits told now
  pub count : length now.read ≡ length sheets
  pub rest : (files : ProjectFiles) → Follows now (with_files now files) →
      Continues names (gathered sheets now.asked) files

-- the same, with some files that are as those that were read
pub record StandsAt (told : Option Files) (names read words : List (List ℕ)) (asked : AskedData)
    (sheets : List SheetData) : Type 0 where
  pub files : ProjectFiles
  pub stands : Stands told names sheets (at asked read words files)

-- all words are read, or a fault is met
abbrev pub ReadsWords : Option Files → List (List ℕ) →
    Result (AskedData × List SheetData) FileFault → Type 0
ReadsWords told names (Ok now) = StandsAt told names names [] now.0 now.1
ReadsWords told names (Err fault) = ReadsFrom told names (Err fault)
