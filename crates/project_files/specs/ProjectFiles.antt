-- The project of the files: the sheets that are named, those below them, and the symbols that they
-- ask for (own).
use Rattle.std.specs.Prelude.{◌≡◌, ℕ, zero, suc, List, [], ◌∷◌, ◌++◌, Result, Ok, Err, Some, None, ⊤, length}
use Rattle.std.specs.declared.option.Option.{Option}
use Rattle.std.specs.List.{slice_get}
use Rattle.geda_defs.specs.Contents.{Files}
use Rattle.geda_model.specs.Sheets.{SheetData}
use Rattle.project_model.specs.Projects.{ProjectData}
use Rattle.geda_grammar.specs.Faults.{sheet_file}
use Rattle.project_files.specs.declared.fault.FileFault.{FileFault}
use Rattle.project_files.specs.Gathering.{Gathered, ObjectsComeTo, ProjectFiles, unread}
use Rattle.project_files.specs.FileReads.{FileComesTo, ReadAs, Then}
use Rattle.project_files.specs.Opening.{gathered_project}
use Rattle.outside.specs.Counts.{Counts, Failed}
use Rattle.project_files.specs.declared.fault.FileFault.TheVariants as faults

-- with one more sheet that is read
abbrev pub with_read_sheet : Gathered → SheetData → Gathered
with_read_sheet g sheet = record {
  queue = g.queue;
  sheets = g.sheets ++ sheet ∷ [];
  symbols = g.symbols;
}

-- what a sheet comes to that is read
abbrev pub SheetComesTo :
    ProjectFiles → Gathered → SheetData → Result Gathered FileFault → Type 0
SheetComesTo files g sheet outcome =
    ObjectsComeTo files sheet.objects (with_read_sheet g sheet) outcome

-- what the file of a sheet comes to
abbrev pub SheetFileComesTo :
    ProjectFiles → Gathered → List ℕ → Result Gathered FileFault → Type 0
SheetFileComesTo files g name outcome =
    FileComesTo (faults.Missing name)
    (ReadAs sheet_file (faults.Refused name) (SheetComesTo files g)) (files.sheets name) outcome

-- the sheet that is read next
abbrev pub next_sheet : Gathered → Option (List ℕ)
next_sheet g = slice_get g.queue (length g.sheets)

-- what so many further sheets come to, after which none is left; less than so many, where there
-- is a fault
abbrev pub SheetsComeTo : ProjectFiles → ℕ → Gathered → Result Gathered FileFault → Type 0
SheetsComeTo files zero g outcome = (next_sheet g ≡ None) × (outcome ≡ Ok g)
SheetsComeTo files (suc n) g outcome =
    (name : List ℕ) × (next_sheet g ≡ Some name)
    × ((read : Result Gathered FileFault) × SheetFileComesTo files g name read
    × Then read (SheetsComeTo files n) outcome)

-- the project that is gathered from the files of sheets with these names, or the first fault that
-- is met
abbrev pub GathersTo : ProjectFiles → List (List ℕ) → Result ProjectData FileFault → Type 0
GathersTo files names outcome =
    (count : ℕ)
    × ((read : Result Gathered FileFault) × SheetsComeTo files count (unread names) read
    × Then read (λ g end. end ≡ gathered_project g) outcome)

-- something holds of the files of sheets and symbols that a folder tells; where it tells none, of
-- some files
abbrev pub OfFiles : Option Files → (ProjectFiles → Type 0) → Type 0
OfFiles None P = (files : ProjectFiles) × P files
OfFiles (Some files) P = P (record { sheets = files; symbols = files })

-- the same of files that are all read as one kind
abbrev pub OfSome : Option Files → (Files → Type 0) → Type 0
OfSome None P = (files : Files) × P files
OfSome (Some files) P = P files

-- what is gathered from a folder
abbrev pub GathersFrom : Option Files → List (List ℕ) → Result ProjectData FileFault → Type 0
GathersFrom files names gathered = OfFiles files (λ known. GathersTo known names gathered)

-- what is come to, or want of memory
abbrev pub IsAnswer : {A : Type 0} → (Result A FileFault → Type 0) → Result A FileFault → Type 0
IsAnswer Comes (Err faults.NoMemory) = ⊤
IsAnswer Comes (Err faults.FolderFault) = ⊥
IsAnswer Comes outcome = Comes outcome

-- or a fault of the folder
abbrev pub IsFolderAnswer : {A : Type 0} →
    Counts → (Result A FileFault → Type 0) → Result A FileFault → Type 0
IsFolderAnswer counts Comes (Err faults.FolderFault) = Failed counts
IsFolderAnswer counts Comes outcome = IsAnswer Comes outcome

-- a result of code, as definitions speak of it
abbrev pub with_view : {X A : Type 0} → (X → A) → Result X FileFault → Result A FileFault
with_view view (Ok x) = Ok (view x)
with_view view (Err fault) = Err fault
