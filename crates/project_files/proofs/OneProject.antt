-- The files of a folder come to one project: bytes spell one value or have one fault.
use Rattle.std.proofs.Common.{◌≡◌, ℕ, zero, suc, Bool, true, false, List, [], ◌∷◌, Option, Some, None, Result, Ok, Err, inl, inr, sym, ap₂, subst, ◌∙◌}
use Rattle.std.specs.declared.option.Option.{Option}
use Rattle.geda_defs.specs.Contents.{Files}
use Rattle.geda_model.specs.Sheets.{ObjectData}
use Rattle.project_model.specs.Projects.{ProjectData}
use Rattle.geda_grammar.specs.Faults.{FileKind, sheet_file, symbol_file}
use Rattle.geda_grammar.specs.Laws.{IsDetermined}
use Rattle.geda_grammar.proofs.ReadingLaws.{sheet_determined, symbol_determined}
use Rattle.geda_grammar.specs.declared.kind.ReadKind.{ReadKind}
use Rattle.project_files.specs.declared.fault.FileFault.{FileFault}
use Rattle.project_files.specs.declared.fault.FileFault.TheVariants as faults
use Rattle.project_files.specs.FileReads.{FileComesTo, ReadAs, Then}
use Rattle.project_files.specs.Gathering.{Gathered, ObjectComesTo, ObjectsComeTo, ProjectFiles, SymbolComesTo, SymbolFileComesTo, SymbolUnless, is_asked, unread, with_sources, with_symbol}
use Rattle.project_files.specs.Opening.{gathered_project}
use Rattle.project_files.specs.ProjectFiles.{GathersTo, SheetFileComesTo, SheetsComeTo, SheetComesTo, with_read_sheet}

-- two outcomes are one
abbrev pub IsOne : {A E : Type 0} → (Result A E → Type 0) → Type 0
IsOne {A} {E} Comes = (first second : Result A E) → Comes first → Comes second → first ≡ second

pub file_one : {A E : Type 0} (missing : E) (Comes : List ℕ → Result A E → Type 0) → ((bytes : List ℕ) → IsOne (Comes bytes)) → (file : Option (List ℕ)) → IsOne (FileComesTo missing Comes file)
file_one missing Comes one None first second p q = p ∙ sym q
file_one missing Comes one (Some bytes) first second p q = one bytes first second p q

pub read_one : {V A E : Type 0} (file : FileKind V) → IsDetermined file → (refused : ℕ → ReadKind → E) (Comes : V → Result A E → Type 0) → ((value : V) → IsOne (Comes value)) → (bytes : List ℕ) → IsOne (ReadAs file refused Comes bytes)
read_one {V = V} file law refused Comes one bytes first second (inl (value, spelled, comes)) (inl (other, spells, does)) = one other first second (subst (λ (v : V). Comes v first) (law.one bytes value other spelled spells) comes) does
read_one file law refused Comes one bytes first second (inl (value, spelled, comes)) (inr (line, kind, fault, is)) = absurd (law.never_both bytes value kind line spelled fault)
read_one file law refused Comes one bytes first second (inr (line, kind, fault, is)) (inl (value, spelled, comes)) = absurd (law.never_both bytes value kind line spelled fault)
read_one file law refused Comes one bytes first second (inr (line, kind, fault, is)) (inr (number, other, has, so)) =
    let same = law.one_fault bytes kind other line number fault has in
    is ∙ ap₂ (λ (n : ℕ) (k : ReadKind). Err (refused n k)) same.1 same.0 ∙ sym so

-- what comes after something that comes to one
pub then_one : {A B E : Type 0} (Next : A → Result B E → Type 0) → ((a : A) → IsOne (Next a)) → (read : Result A E) → IsOne (Then read Next)
then_one Next one (Ok a) first second p q = one a first second p q
then_one Next one (Err fault) first second p q = p ∙ sym q

pub after_one : {A B E : Type 0} (Comes : Result A E → Type 0) (Next : A → Result B E → Type 0) → IsOne Comes → ((a : A) → IsOne (Next a)) → (read other : Result A E) (first second : Result B E) → Comes read → Comes other → Then read Next first → Then other Next second → first ≡ second
after_one {A = A} {E = E} Comes Next one next read other first second come does p q =
    then_one Next next other first second (subst (λ (r : Result A E). Then r Next first) (one read other come does) p) q

-- the symbol of an object
symbol_file_one : (g : Gathered) (name : List ℕ) (file : Option (List ℕ)) → IsOne (SymbolFileComesTo g name file)
symbol_file_one g name None first second p q = p ∙ sym q
symbol_file_one g name (Some bytes) first second p q = read_one symbol_file symbol_determined (faults.Refused name) (λ symbol read. read ≡ Ok (with_symbol g name (Some symbol))) (λ symbol one other is so. is ∙ sym so) bytes first second p q

symbol_unless_one : (asked : Bool) (symbols : Files) (g : Gathered) (name : List ℕ) → IsOne (SymbolUnless asked symbols g name)
symbol_unless_one true symbols g name first second p q = p ∙ sym q
symbol_unless_one false symbols g name first second p q = symbol_file_one g name (symbols name) first second p q

symbol_one : (symbols : Files) (g : Gathered) (asked : Option (List ℕ)) → IsOne (SymbolComesTo symbols g asked)
symbol_one symbols g None first second p q = p ∙ sym q
symbol_one symbols g (Some name) first second p q = symbol_unless_one (is_asked g name) symbols g name first second p q

-- objects, and the sheet that has them
object_one : (files : ProjectFiles) (o : ObjectData) (g : Gathered) → IsOne (ObjectComesTo files o g)
object_one files o g first second (read, come, p) (other, does, q) =
    after_one (SymbolComesTo files.symbols g _) (λ (known : Gathered) (end : Result Gathered FileFault). end ≡ Ok (with_sources files.sheets o known)) (symbol_one files.symbols g _) (λ known one another is so. is ∙ sym so) read other first second come does p q

objects_one : (files : ProjectFiles) (os : List ObjectData) (g : Gathered) → IsOne (ObjectsComeTo files os g)
objects_one files [] g first second p q = p ∙ sym q
objects_one files (o ∷ os) g first second (read, come, p) (other, does, q) =
    after_one (ObjectComesTo files o g) (ObjectsComeTo files os) (object_one files o g) (objects_one files os) read other first second come does p q

sheet_file_one : (files : ProjectFiles) (g : Gathered) (name : List ℕ) → IsOne (SheetFileComesTo files g name)
sheet_file_one files g name = file_one (faults.Missing name) _ (read_one sheet_file sheet_determined (faults.Refused name) (SheetComesTo files g) (λ sheet. objects_one files sheet.objects (with_read_sheet g sheet))) (files.sheets name)

-- sheets, however many there are
sheets_one : (files : ProjectFiles) (n m : ℕ) (g : Gathered) (first second : Result Gathered FileFault) → SheetsComeTo files n g first → SheetsComeTo files m g second → first ≡ second
sheets_one files zero zero g first second (none, p) (ends, q) = p ∙ sym q
sheets_one files zero (suc m) g first second (none, p) (name, next, rest) = absurd (let e : None ≡ Some name = sym none ∙ next in cc)
sheets_one files (suc n) zero g first second (name, next, rest) (none, q) = absurd (let e : None ≡ Some name = sym none ∙ next in cc)
sheets_one files (suc n) (suc m) g first second (name, next, (read, come, p)) (more, follows, (other, does, q)) =
    let same : name ≡ more = let e : Some name ≡ Some more = sym next ∙ follows in cc in
    let one : read ≡ other = sheet_file_one files g more read other (subst (λ (file : List ℕ). SheetFileComesTo files g file read) same come) does in
    go (λ known. sheets_one files n m known first second) other (subst (λ (r : Result Gathered FileFault). Then r (SheetsComeTo files n) first) one p) q
  where
    go : ((known : Gathered) → SheetsComeTo files n known first → SheetsComeTo files m known second → first ≡ second) → (r : Result Gathered FileFault) → Then r (SheetsComeTo files n) first → Then r (SheetsComeTo files m) second → first ≡ second
    go rest (Ok known) p q = rest known p q
    go rest (Err fault) p q = p ∙ sym q

-- the project
pub gathers_one : (files : ProjectFiles) (names : List (List ℕ)) → IsOne (GathersTo files names)
gathers_one files names first second (n, (read, come, p)) (m, (other, does, q)) =
    let same = sheets_one files n m (unread names) read other come does in
    then_one (λ (g : Gathered) (end : Result ProjectData FileFault). end ≡ gathered_project g) (λ g one another is so. is ∙ sym so) other first second (subst (λ (r : Result Gathered FileFault). Then r (λ (g : Gathered) (end : Result ProjectData FileFault). end ≡ gathered_project g) first) same p) q
