-- What the part of a file that was read tells of the whole file.
use Rattle.std.proofs.Common.{◌≡◌, ℕ, ◌≤◌, List, Option, Some, None, Result, Ok, Err, Vec, length, take, inl, inr, ap, subst, arith}
use Rattle.std.specs.declared.alloc.Global.{Global}
use Rattle.std.proofs.lemmas.List.{take_all, length-take}
use Rattle.geda_defs.specs.Contents.{Files, ReadsFile, found_bytes, read_part}
use Rattle.geda_grammar.specs.declared.kind.ReadKind.{ReadKind}
use Rattle.geda_grammar.specs.Spelling.{Spells}
use Rattle.geda_grammar.specs.Faults.{FileKind, IsFault, sheet_file, symbol_file}
use Rattle.project_files.specs.declared.fault.FileFault.{FileFault}
use Rattle.project_files.specs.declared.fault.FileFault.TheVariants as faults
use Rattle.project_files.specs.FileReads.{WasRead, ReadAs}
use Rattle.project_files.specs.ProjectFiles.{OfSome}
use Rattle.project_files.specs.steps.Reading.{IsFound, SheetOf, SymbolOf}

whole_if_short : (whole : List ℕ) → length (take 4194305 whole) ≤ 4194304 → take 4194305 whole ≡ whole
whole_if_short whole short = take_all 4194305 whole (omega (arith, short, length-take 4194305 whole))

fault_of_whole : {V : Type 0} (file : FileKind V) (whole : List ℕ) (kind : ReadKind) (line : ℕ) → IsFault file (take 4194305 whole) kind line → IsFault file whole kind line
fault_of_whole file whole kind line (inl (long, is, first)) = inl (omega (arith, long, length-take 4194305 whole), is, first)
fault_of_whole file whole kind line (inr (short, fault)) =
    subst (λ (bytes : List ℕ). IsFault file bytes kind line) (whole_if_short whole short) (inr (short, fault))

-- what the part of a file that is read comes to the whole file comes to
abbrev pub HoldsOfWhole : (Option (List ℕ) → Type 0) → Type 0
HoldsOfWhole P = (file : Option (List ℕ)) → P (read_part file) → P file

pub read_whole : {V A E : Type 0} (file : FileKind V) (refused : ℕ → ReadKind → E) (Comes : V → Result A E → Type 0) (whole : List ℕ) (outcome : Result A E) → ReadAs file refused Comes (take 4194305 whole) outcome → ReadAs file refused Comes whole outcome
read_whole file refused Comes whole outcome (inl (value, spelled, comes)) = inl (value, subst (λ (bytes : List ℕ). Spells file.Spell bytes value) (whole_if_short whole spelled.short) spelled, comes)
read_whole file refused Comes whole outcome (inr (line, kind, fault, is)) = inr (line, kind, fault_of_whole file whole kind line fault, is)

pub sheet_whole : (name : List ℕ) (read : Result _ FileFault) → HoldsOfWhole (λ file. SheetOf name file read)
sheet_whole name read None h = h
sheet_whole name read (Some whole) h = read_whole sheet_file (faults.Refused name) WasRead whole read h

pub symbol_whole : (name : List ℕ) (read : Result _ FileFault) → HoldsOfWhole (λ file. SymbolOf name file read)
symbol_whole name read None h = h
symbol_whole name read (Some whole) h = read_whole symbol_file (faults.Refused name) IsFound whole read h

-- a value that was read, as what comes of it
pub read_then : {V A E : Type 0} (file : FileKind V) (told : ℕ → ReadKind → FileFault) (refused : ℕ → ReadKind → E) (Comes : V → Result A E → Type 0) (bytes : List ℕ) (value : V) (outcome : Result A E) → ReadAs file told WasRead bytes (Ok value) → Comes value outcome → ReadAs file refused Comes bytes outcome
read_then {V = V} file told refused Comes bytes value outcome (inl (other, spelled, is)) comes =
    let e : other ≡ value = cc in
    inl (value, subst (λ (v : V). Spells file.Spell bytes v) e spelled, comes)
read_then file told refused Comes bytes value outcome (inr (line, kind, fault, is)) comes = absurd cc

-- a fault that was met, as what it makes of another
pub read_refused : {V A E : Type 0} (file : FileKind V) (name bytes : List ℕ) (made : FileFault → E) (Comes : V → Result A E → Type 0) (fault : FileFault) → ReadAs file (faults.Refused name) WasRead bytes (Err fault) → ReadAs file (λ line kind. made (faults.Refused name line kind)) Comes bytes (Err (made fault))
read_refused file name bytes made Comes fault (inl (value, spelled, is)) = absurd cc
read_refused file name bytes made Comes fault (inr (line, kind, has, is)) =
    let e : fault ≡ faults.Refused name line kind = cc in
    inr (line, kind, has, ap (λ (f : FileFault). Err (made f)) e)

-- the bytes that were read
abbrev pub bytes_in : Vec ℕ Global → List ℕ
bytes_in v = v.items

-- what holds of what was found holds of the file of that name
pub of_read : {V E : Type 0} (view : V → List ℕ) (name asked : List ℕ) (files : Option Files) (found : Option V) (result : Result (Option V) E) (P : Option (List ℕ) → Type 0) → asked ≡ name → result ≡ Ok found → HoldsOfWhole P → ReadsFile files asked view result → P (found_bytes view found) → OfSome files (λ known. P (known name))
of_read {V = V} {E = E} view name asked files found result P is_name is whole read p =
    go files (subst (λ (r : Result (Option V) E). ReadsFile files name view r) is (subst (λ (n : List ℕ). ReadsFile files n view result) is_name read))
  where
    go : (fs : Option Files) → ReadsFile {E = E} fs name view (Ok found) → OfSome fs (λ known. P (known name))
    go None h = ((λ (other : List ℕ). found_bytes view found), p)
    go (Some known) h = whole (known name) (subst P h p)
