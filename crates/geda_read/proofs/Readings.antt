-- What is read of the bytes of a file is what they spell, and its fault is theirs.
use Rattle.std.proofs.Common.{◌≡◌, ℕ, cond, List, [], length, refl, sym, ap, ◌∙◌, ◌↔◌, inl, inr, ltb, Result, Ok, Err}
use Rattle.geda_model.specs.Limits.{most_file_bytes, most_objects}
use Rattle.geda_model.specs.Shapes.{PartData}
use Rattle.geda_model.specs.Sheets.{ObjectData, SheetData, SymbolData}
use Rattle.geda_model.specs.declared.shape.Shape.{Shape}
use Rattle.geda_text.specs.Lines.{lines_of}
use Rattle.geda_grammar.specs.declared.kind.ReadKind.{ReadKind}
use Rattle.geda_grammar.specs.declared.kind.ReadKind.TheVariants.{TooLarge}
use Rattle.geda_grammar.specs.declared.mode.Mode.TheVariants.{Settled}
use Rattle.geda_grammar.specs.declared.place.Place.{Place}
use Rattle.geda_grammar.specs.declared.place.Place.TheVariants.{Objects}
use Rattle.geda_grammar.specs.Spelling.{Spells}
use Rattle.geda_grammar.specs.Faults.{FileKind, IsFault, object_file, sheet_file, symbol_file}
use Rattle.geda_grammar.specs.steps.Levels.{Level}
use Rattle.geda_grammar.specs.steps.Reading.{Ready}
use Rattle.geda_grammar.specs.steps.Sheets.{sheet_end}
use Rattle.geda_grammar.specs.steps.Files as grammar
use Rattle.geda_grammar.specs.steps.Files.{Begun, Unbegun, make_sheet, make_symbol, object_rows, read_object, read_sheet, read_symbol, sheet_rows, symbol_rows, within_limit}
use Rattle.geda_grammar.proofs.FaultLaw.{kind_in, number_in}
use Rattle.geda_grammar.proofs.ReadingLaws.{object_faulty, object_spelled, sheet_faulty, sheet_spelled, symbol_faulty, symbol_spelled}
use Rattle.geda_grammar.proofs.RowFacts.{sheet_letter, symbol_letter}
use Rattle.geda_read.specs.declared.fault.ReadFault.{ReadFault}
use Rattle.geda_read.specs.declared.fault.ReadFault.TheVariants.{At, NoMemory}
use Rattle.geda_read.specs.declared.rows.FileMode.TheVariants as files
use Rattle.geda_read.specs.declared.rows.OpenRows.TheVariants as rows
use Rattle.geda_read.specs.Answers.{Found, FoundAlways, Told, ToldAlways}
use Rattle.geda_read.specs.steps.Expecting.{rows_expect}
use Rattle.geda_read.specs.steps.Files.{Answers, end_object, end_sheet, end_symbol, read_bytes, read_lines}
use Rattle.geda_read.specs.steps.Rows.{objects_in, one_object, parts_in}
use Rattle.geda_read.proofs.Machines.{from_start}
use Rattle.geda_read.proofs.Places.{Expects, object_takes, parts_take, place_takes}

-- each kind of file, by its lines
sheet_takes : (s : Place) → Expects sheet_rows s (rows_expect files.Sheet (rows.Sheet s))
unfolding rows_expect
sheet_takes s = place_takes most_objects sheet_end s

symbol_takes : (s : Level PartData Shape) → Expects symbol_rows s (rows_expect files.Symbol (rows.Symbol s))
unfolding rows_expect
symbol_takes s = parts_take s

sheet_lines : (lines : List (List ℕ)) → read_sheet lines ≡ read_lines files.Sheet end_sheet lines
sheet_lines = from_start Place (List ObjectData) SheetData sheet_rows make_sheet files.Sheet (λ s. rows.Sheet s) refl (λ s row. refl) sheet_takes refl (sheet_letter most_objects) objects_in (λ s. refl) Unbegun tt refl

symbol_lines : (lines : List (List ℕ)) → read_symbol lines ≡ read_lines files.Symbol end_symbol lines
symbol_lines = from_start (Level PartData Shape) (List PartData) SymbolData symbol_rows make_symbol files.Symbol (λ s. rows.Symbol s) refl (λ s row. refl) symbol_takes refl symbol_letter parts_in (λ s. refl) Unbegun tt refl

object_lines : (lines : List (List ℕ)) → read_object lines ≡ read_lines files.Object end_object lines
object_lines = from_start Place ObjectData ObjectData object_rows grammar.make_object files.Object (λ s. rows.Sheet s) refl (λ s row. refl) object_takes refl (sheet_letter 1) one_object (λ s. refl) (Begun (record { date = 0; format = 1 }) (Ready (Objects [] Settled))) tt refl

-- and by its bytes
same_bytes : {V : Type 0} (few many : List (List ℕ) → Result V (ReadKind × ℕ)) → ((lines : List (List ℕ)) → few lines ≡ many lines) → (bytes : List ℕ) → within_limit few bytes ≡ cond (ltb most_file_bytes (length bytes)) (Err (TooLarge, 1)) (many (lines_of bytes))
same_bytes few many same bytes = ap (λ r. cond (ltb most_file_bytes (length bytes)) (Err (TooLarge, 1)) r) (same (lines_of bytes))

sheet_bytes : (bytes : List ℕ) → within_limit read_sheet bytes ≡ read_bytes files.Sheet end_sheet bytes
unfolding read_bytes
sheet_bytes bytes = same_bytes read_sheet (read_lines files.Sheet end_sheet) sheet_lines bytes

symbol_bytes : (bytes : List ℕ) → within_limit read_symbol bytes ≡ read_bytes files.Symbol end_symbol bytes
unfolding read_bytes
symbol_bytes bytes = same_bytes read_symbol (read_lines files.Symbol end_symbol) symbol_lines bytes

object_bytes : (bytes : List ℕ) → within_limit read_object bytes ≡ read_bytes files.Object end_object bytes
unfolding read_bytes
object_bytes bytes = same_bytes read_object (read_lines files.Object end_object) object_lines bytes

-- an answer that is what is read finds what is spelled, and tells the fault
module _ (V : Type 0) (file : FileKind V) (bytes : List ℕ) (read : Result V (ReadKind × ℕ))
    (spelled : (v : V) → Spells file.Spell bytes v ↔ (read ≡ Ok v))
    (faulty : (kind : ReadKind) (line : ℕ) → IsFault file bytes kind line ↔ (read ≡ Err (kind, line)))
  where
    pub found : (result : Result V ReadFault) → Answers (λ v. v) result read → Found file bytes result
    found (Ok w) a v e = (spelled v).1 (a ∙ (let same : w ≡ v = cc in ap (λ u. Ok u) same))
    found (Err fault) a v e = absurd cc

    pub found_always : (result : Result V ReadFault) → Answers (λ v. v) result read → FoundAlways file bytes result
    found_always (Ok w) a v s = let e = sym a ∙ (spelled v).0 s in let same : w ≡ v = cc in inl (ap (λ u. Ok u) same)
    found_always (Err NoMemory) a v s = inr refl
    found_always (Err (At kind line)) a v s = absurd (let e = sym a ∙ (spelled v).0 s in cc)

    pub told : (result : Result V ReadFault) → Answers (λ v. v) result read → Told file bytes result
    told (Ok w) a kind line e = absurd cc
    told (Err NoMemory) a kind line e = absurd cc
    told (Err (At k n)) a kind line e =
        let same : k ≡ kind = cc in
        let number : n ≡ line = cc in
        (faulty kind line).1 (a ∙ rw (same, number) refl)

    pub told_always : (result : Result V ReadFault) → Answers (λ v. v) result read → ToldAlways file bytes result
    told_always (Ok w) a kind line f = absurd (let e = sym a ∙ (faulty kind line).0 f in cc)
    told_always (Err NoMemory) a kind line f = inr refl
    told_always (Err (At k n)) a kind line f =
        let e = sym a ∙ (faulty kind line).0 f in
        inl (rw (sym (ap (kind_in k) e), sym (ap (number_in n) e)) refl)

sheet_is : (bytes : List ℕ) (v : SheetData) → Spells sheet_file.Spell bytes v ↔ (read_bytes files.Sheet end_sheet bytes ≡ Ok v)
sheet_is bytes v = ((λ s. sym (sheet_bytes bytes) ∙ (sheet_spelled bytes v).0 s), (λ e. (sheet_spelled bytes v).1 (sheet_bytes bytes ∙ e)))

sheet_fault_is : (bytes : List ℕ) (kind : ReadKind) (line : ℕ) → IsFault sheet_file bytes kind line ↔ (read_bytes files.Sheet end_sheet bytes ≡ Err (kind, line))
sheet_fault_is bytes kind line = ((λ f. sym (sheet_bytes bytes) ∙ (sheet_faulty bytes kind line).0 f), (λ e. (sheet_faulty bytes kind line).1 (sheet_bytes bytes ∙ e)))

symbol_is : (bytes : List ℕ) (v : SymbolData) → Spells symbol_file.Spell bytes v ↔ (read_bytes files.Symbol end_symbol bytes ≡ Ok v)
symbol_is bytes v = ((λ s. sym (symbol_bytes bytes) ∙ (symbol_spelled bytes v).0 s), (λ e. (symbol_spelled bytes v).1 (symbol_bytes bytes ∙ e)))

symbol_fault_is : (bytes : List ℕ) (kind : ReadKind) (line : ℕ) → IsFault symbol_file bytes kind line ↔ (read_bytes files.Symbol end_symbol bytes ≡ Err (kind, line))
symbol_fault_is bytes kind line = ((λ f. sym (symbol_bytes bytes) ∙ (symbol_faulty bytes kind line).0 f), (λ e. (symbol_faulty bytes kind line).1 (symbol_bytes bytes ∙ e)))

object_is : (bytes : List ℕ) (v : ObjectData) → Spells object_file.Spell bytes v ↔ (read_bytes files.Object end_object bytes ≡ Ok v)
object_is bytes v = ((λ s. sym (object_bytes bytes) ∙ (object_spelled bytes v).0 s), (λ e. (object_spelled bytes v).1 (object_bytes bytes ∙ e)))

object_fault_is : (bytes : List ℕ) (kind : ReadKind) (line : ℕ) → IsFault object_file bytes kind line ↔ (read_bytes files.Object end_object bytes ≡ Err (kind, line))
object_fault_is bytes kind line = ((λ f. sym (object_bytes bytes) ∙ (object_faulty bytes kind line).0 f), (λ e. (object_faulty bytes kind line).1 (object_bytes bytes ∙ e)))

-- the four of each kind of file
pub sheet_found : (bytes : List ℕ) (result : Result SheetData ReadFault) → Answers (λ v. v) result (read_bytes files.Sheet end_sheet bytes) → Found sheet_file bytes result
sheet_found bytes = found SheetData sheet_file bytes (read_bytes files.Sheet end_sheet bytes) (sheet_is bytes) (sheet_fault_is bytes)

pub sheet_found_always : (bytes : List ℕ) (result : Result SheetData ReadFault) → Answers (λ v. v) result (read_bytes files.Sheet end_sheet bytes) → FoundAlways sheet_file bytes result
sheet_found_always bytes = found_always SheetData sheet_file bytes (read_bytes files.Sheet end_sheet bytes) (sheet_is bytes) (sheet_fault_is bytes)

pub sheet_told : (bytes : List ℕ) (result : Result SheetData ReadFault) → Answers (λ v. v) result (read_bytes files.Sheet end_sheet bytes) → Told sheet_file bytes result
sheet_told bytes = told SheetData sheet_file bytes (read_bytes files.Sheet end_sheet bytes) (sheet_is bytes) (sheet_fault_is bytes)

pub sheet_told_always : (bytes : List ℕ) (result : Result SheetData ReadFault) → Answers (λ v. v) result (read_bytes files.Sheet end_sheet bytes) → ToldAlways sheet_file bytes result
sheet_told_always bytes = told_always SheetData sheet_file bytes (read_bytes files.Sheet end_sheet bytes) (sheet_is bytes) (sheet_fault_is bytes)

pub symbol_found : (bytes : List ℕ) (result : Result SymbolData ReadFault) → Answers (λ v. v) result (read_bytes files.Symbol end_symbol bytes) → Found symbol_file bytes result
symbol_found bytes = found SymbolData symbol_file bytes (read_bytes files.Symbol end_symbol bytes) (symbol_is bytes) (symbol_fault_is bytes)

pub symbol_found_always : (bytes : List ℕ) (result : Result SymbolData ReadFault) → Answers (λ v. v) result (read_bytes files.Symbol end_symbol bytes) → FoundAlways symbol_file bytes result
symbol_found_always bytes = found_always SymbolData symbol_file bytes (read_bytes files.Symbol end_symbol bytes) (symbol_is bytes) (symbol_fault_is bytes)

pub symbol_told : (bytes : List ℕ) (result : Result SymbolData ReadFault) → Answers (λ v. v) result (read_bytes files.Symbol end_symbol bytes) → Told symbol_file bytes result
symbol_told bytes = told SymbolData symbol_file bytes (read_bytes files.Symbol end_symbol bytes) (symbol_is bytes) (symbol_fault_is bytes)

pub symbol_told_always : (bytes : List ℕ) (result : Result SymbolData ReadFault) → Answers (λ v. v) result (read_bytes files.Symbol end_symbol bytes) → ToldAlways symbol_file bytes result
symbol_told_always bytes = told_always SymbolData symbol_file bytes (read_bytes files.Symbol end_symbol bytes) (symbol_is bytes) (symbol_fault_is bytes)

pub object_found : (bytes : List ℕ) (result : Result ObjectData ReadFault) → Answers (λ v. v) result (read_bytes files.Object end_object bytes) → Found object_file bytes result
object_found bytes = found ObjectData object_file bytes (read_bytes files.Object end_object bytes) (object_is bytes) (object_fault_is bytes)

pub object_found_always : (bytes : List ℕ) (result : Result ObjectData ReadFault) → Answers (λ v. v) result (read_bytes files.Object end_object bytes) → FoundAlways object_file bytes result
object_found_always bytes = found_always ObjectData object_file bytes (read_bytes files.Object end_object bytes) (object_is bytes) (object_fault_is bytes)

pub object_told : (bytes : List ℕ) (result : Result ObjectData ReadFault) → Answers (λ v. v) result (read_bytes files.Object end_object bytes) → Told object_file bytes result
object_told bytes = told ObjectData object_file bytes (read_bytes files.Object end_object bytes) (object_is bytes) (object_fault_is bytes)

pub object_told_always : (bytes : List ℕ) (result : Result ObjectData ReadFault) → Answers (λ v. v) result (read_bytes files.Object end_object bytes) → ToldAlways object_file bytes result
object_told_always bytes = told_always ObjectData object_file bytes (read_bytes files.Object end_object bytes) (object_is bytes) (object_fault_is bytes)
