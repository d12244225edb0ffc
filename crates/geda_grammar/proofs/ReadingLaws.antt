-- What is read of sheets, symbols and objects, from their bytes: exactly what they spell, and
-- exactly the fault that they have.
use Rattle.std.proofs.Common.{◌≡◌, ℕ, List, ◌↔◌, Ok, Err}
use Rattle.geda_model.specs.Sheets.{ObjectData, SheetData, SymbolData}
use Rattle.geda_grammar.specs.declared.kind.ReadKind.{ReadKind}
use Rattle.geda_grammar.specs.Spelling.{Spells}
use Rattle.geda_grammar.specs.Faults.{IsFault, object_file, sheet_file, symbol_file}
use Rattle.geda_grammar.specs.Laws.{IsDetermined, SpellsAlone}
use Rattle.geda_grammar.specs.steps.Files.{read_object, read_sheet, read_symbol, within_limit}
use Rattle.geda_grammar.proofs.ThreeFiles.{sheet_spelling, sheet_fault, symbol_spelling, symbol_fault, object_spelling, object_fault}
use Rattle.geda_grammar.proofs.ByteLaws as law

pub sheet_spelled : (bytes : List ℕ) (v : SheetData) → Spells sheet_file.Spell bytes v ↔ (within_limit read_sheet bytes ≡ Ok v)
sheet_spelled = law.bytes_spelled _ sheet_file read_sheet sheet_spelling sheet_fault

pub sheet_faulty : (bytes : List ℕ) (kind : ReadKind) (line : ℕ) → IsFault sheet_file bytes kind line ↔ (within_limit read_sheet bytes ≡ Err (kind, line))
sheet_faulty = law.bytes_faulty _ sheet_file read_sheet sheet_spelling sheet_fault

pub sheet_determined : IsDetermined sheet_file
sheet_determined = law.determined _ sheet_file read_sheet sheet_spelling sheet_fault

pub sheet_alone : (bytes : List ℕ) (v : SheetData) → Spells sheet_file.Spell bytes v → SpellsAlone sheet_file bytes v
sheet_alone = law.alone _ sheet_file read_sheet sheet_spelling sheet_fault

pub symbol_spelled : (bytes : List ℕ) (v : SymbolData) → Spells symbol_file.Spell bytes v ↔ (within_limit read_symbol bytes ≡ Ok v)
symbol_spelled = law.bytes_spelled _ symbol_file read_symbol symbol_spelling symbol_fault

pub symbol_faulty : (bytes : List ℕ) (kind : ReadKind) (line : ℕ) → IsFault symbol_file bytes kind line ↔ (within_limit read_symbol bytes ≡ Err (kind, line))
symbol_faulty = law.bytes_faulty _ symbol_file read_symbol symbol_spelling symbol_fault

pub symbol_determined : IsDetermined symbol_file
symbol_determined = law.determined _ symbol_file read_symbol symbol_spelling symbol_fault

pub symbol_alone : (bytes : List ℕ) (v : SymbolData) → Spells symbol_file.Spell bytes v → SpellsAlone symbol_file bytes v
symbol_alone = law.alone _ symbol_file read_symbol symbol_spelling symbol_fault

pub object_spelled : (bytes : List ℕ) (v : ObjectData) → Spells object_file.Spell bytes v ↔ (within_limit read_object bytes ≡ Ok v)
object_spelled = law.bytes_spelled _ object_file read_object object_spelling object_fault

pub object_faulty : (bytes : List ℕ) (kind : ReadKind) (line : ℕ) → IsFault object_file bytes kind line ↔ (within_limit read_object bytes ≡ Err (kind, line))
object_faulty = law.bytes_faulty _ object_file read_object object_spelling object_fault

pub object_determined : IsDetermined object_file
object_determined = law.determined _ object_file read_object object_spelling object_fault

pub object_alone : (bytes : List ℕ) (v : ObjectData) → Spells object_file.Spell bytes v → SpellsAlone object_file bytes v
object_alone = law.alone _ object_file read_object object_spelling object_fault
