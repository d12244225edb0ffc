-- The three kinds of files.
use Rattle.std.proofs.Common.{◌≡◌, ℕ, true, false, List, [], ◌∷◌, length, Option, Some, None, refl, sym, ap, subst, ◌∙◌, ◌↔◌, Ok, Err, arith}
use Rattle.std.specs.Option.{option_map}
use Rattle.geda_model.specs.Shapes.{PartData}
use Rattle.geda_model.specs.Sheets.{ObjectData, HeadData, SheetData, SymbolData}
use Rattle.geda_model.specs.declared.shape.Shape.{Shape}
use Rattle.geda_grammar.specs.declared.kind.ReadKind.{ReadKind}
use Rattle.geda_grammar.specs.declared.row.Row.{Row}
use Rattle.geda_grammar.specs.Grammar.{SpellObjects, SpellParts}
use Rattle.geda_grammar.specs.Spelling.{SpellRows, IsFile, SpellSheet, SpellSymbol, SpellObject}
use Rattle.geda_grammar.specs.steps.Levels.{Level}
use Rattle.geda_grammar.specs.declared.mode.Mode.TheVariants.{Settled}
use Rattle.geda_grammar.specs.declared.place.Place.{Place}
use Rattle.geda_grammar.specs.declared.place.Place.TheVariants.{Objects}
use Rattle.geda_grammar.specs.steps.Sheets.{sheet_step, sheet_end, symbol_step}
use Rattle.geda_grammar.specs.steps.Reading.{Ready, reader_step, reader_end}
use Rattle.geda_grammar.specs.steps.Following.{more}
use Rattle.geda_grammar.specs.steps.SheetLines.{sheet_line}
use Rattle.geda_grammar.specs.steps.Running.{run, outcome, ◌>>=◌}
use Rattle.geda_grammar.specs.Faults.{sheet_file, symbol_file, object_file, IsFaultOfLines, EndsInFullSymbol}
use Rattle.geda_grammar.specs.steps.Files.{RowMachine, admits, Unbegun, Begun, begun_at, file_step, file_end, file_start, version_of, sheet_rows, symbol_rows, object_rows, object_end, only_one, make_sheet, make_symbol, make_object, read_sheet, read_symbol, read_object}
use Rattle.geda_grammar.proofs.LevelSound as sound
use Rattle.geda_grammar.proofs.LevelSound.{mapped}
use Rattle.geda_grammar.proofs.SheetLaws as laws
use Rattle.geda_grammar.proofs.RowFacts as facts
use Rattle.geda_grammar.proofs.FileLaws as files
use Rattle.geda_grammar.proofs.VersionLaws.{version_read, version_is}
use Rattle.geda_grammar.proofs.FinalLaws as final

-- a file with a version line is spelled where its lines are taken to what it spells
module _ (S W V : Type 0) (m : RowMachine S W) (make : HeadData → W → V) (head_in : V → HeadData) (value_in : V → W) (made : (v : V) → make (head_in v) (value_in v) ≡ v)
    (SpellW : W → List Row → Type 0) (Spell : V → List (List ℕ) → Type 0)
    (parts_of : (v : V) (lines : List (List ℕ)) → Spell v lines → (rows : List Row) × IsFile (head_in v) rows lines × SpellW (value_in v) rows)
    (from_parts : (head : HeadData) (w : W) (lines : List (List ℕ)) (rows : List Row) → IsFile head rows lines → SpellW w rows → Spell (make head w) lines)
    (rows_law : (w : W) (rows : List Row) → SpellW w rows ↔ (outcome m.step m.finish m.start rows ≡ Some w))
    (lines_law : (lines : List (List ℕ)) (w : W) → ((rows : List Row) × SpellRows rows lines × (outcome m.step m.finish m.start rows ≡ Some w)) ↔ (outcome (reader_step sheet_line more m.step (admits m)) (reader_end m.finish) (Ready m.start) lines ≡ Some w))
    (lifted : (lines : List (List ℕ)) (head : HeadData) → outcome (file_step m) (file_end m make) (Begun head (Ready m.start)) lines ≡ option_map (make head) (outcome (reader_step sheet_line more m.step (admits m)) (reader_end m.finish) (Ready m.start) lines))
  where
    there : (lines : List (List ℕ)) (v : V) → Spell v lines → outcome (file_step m) (file_end m make) Unbegun lines ≡ Some v
    there lines v h =
        let (rows, f, spelled) = parts_of v lines h in
        let rest = (lines_law f.rest (value_in v)).0 (rows, f.spelled, (rows_law (value_in v) rows).0 spelled) in
        let all : outcome (file_step m) (file_end m make) Unbegun (f.first ∷ f.rest) ≡ Some (make (head_in v) (value_in v)) = rw (version_read (head_in v) f.first f.version) (lifted f.rest (head_in v) ∙ ap (option_map (make (head_in v))) rest) in
        ap (outcome (file_step m) (file_end m make) Unbegun) f.lines_are ∙ all ∙ ap (λ (u : V). Some u) (made v)

    back : (lines : List (List ℕ)) (v : V) → outcome (file_step m) (file_end m make) Unbegun lines ≡ Some v → Spell v lines
    back [] v e = absurd cc
    back (first ∷ rest) v e = go (version_of first) refl e
      where
        go : (o : Option HeadData) → version_of first ≡ o → ((option_map (begun_at m.start) o >>= λ t. run (file_step m) t rest) >>= file_end m make) ≡ Some v → Spell v (first ∷ rest)
        go None f e = absurd cc
        go (Some head) f e =
            let w = mapped (make head) (outcome (reader_step sheet_line more m.step (admits m)) (reader_end m.finish) (Ready m.start) rest) v (sym (lifted rest head) ∙ e) in
            let rows = (lines_law rest w.0).1 w.1 in
            subst (λ (u : V). Spell u (first ∷ rest)) w.2 (from_parts head w.0 (first ∷ rest) rows.0 (record { first = first; rest = rest; lines_are = refl; version = version_is head first f; spelled = rows.1 }) ((rows_law w.0 rows.0).1 rows.2))

    pub versioned_spells : (lines : List (List ℕ)) (v : V) → Spell v lines ↔ (outcome (file_step m) (file_end m make) (file_start m true) lines ≡ Some v)
    versioned_spells lines v = (there lines v, back lines v)

-- what the machines keep and take
sheet_start_fits : (most : ℕ) → laws.Fits most (Objects [] Settled)
sheet_start_fits most = omega arith

-- sheets
abbrev SheetFits : Place → Type 0
SheetFits s = laws.Fits 100000 s

sheet_spells : (lines : List (List ℕ)) (v : SheetData) → SpellSheet v lines ↔ (outcome (file_step sheet_rows) (file_end sheet_rows make_sheet) (file_start sheet_rows true) lines ≡ Some v)
sheet_spells =
    versioned_spells Place (List ObjectData) SheetData sheet_rows make_sheet (λ s. s.head) (λ s. s.objects) (λ s. refl) (SpellObjects 100000) SpellSheet
    (λ v lines h. h) (λ head w lines rows f s. (rows, f, s)) (laws.objects_law 100000)
    (files.spelled_rows Place (List ObjectData) sheet_rows SheetFits (sheet_start_fits 100000) (λ s t row f e. laws.step_stays 100000 row s t f e) (facts.sheet_letter 100000) (λ s row f b h. facts.sheet_accepts (List ObjectData) 100000 sheet_end s row b h) (λ s f. facts.sheet_closing 100000 s))
    (λ lines head. files.lifted Place (List ObjectData) sheet_rows SheetFits (sheet_start_fits 100000) (λ s t row f e. laws.step_stays 100000 row s t f e) (facts.sheet_letter 100000) (λ s row f b h. facts.sheet_accepts (List ObjectData) 100000 sheet_end s row b h) (λ s f. facts.sheet_closing 100000 s) SheetData make_sheet lines head (Ready sheet_rows.start))

pub sheet_spelling : (lines : List (List ℕ)) (v : SheetData) → SpellSheet v lines ↔ (read_sheet lines ≡ Ok v)
sheet_spelling = final.spelling_law Place (List ObjectData) SheetData sheet_rows make_sheet true sheet_file SheetFits (sheet_start_fits 100000) (λ s t row f e. laws.step_stays 100000 row s t f e) (facts.sheet_letter 100000) (λ s row f b h. facts.sheet_accepts (List ObjectData) 100000 sheet_end s row b h) (λ s f. facts.sheet_closing 100000 s)
    sheet_spells refl refl (λ os. length os ≡ 100000) EndsInFullSymbol (λ head w. (λ h. h, λ h. h)) (λ head w. (λ h. h, λ h. h)) (facts.shape_not_full 100000) facts.sheet_full_law

pub sheet_fault : (lines : List (List ℕ)) (kind : ReadKind) (number : ℕ) → IsFaultOfLines sheet_file lines kind number ↔ (read_sheet lines ≡ Err (kind, number))
sheet_fault = final.fault_law Place (List ObjectData) SheetData sheet_rows make_sheet true sheet_file SheetFits (sheet_start_fits 100000) (λ s t row f e. laws.step_stays 100000 row s t f e) (facts.sheet_letter 100000) (λ s row f b h. facts.sheet_accepts (List ObjectData) 100000 sheet_end s row b h) (λ s f. facts.sheet_closing 100000 s)
    sheet_spells refl refl (λ os. length os ≡ 100000) EndsInFullSymbol (λ head w. (λ h. h, λ h. h)) (λ head w. (λ h. h, λ h. h)) (facts.shape_not_full 100000) facts.sheet_full_law

-- symbols
abbrev Parts : Type 0
Parts = Level PartData Shape

symbol_stays : (s t : Parts) (row : Row) → laws.LevelFits s → symbol_step s row ≡ Some t → laws.LevelFits t
symbol_stays s t row f e = sound.level_fits PartData Shape (λ s ts. record { shape = s; attrs = ts }) (λ s. s) 100000 row s.kept s.mode t f e

symbol_spells : (lines : List (List ℕ)) (v : SymbolData) → SpellSymbol v lines ↔ (outcome (file_step symbol_rows) (file_end symbol_rows make_symbol) (file_start symbol_rows true) lines ≡ Some v)
symbol_spells =
    versioned_spells Parts (List PartData) SymbolData symbol_rows make_symbol (λ s. s.head) (λ s. s.parts) (λ s. refl) SpellParts SpellSymbol
    (λ v lines h. h) (λ head w lines rows f s. (rows, f, s)) laws.parts_law
    (files.spelled_rows Parts (List PartData) symbol_rows laws.LevelFits (omega arith) symbol_stays facts.symbol_letter (λ s row f b h. facts.symbol_accepts s row b h) (λ s f. facts.symbol_closing s.kept s.mode))
    (λ lines head. files.lifted Parts (List PartData) symbol_rows laws.LevelFits (omega arith) symbol_stays facts.symbol_letter (λ s row f b h. facts.symbol_accepts s row b h) (λ s f. facts.symbol_closing s.kept s.mode) SymbolData make_symbol lines head (Ready symbol_rows.start))

-- no part ends a symbol that is embedded
abbrev Never : List PartData → Type 0
Never ps = ⊥

pub symbol_spelling : (lines : List (List ℕ)) (v : SymbolData) → SpellSymbol v lines ↔ (read_symbol lines ≡ Ok v)
symbol_spelling = final.spelling_law Parts (List PartData) SymbolData symbol_rows make_symbol true symbol_file laws.LevelFits (omega arith) symbol_stays facts.symbol_letter (λ s row f b h. facts.symbol_accepts s row b h) (λ s f. facts.symbol_closing s.kept s.mode)
    symbol_spells refl refl (λ ps. length ps ≡ 100000) Never (λ head w. (λ h. h, λ h. h)) (λ head w. (λ h. h, λ h. h)) (λ s t shape w e f h. h) facts.symbol_full_law

pub symbol_fault : (lines : List (List ℕ)) (kind : ReadKind) (number : ℕ) → IsFaultOfLines symbol_file lines kind number ↔ (read_symbol lines ≡ Err (kind, number))
symbol_fault = final.fault_law Parts (List PartData) SymbolData symbol_rows make_symbol true symbol_file laws.LevelFits (omega arith) symbol_stays facts.symbol_letter (λ s row f b h. facts.symbol_accepts s row b h) (λ s f. facts.symbol_closing s.kept s.mode)
    symbol_spells refl refl (λ ps. length ps ≡ 100000) Never (λ head w. (λ h. h, λ h. h)) (λ head w. (λ h. h, λ h. h)) (λ s t shape w e f h. h) facts.symbol_full_law

-- one object
abbrev ObjectFits : Place → Type 0
ObjectFits s = laws.Fits 1 s

-- rows that spell one object
object_rows_law : (o : ObjectData) (rows : List Row) → SpellObjects 1 (o ∷ []) rows ↔ (outcome object_rows.step object_rows.finish object_rows.start rows ≡ Some o)
object_rows_law o rows = ((λ h. there (run (sheet_step 1) (Objects [] Settled) rows) ((laws.objects_law 1 (o ∷ []) rows).0 h)), (λ e. (laws.objects_law 1 (o ∷ []) rows).1 (back (run (sheet_step 1) (Objects [] Settled) rows) e)))
  where
    there : (p : Option Place) → (p >>= sheet_end) ≡ Some (o ∷ []) → (p >>= object_end) ≡ Some o
    there None e = absurd cc
    there (Some s) e = ap only_one e

    back : (p : Option Place) → (p >>= object_end) ≡ Some o → (p >>= sheet_end) ≡ Some (o ∷ [])
    back None e = absurd cc
    back (Some s) e = facts.only_is (sheet_end s) o e

same_map : {A : Type 0} (o : Option A) → option_map (λ a. a) o ≡ o
same_map None = refl
same_map (Some a) = refl

object_spells : (lines : List (List ℕ)) (v : ObjectData) → SpellObject v lines ↔ (outcome (file_step object_rows) (file_end object_rows make_object) (file_start object_rows false) lines ≡ Some v)
object_spells lines v = (there, back)
  where
    lines_law : ((rows : List Row) × SpellRows rows lines × (outcome object_rows.step object_rows.finish object_rows.start rows ≡ Some v)) ↔ (outcome (reader_step sheet_line more object_rows.step (admits object_rows)) (reader_end object_rows.finish) (Ready object_rows.start) lines ≡ Some v)
    lines_law = files.spelled_rows Place ObjectData object_rows ObjectFits (sheet_start_fits 1) (λ s t row f e. laws.step_stays 1 row s t f e) (facts.sheet_letter 1) (λ s row f b h. facts.sheet_accepts ObjectData 1 object_end s row b h) facts.object_closing lines v

    lifted : outcome (file_step object_rows) (file_end object_rows make_object) (file_start object_rows false) lines ≡ outcome (reader_step sheet_line more object_rows.step (admits object_rows)) (reader_end object_rows.finish) (Ready object_rows.start) lines
    lifted =
        files.lifted Place ObjectData object_rows ObjectFits (sheet_start_fits 1) (λ s t row f e. laws.step_stays 1 row s t f e) (facts.sheet_letter 1) (λ s row f b h. facts.sheet_accepts ObjectData 1 object_end s row b h) facts.object_closing ObjectData make_object lines (record { date = 0; format = 1 }) (Ready object_rows.start)
        ∙ same_map (outcome (reader_step sheet_line more object_rows.step (admits object_rows)) (reader_end object_rows.finish) (Ready object_rows.start) lines)

    there : SpellObject v lines → outcome (file_step object_rows) (file_end object_rows make_object) (file_start object_rows false) lines ≡ Some v
    there h = lifted ∙ lines_law.0 (h.0, h.1, (object_rows_law v h.0).0 h.2)

    back : outcome (file_step object_rows) (file_end object_rows make_object) (file_start object_rows false) lines ≡ Some v → SpellObject v lines
    back e = let h = lines_law.1 (sym lifted ∙ e) in (h.0, h.1, (object_rows_law v h.0).1 h.2)

abbrev AnyObject : ObjectData → Type 0
AnyObject o = Unit {0}

abbrev EndsFull : ObjectData → Type 0
EndsFull o = EndsInFullSymbol (o ∷ [])

pub object_spelling : (lines : List (List ℕ)) (v : ObjectData) → SpellObject v lines ↔ (read_object lines ≡ Ok v)
object_spelling = final.spelling_law Place ObjectData ObjectData object_rows make_object false object_file ObjectFits (sheet_start_fits 1) (λ s t row f e. laws.step_stays 1 row s t f e) (facts.sheet_letter 1) (λ s row f b h. facts.sheet_accepts ObjectData 1 object_end s row b h) facts.object_closing
    object_spells refl refl AnyObject EndsFull (λ head w. (λ h. h, λ h. h)) (λ head w. (λ h. h, λ h. h)) facts.object_not_full facts.object_full_law

pub object_fault : (lines : List (List ℕ)) (kind : ReadKind) (number : ℕ) → IsFaultOfLines object_file lines kind number ↔ (read_object lines ≡ Err (kind, number))
object_fault = final.fault_law Place ObjectData ObjectData object_rows make_object false object_file ObjectFits (sheet_start_fits 1) (λ s t row f e. laws.step_stays 1 row s t f e) (facts.sheet_letter 1) (λ s row f b h. facts.sheet_accepts ObjectData 1 object_end s row b h) facts.object_closing
    object_spells refl refl AnyObject EndsFull (λ head w. (λ h. h, λ h. h)) (λ head w. (λ h. h, λ h. h)) facts.object_not_full facts.object_full_law
