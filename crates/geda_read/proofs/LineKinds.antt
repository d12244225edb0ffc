-- The kind of a line that is refused, by what may come.
use Rattle.std.proofs.Common.{◌≡◌, ℕ, ℤ, Bool, true, false, cond, not, ◌&&◌, ◌||◌, List, [], ◌∷◌, length, Option, Some, None, refl, sym, ap, ◌∙◌, suc, eqb}
use Rattle.std.specs.Prelude.{is_some}
use Rattle.std.specs.Option.{option_map}
use Rattle.std.specs.Str.{is_utf8}
use Rattle.std.proofs.lemmas.Bool.{eqb-false}
use Rattle.geda_model.specs.Names.{is_word}
use Rattle.geda_model.specs.Sheets.{HeadData}
use Rattle.geda_text.specs.Lines.{fields_of, first_field, other_fields, whole_of}
use Rattle.geda_grammar.specs.declared.kind.ReadKind.{ReadKind}
use Rattle.geda_grammar.specs.declared.kind.ReadKind.TheVariants.{NoVersion, BadFormat, UnknownLetter, FieldCount, BadNumber, OutOfRange, BadAngle, StrayBracket, NotAttribute, Nested, NotUtf8, TooLarge}
use Rattle.geda_grammar.specs.declared.letter.Letter.{Letter}
use Rattle.geda_grammar.specs.declared.letter.Letter.TheVariants as letters
use Rattle.geda_grammar.specs.declared.row.Row.{Row}
use Rattle.geda_grammar.specs.declared.row.Row.TheVariants as rows
use Rattle.geda_grammar.specs.declared.field_class.Class.{Class}
use Rattle.geda_grammar.specs.declared.field_class.Class.TheVariants.{Within, UpTo, Lines, Angle, Basename}
use Rattle.geda_grammar.specs.Letters.{byte_of, is_attribute, is_component, is_object, is_open_symbol, is_unknown, is_version, letter_of}
use Rattle.geda_grammar.specs.Classes.{Field, Number, Word, classes_of, field_fault, field_in, fields_fault, first_fault, fits, line_fault, misfit, number_fault, number_in, or_later}
use Rattle.geda_grammar.specs.Faults.{letter_at}
use Rattle.geda_grammar.specs.steps.Following.{Pending}
use Rattle.geda_grammar.specs.steps.Reading.{Complete, Faulty, ReaderState, Ready, Amid}
use Rattle.geda_grammar.specs.steps.SheetLines.{and_more, line_of_fields, line_of_letter, line_of_words, read_fields, sheet_line}
use Rattle.geda_grammar.specs.steps.Tests.{is_bad_angle, is_bad_number, is_field_count, is_out_of_range, is_stray, kind_of, kind_or, takes}
use Rattle.geda_grammar.specs.steps.Files.{Begun, FileState, RowMachine, Unbegun, file_machine, version_of}
use Rattle.geda_grammar.proofs.FileLaws.{OneOfFour, close_block_said, close_symbol_line, line_four, open_block_said, open_symbol_said}
use Rattle.geda_read.specs.declared.kinds.Expected.{Expected}
use Rattle.geda_read.specs.steps.Expecting.{is_stray_by, line_kind, place_kind, version_kind}
use Rattle.sheet_lines.specs.SheetLines.{kind_by, own_kind}
use Rattle.geda_read.proofs.Levels.{some_map}
use Rattle.geda_read.proofs.Places.{Expects}

-- fields that are read have no fault
number_good : (c : Class) (o : Option ℤ) (f : Field) → number_in c o ≡ Some f → number_fault c o ≡ None
number_good c None f e = absurd cc
number_good c (Some z) f e = go (fits c z) e
  where
    go : (b : Bool) → cond b (Some (Number z)) None ≡ Some f → cond b None (Some (misfit c)) ≡ None
    go true e = refl
    go false e = absurd cc

field_good : (c : Class) (w : List ℕ) (f : Field) → field_in c w ≡ Some f → field_fault c w ≡ None
field_good (Within n) w f e = number_good (Within n) (whole_of w) f e
field_good (UpTo n) w f e = number_good (UpTo n) (whole_of w) f e
field_good Lines w f e = number_good Lines (whole_of w) f e
field_good Angle w f e = number_good Angle (whole_of w) f e
field_good Basename w f e = go (is_word w) e
  where
    go : (b : Bool) → cond b (Some (Word w)) None ≡ Some f → cond b None (Some OutOfRange) ≡ None
    go true e = refl
    go false e = absurd cc

fields_good : (cs : List Class) (ws : List (List ℕ)) (fs : List Field) → read_fields cs ws ≡ Some fs → (length ws ≡ length cs) × (first_fault cs ws ≡ None)
fields_good [] [] fs e = (refl, refl)
fields_good [] (w ∷ ws) fs e = absurd cc
fields_good (c ∷ cs) [] fs e = absurd cc
fields_good (c ∷ cs) (w ∷ ws) fs e = go (field_in c w) (read_fields cs ws) refl refl e (λ gs h. fields_good cs ws gs h)
  where
    go : (o : Option Field) (p : Option (List Field)) → field_in c w ≡ o → read_fields cs ws ≡ p → and_more o p ≡ Some fs → ((gs : List Field) → read_fields cs ws ≡ Some gs → (length ws ≡ length cs) × (first_fault cs ws ≡ None)) → (length (w ∷ ws) ≡ length (c ∷ cs)) × (or_later (field_fault c w) (first_fault cs ws) ≡ None)
    go None p f g e later = absurd cc
    go (Some a) None f g e later = absurd cc
    go (Some a) (Some gs) f g e later =
        let rest = later gs g in
        (ap suc rest.0, rw (field_good c w a f, rest.1) refl)

letter_good : (l : Letter) (ws : List (List ℕ)) (fs : List Field) → read_fields (classes_of l) ws ≡ Some fs → fields_fault l ws ≡ None
letter_good l ws fs e =
    let good = fields_good (classes_of l) ws fs e in
    go (eqb (length ws) (length (classes_of l))) refl good
  where
    go : (b : Bool) → eqb (length ws) (length (classes_of l)) ≡ b → (length ws ≡ length (classes_of l)) × (first_fault (classes_of l) ws ≡ None) → cond b (first_fault (classes_of l) ws) (Some FieldCount) ≡ None
    go true f good = good.1
    go false f good = absurd (eqb-false _ _ f good.0)

-- a line that says something has no fault
pub line_good : (line : List ℕ) → ¬ (sheet_line line ≡ Faulty) → line_fault (letter_at line) (other_fields (fields_of line)) ≡ None
line_good line = words (fields_of line)
  where
    said : (l : Letter) (ws : List (List ℕ)) (o : Option (List Field)) → read_fields (classes_of l) ws ≡ o → ¬ (line_of_fields l o ≡ Faulty) → fields_fault l ws ≡ None
    said l ws None e h = absurd (h refl)
    said l ws (Some fs) e h = letter_good l ws fs e

    by_letter : (o : Option Letter) (ws : List (List ℕ)) → ¬ (line_of_letter o ws ≡ Faulty) → line_fault o ws ≡ None
    by_letter None ws h = refl
    by_letter (Some l) ws h = said l ws (read_fields (classes_of l) ws) refl h

    words : (ws : List (List ℕ)) → ¬ (line_of_words ws ≡ Faulty) → line_fault (letter_of (first_field ws)) (other_fields ws) ≡ None
    words [] h = refl
    words (w ∷ ws) h = by_letter (letter_of w) ws h

-- the kind of a wrong field is the first of the four that holds
abbrev four_kinds : Option ReadKind → Option ReadKind
four_kinds o = cond (is_field_count o) (Some FieldCount) (cond (is_bad_number o) (Some BadNumber) (cond (is_bad_angle o) (Some BadAngle) (cond (is_out_of_range o) (Some OutOfRange) None)))

four_first : (o : Option ReadKind) → OneOfFour o → kind_or OutOfRange o ≡ kind_or OutOfRange (four_kinds o)
four_first None four = refl
four_first (Some FieldCount) four = refl
four_first (Some BadNumber) four = refl
four_first (Some BadAngle) four = refl
four_first (Some OutOfRange) four = refl
four_first (Some kind) four = absurd (let e = four refl refl refl refl in cc)

-- the tests, one after the other
chain : (full text block stray symbol unknown nested : Bool) (rest : Option ReadKind) (kind : ReadKind) → (unknown ≡ false → kind ≡ kind_or OutOfRange rest) →
    kind_or OutOfRange (cond full (Some TooLarge) (cond (not text) (Some NotUtf8) (cond block (Some NotAttribute) (cond (stray || symbol) (Some StrayBracket) (cond unknown (Some UnknownLetter) (cond nested (Some Nested) rest))))))
    ≡ cond full TooLarge (cond (not text) NotUtf8 (cond block NotAttribute (cond stray StrayBracket (cond symbol StrayBracket (cond unknown UnknownLetter (cond nested Nested kind))))))
chain true text block stray symbol unknown nested rest kind own = refl
chain false false block stray symbol unknown nested rest kind own = refl
chain false true true stray symbol unknown nested rest kind own = refl
chain false true false true symbol unknown nested rest kind own = refl
chain false true false false true unknown nested rest kind own = refl
chain false true false false false true nested rest kind own = refl
chain false true false false false false true rest kind own = refl
chain false true false false false false false rest kind own = sym (own refl)

module _ (S W : Type 0) (m : RowMachine S W) (head : HeadData) (s : S) (e : Expected) (x : Expects m s e) where
  abbrev t : FileState S
  t = Begun head (Ready s)

  abbrev as_ready : S → ReaderState S Pending
  as_ready r = Ready r

  takes_by : (letter : Letter) (row : Row) → sheet_line (byte_of letter ∷ []) ≡ Complete row → takes (file_machine m) t letter ≡ is_some (m.step s row)
  takes_by letter row l = rw l (some_map (Begun head) (option_map as_ready (m.step s row)) ∙ some_map as_ready (m.step s row))

  open_block_by : takes (file_machine m) t letters.OpenBlock ≡ e.open_block
  open_block_by = takes_by letters.OpenBlock rows.OpenBlock open_block_said ∙ x.open_block

  close_block_by : takes (file_machine m) t letters.CloseBlock ≡ e.close_block
  close_block_by = takes_by letters.CloseBlock rows.CloseBlock close_block_said ∙ x.close_block

  open_symbol_by : takes (file_machine m) t letters.OpenSymbol ≡ e.open_symbol
  open_symbol_by = takes_by letters.OpenSymbol rows.OpenSymbol open_symbol_said ∙ x.open_symbol

  close_symbol_by : takes (file_machine m) t letters.CloseSymbol ≡ e.close_symbol
  close_symbol_by = takes_by letters.CloseSymbol rows.CloseSymbol close_symbol_line ∙ x.close_symbol

  stray_by : (o : Option Letter) → is_stray (file_machine m) t o ≡ is_stray_by e o
  stray_by None = refl
  stray_by (Some letters.OpenBlock) = ap not open_block_by
  stray_by (Some letters.CloseBlock) = ap not close_block_by
  stray_by (Some letters.OpenSymbol) = ap not open_symbol_by
  stray_by (Some letters.CloseSymbol) = ap not close_symbol_by
  stray_by (Some letter) = refl

  abbrev tested : Bool → Bool → Bool → Bool → Bool → List ℕ → ReadKind
  tested full block symbol close stray line =
      kind_or OutOfRange (cond (full && is_object (letter_at line)) (Some TooLarge) (cond (not (is_utf8 line)) (Some NotUtf8) (cond (block && not (is_attribute (letter_at line))) (Some NotAttribute) (cond (stray || (symbol && not (is_open_symbol (letter_at line)))) (Some StrayBracket) (cond (is_unknown (letter_at line)) (Some UnknownLetter) (cond ((m.is_symbol || close) && is_component (letter_at line)) (Some Nested) (four_kinds (line_fault (letter_at line) (other_fields (fields_of line))))))))))

  same_tests : (full block symbol close stray full' block' symbol' close' stray' : Bool) (line : List ℕ) → full ≡ full' → block ≡ block' → symbol ≡ symbol' → close ≡ close' → stray ≡ stray' → tested full block symbol close stray line ≡ tested full' block' symbol' close' stray' line
  same_tests full block symbol close stray full' block' symbol' close' stray' line a b c d f = rw (a, b, c, d, f) refl

  -- between rows
  pub kind_between : (line : List ℕ) (kind : ReadKind) → (is_unknown (letter_at line) ≡ false → kind ≡ kind_or OutOfRange (line_fault (letter_at line) (other_fields (fields_of line)))) → kind_of (file_machine m) t line ≡ line_kind m.is_symbol e line kind
  unfolding line_kind place_kind
  kind_between line kind own =
      let o = line_fault (letter_at line) (other_fields (fields_of line)) in
      same_tests (m.has_no_room s) (takes (file_machine m) t letters.CloseBlock) (takes (file_machine m) t letters.OpenSymbol) (takes (file_machine m) t letters.CloseSymbol) (is_stray (file_machine m) t (letter_at line))
      e.full e.close_block e.open_symbol e.close_symbol (is_stray_by e (letter_at line)) line x.full close_block_by open_symbol_by close_symbol_by (stray_by (letter_at line))
      ∙ chain (e.full && is_object (letter_at line)) (is_utf8 line) (e.close_block && not (is_attribute (letter_at line))) (is_stray_by e (letter_at line)) (e.open_symbol && not (is_open_symbol (letter_at line))) (is_unknown (letter_at line)) ((m.is_symbol || e.close_symbol) && is_component (letter_at line)) (four_kinds o) kind
      (λ known. own known ∙ four_first o (line_four (letter_at line) (other_fields (fields_of line))))

-- the kind that a faulty line has by itself
pub own_faulty : (line : List ℕ) → is_unknown (letter_at line) ≡ false → kind_or OutOfRange (own_kind line) ≡ kind_or OutOfRange (line_fault (letter_at line) (other_fields (fields_of line)))
own_faulty line known = go (letter_at line) (other_fields (fields_of line)) known
  where
    go : (o : Option Letter) (ws : List (List ℕ)) → is_unknown o ≡ false → kind_or OutOfRange (kind_by o ws) ≡ kind_or OutOfRange (line_fault o ws)
    go None ws e = absurd cc
    go (Some l) ws e = refl

-- before the version line
unbegun : (text version : Bool) (rest : Option ReadKind) → kind_or OutOfRange (cond (not text) (Some NotUtf8) (cond (not version) (Some NoVersion) (cond (version && true) (Some BadFormat) rest))) ≡ cond (not text) NotUtf8 (cond version BadFormat NoVersion)
unbegun false version rest = refl
unbegun true true rest = refl
unbegun true false rest = refl

pub kind_unbegun : {S W : Type 0} (m : RowMachine S W) (line : List ℕ) → version_of line ≡ None → kind_of (file_machine m) Unbegun line ≡ version_kind line
unfolding version_kind
kind_unbegun m line e = rw e (unbegun (is_utf8 line) (is_version (first_field (fields_of line))) _)

-- amid a shape
pub kind_amid : {S W : Type 0} (m : RowMachine S W) (head : HeadData) (s : S) (p : Pending) (line : List ℕ) → is_utf8 line ≡ false → kind_of (file_machine m) (Begun head (Amid s p)) line ≡ NotUtf8
kind_amid m head s p line e = rw e refl
