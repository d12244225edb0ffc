-- Files that are read line by line: which lines open one, and what the tests of faults find.
use Rattle.std.proofs.Common.{◌≡◌, ℕ, ℤ, Bool, true, false, cond, not, List, [], ◌∷◌, ◌++◌, length, Option, Some, None, refl, sym, ap, subst, ◌∙◌, ◌↔◌, arith, codes, eqb}
use Rattle.std.specs.Prelude.{is_some, IsSome, ◌&&◌, ◌||◌}
use Rattle.std.specs.List.{AllByRecursion}
use Rattle.std.specs.Str.{is_utf8}
use Rattle.std.specs.Option.{option_map}
use Rattle.geda_model.specs.Sheets.{HeadData}
use Rattle.geda_model.specs.declared.shape.Shape.{Shape}
use Rattle.geda_grammar.specs.declared.kind.ReadKind.{ReadKind}
use Rattle.geda_grammar.specs.declared.kind.ReadKind.TheVariants.{FieldCount, OutOfRange}
use Rattle.geda_grammar.specs.declared.letter.Letter.TheVariants as letters
use Rattle.geda_grammar.specs.declared.letter.Letter.{Letter}
use Rattle.geda_grammar.specs.Letters.{byte_of, letter_of, is_bracket, is_object, is_attribute, is_open_symbol, is_component, is_unknown, is_version}
use Rattle.geda_grammar.specs.declared.field_class.Class.{Class}
use Rattle.geda_grammar.specs.declared.field_class.Class.TheVariants.{Within, UpTo, Lines, Angle, Basename}
use Rattle.geda_grammar.specs.Classes.{Field, Number, Word, classes_of, field_in, number_in, fits, field_fault, number_fault, misfit, or_later, first_fault, fields_fault, line_fault}
use Rattle.geda_grammar.specs.declared.row.Row.TheVariants as rows
use Rattle.geda_grammar.specs.declared.row.Row.{Row}
use Rattle.geda_grammar.specs.declared.row.Row.TheVariants.{Drawn}
use Rattle.geda_grammar.specs.Rows.{letter_of_row, letter_of_shape}
use Rattle.geda_grammar.specs.steps.Reading.{Progress, Still, Whole, SheetLine, Blank, Complete, Begins, Faulty, ReaderState, Ready, Amid, take_row, take_line, take_progress, reader_step, reader_end}
use Rattle.geda_grammar.specs.steps.Following.{Pending, more, add}
use Rattle.geda_grammar.specs.steps.SheetLines.{letter_line, sheet_line, line_of_words, line_of_letter, line_of_fields, read_fields}
use Rattle.geda_grammar.specs.steps.Running.{run, outcome, ◌>>=◌}
use Rattle.geda_grammar.specs.steps.Tests.{LineMachine, takes, is_stray, test, first_true, is_field_count, is_bad_number, is_bad_angle, is_out_of_range}
use Rattle.geda_grammar.specs.Faults.{kinds, letter_at}
use Rattle.geda_grammar.specs.steps.Files.{RowMachine, so_far, admits, FileState, Unbegun, Begun, begun_at, file_step, file_end, file_start, file_machine, version_of, head_of}
use Rattle.geda_grammar.specs.Spelling.{IsBlankLine, SpellRows}
use Rattle.geda_model.specs.Names.{is_word}
use Rattle.geda_text.specs.Lines.{IsCutLine, fields_of, first_field, other_fields, whole_of}
use Rattle.geda_grammar.proofs.LevelSound.{mapped, let_through}
use Rattle.std.proofs.lemmas.Bool.{eqb-true, or_parts}
use Rattle.geda_grammar.proofs.LineRows as line_rows
use Rattle.geda_grammar.proofs.LineRows.{Follows}
use Rattle.geda_grammar.proofs.FieldLaws.{has_fields, line_fits, read_fields_back}
use Rattle.geda_grammar.proofs.FollowLaws.{more_adds}
use Rattle.geda_grammar.proofs.RowLaws.{said_row, said_begins, row_said}
use Rattle.geda_grammar.proofs.SheetLineLaws.{Awaits, Fine, fine, Kept, add_keeps, same_letter, Completed, completed}

-- a shape that begins awaits a line, and has the letter of its line
pub begins_fine : (line : List ℕ) (p : Pending) → sheet_line line ≡ Begins p → Awaits p
begins_fine line p e =
    let h = has_fields line (Begins p) e tt in
    (subst (Fine h.letter) h.what_is (fine h.letter h.fields (line_fits (classes_of h.letter) h.words h.fields h.say_so))).1

-- a line without a field
pub said_blank : (line : List ℕ) → sheet_line line ≡ Blank → IsBlankLine line
said_blank line e = by_words (fields_of line) refl e
  where
    by_fields : (l : Letter) (words : List (List ℕ)) (o : Option (List Field)) → read_fields (classes_of l) words ≡ o → ¬ (line_of_fields l o ≡ Blank)
    by_fields l words None g e = absurd cc
    by_fields l words (Some fs) g e = subst (Fine l) e (fine l fs (line_fits (classes_of l) words fs (read_fields_back (classes_of l) words fs g)))

    by_letter : (o : Option Letter) (words : List (List ℕ)) → ¬ (line_of_letter o words ≡ Blank)
    by_letter None words e = absurd cc
    by_letter (Some l) words e = by_fields l words (read_fields (classes_of l) words) refl e

    by_words : (ws : List (List ℕ)) → fields_of line ≡ ws → line_of_words ws ≡ Blank → fields_of line ≡ []
    by_words [] f e = f
    by_words (w ∷ words) f e = absurd (by_letter (letter_of w) words e)

pub blank_said : (line : List ℕ) → IsBlankLine line → sheet_line line ≡ Blank
blank_said line e = rw e refl

-- where no test holds, each fails
pub none_true : (holds : ReadKind → Bool) (ks : List ReadKind) → first_true holds ks ≡ None → AllByRecursion (λ k. holds k ≡ false) ks
none_true holds [] e = tt
none_true holds (k ∷ ks) e = go (holds k) refl e (none_true holds ks)
  where
    go : (b : Bool) → holds k ≡ b → cond b (Some k) (first_true holds ks) ≡ None → (first_true holds ks ≡ None → AllByRecursion (λ k. holds k ≡ false) ks) → AllByRecursion (λ k. holds k ≡ false) (k ∷ ks)
    go true f e later = absurd cc
    go false f e later = (f, later e)

-- a wrong field has one of the four kinds
abbrev pub OneOfFour : Option ReadKind → Type 0
OneOfFour o = is_field_count o ≡ false → is_bad_number o ≡ false → is_bad_angle o ≡ false → is_out_of_range o ≡ false → o ≡ None

misfit_four : (c : Class) → ¬ ((is_bad_angle (Some (misfit c)) ≡ false) × (is_out_of_range (Some (misfit c)) ≡ false))
misfit_four (Within n) e = absurd (let f = e.1 in cc)
misfit_four (UpTo n) e = absurd (let f = e.1 in cc)
misfit_four Lines e = absurd (let f = e.1 in cc)
misfit_four Angle e = absurd (let f = e.0 in cc)
misfit_four Basename e = absurd (let f = e.1 in cc)

number_four : (c : Class) (o : Option ℤ) → OneOfFour (number_fault c o)
number_four c None = λ count bad angle range. absurd cc
number_four c (Some z) = go (fits c z)
  where
    go : (b : Bool) → OneOfFour (cond b None (Some (misfit c)))
    go true = λ count bad angle range. refl
    go false = λ count bad angle range. absurd (misfit_four c (angle, range))

field_four : (c : Class) (w : List ℕ) → OneOfFour (field_fault c w)
field_four (Within n) w = number_four (Within n) (whole_of w)
field_four (UpTo n) w = number_four (UpTo n) (whole_of w)
field_four Lines w = number_four Lines (whole_of w)
field_four Angle w = number_four Angle (whole_of w)
field_four Basename w = go (is_word w)
  where
    go : (b : Bool) → OneOfFour (cond b None (Some OutOfRange))
    go true = λ count bad angle range. refl
    go false = λ count bad angle range. absurd cc

later_four : (o p : Option ReadKind) → OneOfFour o → OneOfFour p → OneOfFour (or_later o p)
later_four None p f g = g
later_four (Some kind) p f g = f

first_four : (cs : List Class) (ws : List (List ℕ)) → OneOfFour (first_fault cs ws)
first_four (c ∷ cs) (w ∷ ws) = later_four (field_fault c w) (first_fault cs ws) (field_four c w) (first_four cs ws)
first_four cs ws = λ count bad angle range. refl

fields_four : (l : Letter) (ws : List (List ℕ)) → OneOfFour (fields_fault l ws)
fields_four l ws = go (eqb (length ws) (length (classes_of l)))
  where
    go : (b : Bool) → OneOfFour (cond b (first_fault (classes_of l) ws) (Some FieldCount))
    go true = first_four (classes_of l) ws
    go false = λ count bad angle range. absurd cc

-- fields without fault are read
number_reads : (c : Class) (o : Option ℤ) → number_fault c o ≡ None → (f : Field) × (number_in c o ≡ Some f)
number_reads c None e = absurd cc
number_reads c (Some z) e = go (fits c z) e
  where
    go : (b : Bool) → cond b None (Some (misfit c)) ≡ None → (f : Field) × (cond b (Some (Number z)) None ≡ Some f)
    go true e = (Number z, refl)
    go false e = absurd cc

field_reads : (c : Class) (w : List ℕ) → field_fault c w ≡ None → (f : Field) × (field_in c w ≡ Some f)
field_reads (Within n) w e = number_reads (Within n) (whole_of w) e
field_reads (UpTo n) w e = number_reads (UpTo n) (whole_of w) e
field_reads Lines w e = number_reads Lines (whole_of w) e
field_reads Angle w e = number_reads Angle (whole_of w) e
field_reads Basename w e = go (is_word w) e
  where
    go : (b : Bool) → cond b None (Some OutOfRange) ≡ None → (f : Field) × (cond b (Some (Word w)) None ≡ Some f)
    go true e = (Word w, refl)
    go false e = absurd cc

later_none : (o p : Option ReadKind) → or_later o p ≡ None → (o ≡ None) × (p ≡ None)
later_none None p e = (refl, e)
later_none (Some kind) p e = absurd cc

first_reads : (cs : List Class) (ws : List (List ℕ)) → length ws ≡ length cs → first_fault cs ws ≡ None → (fs : List Field) × (read_fields cs ws ≡ Some fs)
first_reads [] [] n e = ([], refl)
first_reads [] (w ∷ ws) n e = absurd (omega (arith, n))
first_reads (c ∷ cs) [] n e = absurd (omega (arith, n))
first_reads (c ∷ cs) (w ∷ ws) n e =
    let both = later_none (field_fault c w) (first_fault cs ws) e in
    let one = field_reads c w both.0 in
    let others = first_reads cs ws (omega (arith, n)) both.1 in
    (one.0 ∷ others.0, rw (one.1, others.1) refl)

fields_read : (l : Letter) (ws : List (List ℕ)) → fields_fault l ws ≡ None → (fs : List Field) × (read_fields (classes_of l) ws ≡ Some fs)
fields_read l ws e = go (eqb (length ws) (length (classes_of l))) refl e
  where
    go : (b : Bool) → eqb (length ws) (length (classes_of l)) ≡ b → cond b (first_fault (classes_of l) ws) (Some FieldCount) ≡ None → (fs : List Field) × (read_fields (classes_of l) ws ≡ Some fs)
    go true f e = first_reads (classes_of l) ws (eqb-true _ _ f) e
    go false f e = absurd cc

-- what holds of two lists
pub all_append : {A : Type 0} (P : A → Type 0) (xs ys : List A) → AllByRecursion P xs → AllByRecursion P ys → AllByRecursion P (xs ++ ys)
all_append P [] ys p q = q
all_append P (x ∷ xs) ys p q = (p.0, all_append P xs ys p.1 q)

-- a version line
first_version : version_of (codes "v 00000000 1") ≡ Some (head_of (codes "00000000") 1)
unfolding fields_of
first_version = refl

first_good : IsCutLine (codes "v 00000000 1")
first_good = record { one = (omega arith, (omega arith, (omega arith, (omega arith, (omega arith, (omega arith, (omega arith, (omega arith, (omega arith, (omega arith, (omega arith, (omega arith, tt)))))))))))); no_cr = refl }

-- a bracket alone
pub open_block_said : sheet_line (byte_of letters.OpenBlock ∷ []) ≡ Complete rows.OpenBlock
unfolding fields_of
open_block_said = refl

pub close_block_said : sheet_line (byte_of letters.CloseBlock ∷ []) ≡ Complete rows.CloseBlock
unfolding fields_of
close_block_said = refl

pub open_symbol_said : sheet_line (byte_of letters.OpenSymbol ∷ []) ≡ Complete rows.OpenSymbol
unfolding fields_of
open_symbol_said = refl

pub close_symbol_line : sheet_line (byte_of letters.CloseSymbol ∷ []) ≡ Complete rows.CloseSymbol
unfolding fields_of
close_symbol_line = refl

-- where a line of this letter may stand, by the rows that may
pub record MayStand {S W : Type 0} (m : RowMachine S W) (s : S) (l : Letter) : Type 0 where
  pub room : (m.has_no_room s && is_object (Some l)) ≡ false
  pub block : (is_some (m.step s rows.CloseBlock) && not (is_attribute (Some l))) ≡ false
  pub symbol : (is_some (m.step s rows.OpenSymbol) && not (is_open_symbol (Some l))) ≡ false
  pub nested : ((m.is_symbol || is_some (m.step s rows.CloseSymbol)) && is_component (Some l)) ≡ false

-- what the tests on a line say where none holds, by its letter and the fields behind it
pub record Passes {T : Type 0} (m : LineMachine T) (t : T) (o : Option Letter) (words : List (List ℕ)) : Type 0 where
  pub room : (m.has_no_room t && is_object o) ≡ false
  pub block : (takes m t letters.CloseBlock && not (is_attribute o)) ≡ false
  pub stray : is_stray m t o ≡ false
  pub symbol : (takes m t letters.OpenSymbol && not (is_open_symbol o)) ≡ false
  pub known : is_unknown o ≡ false
  pub nested : ((m.is_symbol || takes m t letters.CloseSymbol) && is_component o) ≡ false
  pub fields : line_fault o words ≡ None

pub line_four : (o : Option Letter) (ws : List (List ℕ)) → OneOfFour (line_fault o ws)
line_four None ws = λ count bad angle range. refl
line_four (Some l) ws = fields_four l ws

passes : {T : Type 0} (m : LineMachine T) (t : T) (line : List ℕ) → AllByRecursion (λ k. test m t line k ≡ false) kinds → Passes m t (letter_at line) (other_fields (fields_of line))
passes m t line f =
    let two = or_parts (is_stray m t (letter_at line)) (takes m t letters.OpenSymbol && not (is_open_symbol (letter_at line))) f.1.1.1.1.1.0 in
    record {
      room = f.0;
      block = f.1.1.1.1.0;
      stray = two.0;
      symbol = two.1;
      known = f.1.1.1.1.1.1.0;
      nested = f.1.1.1.1.1.1.1.0;
      fields = line_four (letter_at line) (other_fields (fields_of line)) f.1.1.1.1.1.1.1.1.0 f.1.1.1.1.1.1.1.1.1.0 f.1.1.1.1.1.1.1.1.1.1.0 f.1.1.1.1.1.1.1.1.1.1.1.0;
    }

-- the same is there behind a head
still_some : {A B C : Type 0} (f : A → B) (g : B → C) (o : Option A) → is_some (option_map g (option_map f o)) ≡ is_some o
still_some f g None = refl
still_some f g (Some a) = refl

pub not_false : (b : Bool) → not b ≡ false → b ≡ true
not_false true e = refl
not_false false e = absurd cc

module _ (S W : Type 0) (m : RowMachine S W) (Valid : S → Type 0)
    (valid_start : Valid m.start)
    (valid_step : (s t : S) (row : Row) → Valid s → m.step s row ≡ Some t → Valid t)
    (as_letter : (s : S) (a b : Shape) → letter_of_shape a ≡ letter_of_shape b → IsSome (m.step s (Drawn a)) → IsSome (m.step s (Drawn b)))
    (accepts : (s : S) (row : Row) → Valid s → is_bracket (letter_of_row row) ≡ false → MayStand m s (letter_of_row row) → IsSome (m.step s row))
    (closing : (s : S) → Valid s → (lines : List (List ℕ)) × AllByRecursion IsCutLine lines × (w : W) × (outcome (reader_step sheet_line more m.step (admits m)) (reader_end m.finish) (Ready s) lines ≡ Some w))
  where
    abbrev step : ReaderState S Pending → List ℕ → Option (ReaderState S Pending)
    step = reader_step sheet_line more m.step (admits m)

    abbrev as_ready : S → ReaderState S Pending
    as_ready s = Ready s

    -- what each state keeps
    abbrev pub ValidReader : ReaderState S Pending → Type 0
    ValidReader (Ready s) = Valid s
    ValidReader (Amid s p) = Valid s × Awaits p × IsSome (m.step s (Drawn (so_far p)))

    abbrev pub ValidFile : FileState S → Type 0
    ValidFile Unbegun = Unit {0}
    ValidFile (Begun head r) = ValidReader r

    row_keeps : (s : S) (row : Row) (q : ReaderState S Pending) → Valid s → take_row m.step s row ≡ Some q → ValidReader q
    row_keeps s row q v e =
        let t = mapped Ready (m.step s row) q e in
        subst ValidReader t.2 (valid_step s t.0 row v t.1)

    said_keeps : (what : SheetLine Pending) (line : List ℕ) (s : S) (q : ReaderState S Pending) → sheet_line line ≡ what → Valid s → take_line m.step (admits m) s what ≡ Some q → ValidReader q
    said_keeps Blank line s q w v e = let same : Ready s ≡ q = cc in subst ValidReader same v
    said_keeps (Complete row) line s q w v e = row_keeps s row q v e
    said_keeps (Begins p) line s q w v e =
        let t = let_through (admits m s p) (Amid s p) q e in
        subst ValidReader t.1 (v, begins_fine line p w, t.0)
    said_keeps Faulty line s q w v e = absurd cc

    progress_keeps : (o : Option (Progress Pending)) (line : List ℕ) (s : S) (p : Pending) (q : ReaderState S Pending) → more p line ≡ o → ValidReader (Amid s p) → take_progress m.step s o ≡ Some q → ValidReader q
    progress_keeps None line s p q w v e = absurd cc
    progress_keeps (Some (Whole shape)) line s p q w v e = row_keeps s (Drawn shape) q v.0 e
    progress_keeps (Some (Still r)) line s p q w v e =
        let same : Amid s r ≡ q = cc in
        let add_is = (more_adds p line (Still r) w).1 in
        let k = subst (Kept (letter_of_shape (so_far p))) add_is (add_keeps p line v.1) in
        subst ValidReader same (v.0, k.1, as_letter s (so_far p) (so_far r) (sym k.0) v.2)

    reader_keeps : (r q : ReaderState S Pending) (line : List ℕ) → ValidReader r → step r line ≡ Some q → ValidReader q
    reader_keeps (Ready s) q line v e = said_keeps (sheet_line line) line s q refl v e
    reader_keeps (Amid s p) q line v e = progress_keeps (more p line) line s p q refl v e

    pub file_keeps : (t u : FileState S) (line : List ℕ) → ValidFile t → file_step m t line ≡ Some u → ValidFile u
    file_keeps Unbegun u line v e =
        let b = mapped (begun_at m.start) (version_of line) u e in
        subst ValidFile b.2 valid_start
    file_keeps (Begun head r) u line v e =
        let b = mapped (Begun head) (step r line) u e in
        subst ValidFile b.2 (reader_keeps r b.0 line v b.1)

    pub start_valid : (b : Bool) → ValidFile (file_start m b)
    start_valid true = tt
    start_valid false = valid_start

    -- what lines make of a reader, they make of the file
    pub lifted : (V : Type 0) (make : HeadData → W → V) (lines : List (List ℕ)) (head : HeadData) (r : ReaderState S Pending) → outcome (file_step m) (file_end m make) (Begun head r) lines ≡ option_map (make head) (outcome step (reader_end m.finish) r lines)
    lifted V make [] head r = refl
    lifted V make (line ∷ lines) head r = go (step r line) (λ q. lifted V make lines head q)
      where
        go : (o : Option (ReaderState S Pending)) → ((q : ReaderState S Pending) → outcome (file_step m) (file_end m make) (Begun head q) lines ≡ option_map (make head) (outcome step (reader_end m.finish) q lines)) → ((option_map (Begun head) o >>= λ t. run (file_step m) t lines) >>= file_end m make) ≡ option_map (make head) ((o >>= λ q. run step q lines) >>= reader_end m.finish)
        go None later = refl
        go (Some q) later = later q

    -- some lines end what is open
    reader_closing : (r : ReaderState S Pending) → ValidReader r → (lines : List (List ℕ)) × AllByRecursion IsCutLine lines × (w : W) × (outcome step (reader_end m.finish) r lines ≡ Some w)
    reader_closing (Ready s) v = closing s v
    reader_closing (Amid s p) v =
        let c = completed p v.1 in
        let same = sym (same_letter c.lines p c.shape v.1 c.follows) in
        put c (m.step s (Drawn c.shape)) refl (as_letter s (so_far p) c.shape same v.2)
      where
        put : (c : Completed p) (o : Option S) → m.step s (Drawn c.shape) ≡ o → IsSome o → (lines : List (List ℕ)) × AllByRecursion IsCutLine lines × (w : W) × (outcome step (reader_end m.finish) (Amid s p) lines ≡ Some w)
        put c None e some = absurd cc
        put c (Some t) e some =
            let end = closing t (valid_step s t (Drawn c.shape) v.0 e) in
            (c.lines ++ end.0, all_append IsCutLine c.lines end.0 c.good end.1, end.2, line_rows.follows_run S Pending W sheet_line more m.step m.finish (admits m) c.lines p c.shape s t end.2 end.0 c.follows e end.3)

    -- some lines end a file that is open
    pub file_closing : (V : Type 0) (make : HeadData → W → V) (t : FileState S) → ValidFile t → (lines : List (List ℕ)) × AllByRecursion IsCutLine lines × (v : V) × (outcome (file_step m) (file_end m make) t lines ≡ Some v)
    file_closing V make Unbegun v =
        let end = reader_closing (Ready m.start) valid_start in
        let head = head_of (codes "00000000") 1 in
        (codes "v 00000000 1" ∷ end.0, (first_good, end.1), make head end.2, rw first_version (lifted V make end.0 head (Ready m.start) ∙ ap (option_map (make head)) end.3))
    file_closing V make (Begun head r) v =
        let end = reader_closing r v in
        (end.0, end.1, make head end.2, lifted V make end.0 head r ∙ ap (option_map (make head)) end.3)

    -- each line that spells a row is read
    pub spelled_rows : (lines : List (List ℕ)) (w : W) → ((rows : List Row) × SpellRows rows lines × (outcome m.step m.finish m.start rows ≡ Some w)) ↔ (outcome step (reader_end m.finish) (Ready m.start) lines ≡ Some w)
    spelled_rows lines w = ((λ h. line_rows.complete S Pending W sheet_line more m.step m.finish (admits m) blank_said said_blank said_row said_begins row_said admitted h.0 lines m.start w h.1 h.2), (λ e. line_rows.sound S Pending W sheet_line more m.step m.finish (admits m) blank_said said_blank said_row said_begins row_said admitted lines (Ready m.start) w e))
      where
        admitted : (s t : S) (line : List ℕ) (p : Pending) (shape : Shape) (following : List (List ℕ)) → sheet_line line ≡ Begins p → Follows more p shape following → m.step s (Drawn shape) ≡ Some t → admits m s p ≡ true
        admitted s t line p shape following w f e = as_letter s shape (so_far p) (same_letter following p shape (begins_fine line p w) f) (rw e refl)

    -- a bracket is taken where its row is
    takes_row : (head : HeadData) (s : S) (letter : Letter) (row : Row) → sheet_line (byte_of letter ∷ []) ≡ Complete row → takes (file_machine m) (Begun head (Ready s)) letter ≡ is_some (m.step s row)
    takes_row head s letter row e = rw e (still_some Ready (Begun head) (m.step s row))

    -- a line of an object stands where nothing is wrong
    object_taken : (head : HeadData) (s : S) (l : Letter) (words : List (List ℕ)) (row : Row) → Valid s → letter_of_row row ≡ l → is_bracket l ≡ false → Passes (file_machine m) (Begun head (Ready s)) (Some l) words → IsSome (m.step s row)
    object_taken head s l words row v same object p =
        let stands : MayStand m s l = record {
          room = p.room;
          block = subst (λ (b : Bool). (b && not (is_attribute (Some l))) ≡ false) (takes_row head s letters.CloseBlock rows.CloseBlock close_block_said) p.block;
          symbol = subst (λ (b : Bool). (b && not (is_open_symbol (Some l))) ≡ false) (takes_row head s letters.OpenSymbol rows.OpenSymbol open_symbol_said) p.symbol;
          nested = subst (λ (b : Bool). ((m.is_symbol || b) && is_component (Some l)) ≡ false) (takes_row head s letters.CloseSymbol rows.CloseSymbol close_symbol_line) p.nested;
        } in
        accepts s row v (ap is_bracket same ∙ object) (subst (MayStand m s) (sym same) stands)

    object_said : (what : SheetLine Pending) (head : HeadData) (s : S) (l : Letter) (words : List (List ℕ)) → Valid s → Fine l what → is_bracket l ≡ false → Passes (file_machine m) (Begun head (Ready s)) (Some l) words → IsSome (take_line m.step (admits m) s what)
    object_said Blank head s l words v f object p = absurd f
    object_said (Complete row) head s l words v f object p = go (m.step s row) (object_taken head s l words row v (sym f) object p)
      where
        go : (o : Option S) → IsSome o → IsSome (option_map as_ready o)
        go None some = absurd cc
        go (Some t) some = refl
    object_said (Begins q) head s l words v f object p = go (admits m s q) (object_taken head s l words (Drawn (so_far q)) v (sym f.0) object p)
      where
        go : (b : Bool) → b ≡ true → IsSome (cond b (Some (Amid s q)) None)
        go true e = refl
        go false e = absurd cc
    object_said Faulty head s l words v f object p = absurd f

    -- a bracket stands where it is no stray one
    bracket_taken : (head : HeadData) (s : S) (l : Letter) (row : Row) → sheet_line (byte_of l ∷ []) ≡ Complete row → (true && not (takes (file_machine m) (Begun head (Ready s)) l)) ≡ false → IsSome (take_line m.step (admits m) s (Complete row))
    bracket_taken head s l row e p = go (m.step s row) (sym (takes_row head s l row e) ∙ not_false (takes (file_machine m) (Begun head (Ready s)) l) p)
      where
        go : (o : Option S) → is_some o ≡ true → IsSome (option_map as_ready o)
        go None some = absurd cc
        go (Some t) some = refl

    letter_said : (head : HeadData) (s : S) (l : Letter) (words : List (List ℕ)) (fs : List Field) → Valid s → read_fields (classes_of l) words ≡ Some fs → Passes (file_machine m) (Begun head (Ready s)) (Some l) words → IsSome (take_line m.step (admits m) s (letter_line l fs))
    letter_said head s letters.OpenBlock words fs v e p = bracket_taken head s letters.OpenBlock rows.OpenBlock open_block_said p.stray
    letter_said head s letters.CloseBlock words fs v e p = bracket_taken head s letters.CloseBlock rows.CloseBlock close_block_said p.stray
    letter_said head s letters.OpenSymbol words fs v e p = bracket_taken head s letters.OpenSymbol rows.OpenSymbol open_symbol_said p.stray
    letter_said head s letters.CloseSymbol words fs v e p = bracket_taken head s letters.CloseSymbol rows.CloseSymbol close_symbol_line p.stray
    letter_said head s l words fs v e p = object_said (letter_line l fs) head s l words v (fine l fs (line_fits (classes_of l) words fs (read_fields_back (classes_of l) words fs e))) refl p

    -- between rows
    ready_total : (head : HeadData) (s : S) (line : List ℕ) → Valid s → AllByRecursion (λ k. test (file_machine m) (Begun head (Ready s)) line k ≡ false) kinds → IsSome (step (Ready s) line)
    ready_total head s line v f = by_words (fields_of line) refl (passes (file_machine m) (Begun head (Ready s)) line f)
      where
        by_letter : (first : List ℕ) (words : List (List ℕ)) (o : Option Letter) → letter_of first ≡ o → Passes (file_machine m) (Begun head (Ready s)) o words → IsSome (take_line m.step (admits m) s (line_of_letter o words))
        by_letter first words None e p = absurd (let k = p.known in cc)
        by_letter first words (Some l) e p =
            let r = fields_read l words p.fields in
            rw r.1 (letter_said head s l words r.0 v r.1 p)

        by_words : (ws : List (List ℕ)) → fields_of line ≡ ws → Passes (file_machine m) (Begun head (Ready s)) (letter_at line) (other_fields (fields_of line)) → IsSome (step (Ready s) line)
        by_words [] e p = rw e refl
        by_words (first ∷ words) e p =
            let q = subst (λ (ws : List (List ℕ)). Passes (file_machine m) (Begun head (Ready s)) (letter_of (first_field ws)) (other_fields ws)) e p in
            rw e (by_letter first words (letter_of first) refl q)

    -- amid a shape
    amid_total : (head : HeadData) (s : S) (p : Pending) (line : List ℕ) → ValidReader (Amid s p) → AllByRecursion (λ k. test (file_machine m) (Begun head (Amid s p)) line k ≡ false) kinds → IsSome (step (Amid s p) line)
    amid_total head s p line v f = rw (not_false (is_utf8 line) f.1.0) (go (add p line) (add_keeps p line v.1))
      where
        put : (o : Option S) → IsSome o → IsSome (option_map as_ready o)
        put None some = absurd cc
        put (Some t) some = refl

        go : (g : Progress Pending) → Kept (letter_of_shape (so_far p)) g → IsSome (take_progress m.step s (Some g))
        go (Still q) k = refl
        go (Whole shape) k = put (m.step s (Drawn shape)) (as_letter s (so_far p) shape (sym k) v.2)

    -- before the version line
    unbegun_total : (line : List ℕ) → AllByRecursion (λ k. test (file_machine m) Unbegun line k ≡ false) kinds → IsSome (version_of line)
    unbegun_total line f = go (is_version (first_field (fields_of line))) (is_some (version_of line)) f.1.1.0 f.1.1.1.0
      where
        go : (b c : Bool) → (true && not b) ≡ false → (true && (b && not c)) ≡ false → c ≡ true
        go true true e g = refl
        go true false e g = absurd cc
        go false c e g = absurd cc

    -- a line that is not taken has a kind
    pub file_total : (t : FileState S) (line : List ℕ) → ValidFile t → file_step m t line ≡ None → IsSome (first_true (test (file_machine m) t line) kinds)
    file_total t line v e = go (first_true (test (file_machine m) t line) kinds) refl
      where
        no_map : {A B : Type 0} (f : A → B) (o : Option A) → IsSome o → ¬ (option_map f o ≡ None)
        no_map f None some e = absurd cc
        no_map f (Some a) some e = absurd cc

        taken : (t : FileState S) → ValidFile t → AllByRecursion (λ k. test (file_machine m) t line k ≡ false) kinds → ¬ (file_step m t line ≡ None)
        taken Unbegun v f e = no_map (begun_at m.start) (version_of line) (unbegun_total line f) e
        taken (Begun head (Ready s)) v f e = no_map (Begun head) (step (Ready s) line) (ready_total head s line v f) e
        taken (Begun head (Amid s p)) v f e = no_map (Begun head) (step (Amid s p) line) (amid_total head s p line v f) e

        go : (o : Option ReadKind) → first_true (test (file_machine m) t line) kinds ≡ o → IsSome o
        go (Some kind) f = refl
        go None f = absurd (taken t v (none_true (test (file_machine m) t line) kinds f) e)
