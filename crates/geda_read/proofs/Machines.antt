-- The code reads what the grammar's machines read, line by line.
use Rattle.std.proofs.Common.{◌≡◌, ℕ, ◌+◌, Bool, true, false, cond, List, [], ◌∷◌, ◌++◌, ◌-◌, length, codes, Option, Some, None, refl, sym, ap, subst, ◌∙◌, eqb, arith, Result, Ok, Err}
use Rattle.std.specs.Prelude.{is_some, IsSome}
use Rattle.std.specs.Option.{option_map}
use Rattle.std.specs.Str.{is_utf8, bytes_eq}
use Rattle.geda_model.specs.Sheets.{HeadData}
use Rattle.geda_model.specs.declared.shape.Shape.{Shape}
use Rattle.geda_model.specs.declared.shape.Shape.TheVariants as shapes
use Rattle.geda_grammar.specs.declared.kind.ReadKind.{ReadKind}
use Rattle.geda_grammar.specs.declared.kind.ReadKind.TheVariants.{CutShort, NotUtf8, OutOfRange}
use Rattle.geda_grammar.specs.declared.row.Row.{Row}
use Rattle.geda_grammar.specs.declared.row.Row.TheVariants.{Drawn}
use Rattle.geda_grammar.specs.Letters.{is_unknown}
use Rattle.geda_grammar.specs.Faults.{letter_at}
use Rattle.geda_grammar.specs.Rows.{letter_of_shape}
use Rattle.geda_grammar.specs.steps.Following.{Pending, TextLines, PathLines, PictureName, PictureLines, add, picture, with_content}
use Rattle.geda_grammar.specs.steps.Reading.{SheetLine, Blank, Complete, Begins, Faulty, Progress, Still, Whole, ReaderState, Ready, Amid}
use Rattle.geda_grammar.specs.steps.Reading as reading
use Rattle.geda_defs.specs.Lines.{ended}
use Rattle.geda_text.specs.Lines.{fields_of, other_fields}
use Rattle.geda_grammar.specs.Classes.{line_fault}
use Rattle.geda_grammar.specs.steps.SheetLines.{sheet_line}
use Rattle.geda_grammar.specs.steps.Tests.{early_end, ended_with, kind_of, kind_or, read_from}
use Rattle.geda_grammar.specs.steps.Files.{Begun, FileState, RowMachine, Unbegun, admits, begun_at, file_end, file_machine, file_step, so_far, version_of}
use Rattle.geda_read.specs.declared.rows.FileMode.{FileMode}
use Rattle.geda_read.specs.declared.rows.OpenRows.{OpenRows}
use Rattle.geda_read.specs.steps.Expecting.{line_kind, rows_expect, version_kind}
use Rattle.sheet_lines.specs.SheetLines.{own_kind}
use Rattle.geda_read.specs.steps.Rows.{is_symbol_file, rows_start, rows_step}
use Rattle.geda_read.specs.steps.Files.{admits_by, at_end, begun, end_by, map_ok, or_end, or_refused, read_lines, refused_kind, start_of, take_amid, take_between, take_line, take_lines, take_more, take_row, take_said, take_version}
use Rattle.geda_read.proofs.LineKinds.{kind_amid, kind_between, kind_unbegun, line_good, own_faulty}
use Rattle.geda_read.proofs.Places.{Expects}

-- a line keeps the letter of the shape that it belongs to
abbrev LetterOf : Pending → Progress Pending → Type 0
LetterOf p (Still q) = letter_of_shape (so_far p) ≡ letter_of_shape (so_far q)
LetterOf p (Whole shape) = letter_of_shape (so_far p) ≡ letter_of_shape shape

keeps_letter : (p : Pending) (line : List ℕ) → LetterOf p (add p line)
keeps_letter (TextLines t left) line = go (eqb left 1)
  where
    go : (b : Bool) → LetterOf (TextLines t left) (cond b (Whole (shapes.Text (with_content t (t.content ++ line)))) (Still (TextLines (with_content t ((t.content ++ line) ++ 10 ∷ [])) (left - 1))))
    go true = refl
    go false = refl
keeps_letter (PathLines color stroke fill content left) line = go (eqb left 1)
  where
    go : (b : Bool) → LetterOf (PathLines color stroke fill content left) (cond b (Whole (shapes.Path color stroke fill (content ++ line))) (Still (PathLines color stroke fill ((content ++ line) ++ 10 ∷ []) (left - 1))))
    go true = refl
    go false = refl
keeps_letter (PictureName f true) line = refl
keeps_letter (PictureName f false) line = refl
keeps_letter (PictureLines f file bytes) line = go (bytes_eq line (codes "."))
  where
    go : (b : Bool) → LetterOf (PictureLines f file bytes) (cond b (Whole (picture f file (Some bytes))) (Still (PictureLines f file (bytes ++ ended line))))
    go true = refl
    go false = refl

module _ (S W V : Type 0) (m : RowMachine S W) (make : HeadData → W → V) (mode : FileMode) (held : S → OpenRows)
    (start_is : rows_start mode ≡ held m.start)
    (step_is : (s : S) (row : Row) → rows_step mode (held s) row ≡ option_map held (m.step s row))
    (expects : (s : S) → Expects m s (rows_expect mode (held s)))
    (same_sort : m.is_symbol ≡ is_symbol_file mode)
    (as_letter : (s : S) (a b : Shape) → letter_of_shape a ≡ letter_of_shape b → IsSome (m.step s (Drawn a)) → IsSome (m.step s (Drawn b)))
    (finish : OpenRows → Option W)
    (finish_is : (s : S) → finish (held s) ≡ m.finish s)
  where
    -- the state as the code holds it
    abbrev state : FileState S → FileState OpenRows
    state Unbegun = Unbegun
    state (Begun head (Ready s)) = Begun head (Ready (held s))
    state (Begun head (Amid s p)) = Begun head (Amid (held s) p)

    -- a shape that waits for lines may stand where it is
    abbrev Stands : FileState S → Type 0
    Stands (Begun head (Amid s p)) = IsSome (m.step s (Drawn (so_far p)))
    Stands t = Unit {0}

    abbrev machine_line : FileState S → List ℕ → Result (FileState OpenRows) ReadKind
    machine_line t line = or_refused (kind_of (file_machine m) t line) (option_map state (file_step m t line))

    first_line : (line : List ℕ) → take_version mode line ≡ machine_line Unbegun line
    unfolding take_version
    first_line line = go (version_of line) refl
      where
        go : (o : Option HeadData) → version_of line ≡ o → or_refused (version_kind line) (option_map (begun mode) o) ≡ or_refused (kind_of (file_machine m) Unbegun line) (option_map state (option_map (begun_at m.start) o))
        go None e = ap (λ k. Err k) (sym (kind_unbegun m line e))
        go (Some head) e = ap (λ r. Ok (Begun head (Ready r))) start_is

    -- the kind of a line that is refused between rows
    refused : (head : HeadData) (s : S) (line : List ℕ) (kind : ReadKind) → (is_unknown (letter_at line) ≡ false → kind ≡ kind_or OutOfRange (line_fault (letter_at line) (other_fields (fields_of line)))) → refused_kind mode (held s) line kind ≡ kind_of (file_machine m) (Begun head (Ready s)) line
    refused head s line kind own = ap (λ b. line_kind b (rows_expect mode (held s)) line kind) (sym same_sort) ∙ sym (kind_between S W m head s (rows_expect mode (held s)) (expects s) line kind own)

    no_fault : (line : List ℕ) → ¬ (sheet_line line ≡ Faulty) → is_unknown (letter_at line) ≡ false → OutOfRange ≡ kind_or OutOfRange (line_fault (letter_at line) (other_fields (fields_of line)))
    no_fault line some known = ap (kind_or OutOfRange) (sym (line_good line some))

    row_taken : (head : HeadData) (s : S) (row : Row) (kind other : ReadKind) → kind ≡ other → map_ok (Begun head) (map_ok Ready (take_row mode (held s) row kind)) ≡ or_refused other (option_map state (option_map (Begun head) (option_map (λ t. Ready t) (m.step s row))))
    unfolding take_row
    row_taken head s row kind other same = rw (step_is s row) (go (m.step s row))
      where
        go : (o : Option S) → map_ok (Begun head) (map_ok Ready (or_refused kind (option_map held o))) ≡ or_refused other (option_map state (option_map (Begun head) (option_map (λ t. Ready t) o)))
        go None = ap (λ k. Err k) same
        go (Some t) = refl

    said_line : (head : HeadData) (s : S) (line : List ℕ) (said : SheetLine Pending) → sheet_line line ≡ said → map_ok (Begun head) (take_said mode (held s) line said) ≡ or_refused (kind_of (file_machine m) (Begun head (Ready s)) line) (option_map state (option_map (Begun head) (reading.take_line m.step (admits m) s said)))
    unfolding admits_by
    said_line head s line Blank e = refl
    said_line head s line (Complete row) e = row_taken head s row (refused_kind mode (held s) line OutOfRange) (kind_of (file_machine m) (Begun head (Ready s)) line) (refused head s line OutOfRange (no_fault line (λ f. absurd (let g = sym e ∙ f in cc))))
    said_line head s line (Begins p) e = rw (sym ((expects s).shape p)) (go (admits m s p))
      where
        go : (b : Bool) → map_ok (Begun head) (cond b (Ok (Amid (held s) p)) (Err (refused_kind mode (held s) line OutOfRange))) ≡ or_refused (kind_of (file_machine m) (Begun head (Ready s)) line) (option_map state (option_map (Begun head) (cond b (Some (Amid s p)) None)))
        go true = refl
        go false = ap (λ k. Err k) (refused head s line OutOfRange (no_fault line (λ f. absurd (let g = sym e ∙ f in cc))))
    said_line head s line Faulty e = ap (λ k. Err k) (refused head s line (kind_or OutOfRange (own_kind line)) (own_faulty line))

    amid_line : (head : HeadData) (s : S) (p : Pending) (line : List ℕ) → IsSome (m.step s (Drawn (so_far p))) → map_ok (Begun head) (take_amid mode (held s) p line) ≡ machine_line (Begun head (Amid s p)) line
    unfolding take_amid take_row
    amid_line head s p line stands = go (is_utf8 line) refl
      where
        whole : (shape : Shape) → letter_of_shape (so_far p) ≡ letter_of_shape shape → (o : Option S) → m.step s (Drawn shape) ≡ o → map_ok (Begun head) (map_ok Ready (or_refused NotUtf8 (option_map held o))) ≡ or_refused (kind_of (file_machine m) (Begun head (Amid s p)) line) (option_map state (option_map (Begun head) (option_map (λ t. Ready t) o)))
        whole shape same None e = absurd (let some = as_letter s (so_far p) shape same stands in let f = sym (ap is_some e) ∙ some in cc)
        whole shape same (Some t) e = refl

        added : (g : Progress Pending) → LetterOf p g → map_ok (Begun head) (take_more mode (held s) (Some g)) ≡ or_refused (kind_of (file_machine m) (Begun head (Amid s p)) line) (option_map state (option_map (Begun head) (reading.take_progress m.step s (Some g))))
        added (Still q) same = refl
        added (Whole shape) same = rw (step_is s (Drawn shape)) (whole shape same (m.step s (Drawn shape)) refl)

        go : (b : Bool) → is_utf8 line ≡ b → map_ok (Begun head) (take_more mode (held s) (cond b (Some (add p line)) None)) ≡ or_refused (kind_of (file_machine m) (Begun head (Amid s p)) line) (option_map state (option_map (Begun head) (reading.take_progress m.step s (cond b (Some (add p line)) None))))
        go true e = added (add p line) (keeps_letter p line)
        go false e = ap (λ k. Err k) (sym (kind_amid m head s p line e))

    -- one line
    one_line : (t : FileState S) (line : List ℕ) → Stands t → take_line mode (state t) line ≡ machine_line t line
    unfolding take_between
    one_line Unbegun line h = first_line line
    one_line (Begun head (Ready s)) line h = said_line head s line (sheet_line line) refl
    one_line (Begun head (Amid s p)) line h = amid_line head s p line h

    -- what stands after it
    still_stands : (t u : FileState S) (line : List ℕ) → Stands t → file_step m t line ≡ Some u → Stands u
    still_stands Unbegun u line h e = go (version_of line) e
      where
        go : (o : Option HeadData) → option_map (begun_at m.start) o ≡ Some u → Stands u
        go None e = absurd cc
        go (Some head) e = subst Stands (let same : begun_at m.start head ≡ u = cc in same) tt
    still_stands (Begun head (Ready s)) u line h e = go (sheet_line line) e
      where
        row : (o : Option S) → option_map (Begun head) (option_map (λ t. Ready t) o) ≡ Some u → Stands u
        row None e = absurd cc
        row (Some t) e = subst Stands (let same : Begun head (Ready t) ≡ u = cc in same) tt

        shape : (p : Pending) (b : Bool) → admits m s p ≡ b → option_map (Begun head) (cond b (Some (Amid s p)) None) ≡ Some u → Stands u
        shape p true f e = subst Stands (let same : Begun head (Amid s p) ≡ u = cc in same) f
        shape p false f e = absurd cc

        go : (said : SheetLine Pending) → option_map (Begun head) (reading.take_line m.step (admits m) s said) ≡ Some u → Stands u
        go Blank e = subst Stands (let same : Begun head (Ready s) ≡ u = cc in same) tt
        go (Complete r) e = row (m.step s r) e
        go (Begins p) e = shape p (admits m s p) refl e
        go Faulty e = absurd cc
    still_stands (Begun head (Amid s p)) u line h e = go (is_utf8 line) e
      where
        row : (o : Option S) → option_map (Begun head) (option_map (λ t. Ready t) o) ≡ Some u → Stands u
        row None e = absurd cc
        row (Some t) e = subst Stands (let same : Begun head (Ready t) ≡ u = cc in same) tt

        added : (g : Progress Pending) → LetterOf p g → option_map (Begun head) (reading.take_progress m.step s (Some g)) ≡ Some u → Stands u
        added (Still q) same e = subst Stands (let there : Begun head (Amid s q) ≡ u = cc in there) (as_letter s (so_far p) (so_far q) same h)
        added (Whole shape) same e = row (m.step s (Drawn shape)) e

        go : (b : Bool) → option_map (Begun head) (reading.take_progress m.step s (cond b (Some (add p line)) None)) ≡ Some u → Stands u
        go true e = added (add p line) (keeps_letter p line) e
        go false e = absurd cc

    -- the end
    at_last : (t : FileState S) (number : ℕ) → ended_with (early_end (file_machine m) t) number (file_end m make t) ≡ at_end number (end_by finish make (state t))
    at_last Unbegun number = refl
    at_last (Begun head (Ready s)) number = rw (finish_is s) (go (m.finish s))
      where
        go : (o : Option W) → ended_with CutShort number (option_map (make head) o) ≡ at_end number (or_refused CutShort (option_map (make head) o))
        go None = refl
        go (Some w) = refl
    at_last (Begun head (Amid s p)) number = refl

    -- all lines
    all_lines : (t : FileState S) (number : ℕ) (lines : List (List ℕ)) → Stands t → read_from (file_machine m) (file_end m make) t number lines ≡ or_end (number + length lines + 1) (end_by finish make) (take_lines mode (state t) number lines)
    all_lines t number [] h = at_last t (number + 1) ∙ ap (λ n. at_end n (end_by finish make (state t))) (omega arith)
    all_lines t number (line ∷ lines) h = go (file_step m t line) refl (one_line t line h) (λ u g. all_lines u (number + 1) lines g)
      where
        go : (o : Option (FileState S)) → file_step m t line ≡ o → take_line mode (state t) line ≡ or_refused (kind_of (file_machine m) t line) (option_map state o) → ((u : FileState S) → Stands u → read_from (file_machine m) (file_end m make) u (number + 1) lines ≡ or_end (number + 1 + length lines + 1) (end_by finish make) (take_lines mode (state u) (number + 1) lines)) → read_from (file_machine m) (file_end m make) t number (line ∷ lines) ≡ or_end (number + length (line ∷ lines) + 1) (end_by finish make) (take_lines mode (state t) number (line ∷ lines))
        go None e same later = rw (e, same) refl
        go (Some u) e same later =
            let same_number : number + 1 + length lines + 1 ≡ number + length (line ∷ lines) + 1 = omega arith in
            rw (e, same) (later u (still_stands t u line h e) ∙ ap (λ n. or_end n (end_by finish make) (take_lines mode (state u) (number + 1) lines)) same_number)

    -- from the start
    pub from_start : (t : FileState S) → Stands t → start_of mode ≡ state t → (lines : List (List ℕ)) → read_from (file_machine m) (file_end m make) t 0 lines ≡ read_lines mode (end_by finish make) lines
    unfolding read_lines
    from_start t h same lines = rw same (all_lines t 0 lines h ∙ ap (λ n. or_end n (end_by finish make) (take_lines mode (state t) 0 lines)) (omega arith))
