-- Canonical fields, lines and rows are read again.
use Rattle.std.proofs.Common.{◌≡◌, ℕ, ◌<◌, Bool, true, false, cond, List, [], ◌∷◌, ◌++◌, length, map, Some, refl, sym, ap, ◌∙◌, append_assoc, arith}
use Rattle.std.specs.Prelude.{unsigned_abs, ◌≢◌}
use Rattle.std.specs.List.{flat_map, slice_split, onto_first, AllByRecursion}
use Rattle.std.proofs.lemmas.List.Elements.{All-from_recursion}
use Rattle.std.proofs.lemmas.List.Splits.{slice_split_at}
use Rattle.std.proofs.lemmas.Bool.Decides.{nat_tests}
use Rattle.geda_defs.specs.Lines.{ended, is_line_feed}
use Rattle.geda_model.specs.Names.{is_word}
use Rattle.geda_grammar.specs.declared.field_class.Class.{Class}
use Rattle.geda_grammar.specs.declared.field_class.Class.TheVariants.{Within, UpTo, Lines, Angle, Basename}
use Rattle.geda_grammar.specs.Classes.{Field, Number, Word, fits, field_in, AreFields}
use Rattle.geda_grammar.specs.declared.row.Row.{Row}
use Rattle.geda_grammar.specs.Rows.{IsRow}
use Rattle.geda_grammar.specs.Spelling.{SpellRows}
use Rattle.geda_grammar.specs.Canonical.{field_text, following, row_lines}
use Rattle.geda_text.specs.Lines.{IsCutLine, lines_of, without_crs, without_empty_end}
use Rattle.geda_text.proofs.NumbersAgain.{whole_again}

-- a field fits its class
abbrev pub Good : Class → Field → Type 0
Good Basename (Number z) = ⊥
Good c (Number z) = (fits c z ≡ true) × (unsigned_abs z < 1000000000)
Good Basename (Word bytes) = (is_word bytes ≡ true) × (0 < length bytes)
Good c (Word bytes) = ⊥

-- and so do all
abbrev pub AllGood : List Class → List Field → Type 0
AllGood [] [] = Unit {0}
AllGood (c ∷ cs) (f ∷ fs) = Good c f × AllGood cs fs
AllGood cs fs = ⊥

-- what is written of a field says it
pub field_again : (c : Class) (f : Field) → Good c f → field_in c (field_text f) ≡ Some f
field_again (Within n) (Number z) h = rw (whole_again z h.1, h.0) refl
field_again (UpTo n) (Number z) h = rw (whole_again z h.1, h.0) refl
field_again Lines (Number z) h = rw (whole_again z h.1, h.0) refl
field_again Angle (Number z) h = rw (whole_again z h.1, h.0) refl
field_again Basename (Word bytes) h = rw h.0 refl
field_again c f h = absurd h

pub fields_again : (cs : List Class) (fs : List Field) → AllGood cs fs → AreFields cs (map field_text fs) fs
fields_again [] [] h = tt
fields_again (c ∷ cs) (f ∷ fs) h = (field_again c f h.0, fields_again cs fs h.1)
fields_again cs fs h = absurd h

-- rows that their lines spell are spelled one after the other
pub rows_again : (rows : List Row) → AllByRecursion (λ row. (line : List ℕ) × (row_lines row ≡ line ∷ following row) × IsRow row line (following row)) rows → SpellRows rows (flat_map row_lines rows)
rows_again [] h = tt
rows_again (row ∷ rows) h =
    let rest = rows_again rows h.1 in
    ([], h.0.0, following row, flat_map row_lines rows, ap (λ (ls : List (List ℕ)). ls ++ flat_map row_lines rows) h.0.1, tt, h.0.2, rest)

-- there is always a first piece
pub some_part : (bs : List ℕ) → (x : List ℕ) × (xs : List (List ℕ)) × (slice_split is_line_feed bs ≡ x ∷ xs)
some_part [] = ([], [], refl)
some_part (b ∷ bs) = go (is_line_feed b) (some_part bs)
  where
    go : (t : Bool) → (x : List ℕ) × (xs : List (List ℕ)) × (slice_split is_line_feed bs ≡ x ∷ xs) → (x : List ℕ) × (xs : List (List ℕ)) × (cond t ([] ∷ slice_split is_line_feed bs) (onto_first b (slice_split is_line_feed bs)) ≡ x ∷ xs)
    go true r = ([], slice_split is_line_feed bs, refl)
    go false r = (b ∷ r.0, r.1, ap (onto_first b) r.2)

pub no_feed : (line : List ℕ) → AllByRecursion (λ b. b ≢ 10) line → AllByRecursion (λ b. is_line_feed b ≡ false) line
no_feed [] h = tt
no_feed (b ∷ bs) h = (grind (arith, nat_tests, h.0), no_feed bs h.1)

-- a line is cut off again, whatever follows
pub line_again : (line rest : List ℕ) → IsCutLine line → lines_of (line ++ 10 ∷ rest) ≡ line ∷ lines_of rest
unfolding lines_of
line_again line rest h =
    let more = some_part rest in
    ap (λ (xs : List (List ℕ)). map without_crs (without_empty_end xs)) (slice_split_at is_line_feed line 10 rest (All-from_recursion (λ b. is_line_feed b ≡ false) line (no_feed line h.one)) refl ∙ ap (λ (xs : List (List ℕ)). line ∷ xs) more.2)
    ∙ ap (λ (l : List ℕ). l ∷ map without_crs (without_empty_end (more.0 ∷ more.1))) h.no_cr
    ∙ ap (λ (xs : List (List ℕ)). line ∷ map without_crs (without_empty_end xs)) (sym more.2)

no_line : lines_of [] ≡ []
unfolding lines_of
no_line = refl

-- and so are all
pub lines_again : (lines : List (List ℕ)) → AllByRecursion IsCutLine lines → lines_of (flat_map ended lines) ≡ lines
lines_again [] h = no_line
lines_again (line ∷ lines) h =
    ap lines_of (append_assoc line (10 ∷ []) (flat_map ended lines)) ∙ line_again line (flat_map ended lines) h.0 ∙ ap (λ (ls : List (List ℕ)). line ∷ ls) (lines_again lines h.1)
