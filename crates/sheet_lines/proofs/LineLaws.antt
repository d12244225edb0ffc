-- What the fields of a line give is what the grammar says of the line.
use Rattle.std.proofs.Common.{◌≡◌, ◌≢◌, ℕ, ℤ, Bool, true, false, cond, List, [], ◌∷◌, length, Option, Some, None, Result, Ok, Err, eqb, refl, sym, subst, arith}
use Rattle.std.proofs.lemmas.Bool.{ne_eqb, eqb-true, eqb-false}
use Rattle.geda_model.specs.Names.{is_word}
use Rattle.geda_text.specs.Lines.{whole_of, fields_of}
use Rattle.geda_grammar.specs.declared.kind.ReadKind.{ReadKind}
use Rattle.geda_grammar.specs.declared.kind.ReadKind.TheVariants.{FieldCount, OutOfRange}
use Rattle.geda_grammar.specs.declared.letter.Letter.{Letter}
use Rattle.geda_grammar.specs.declared.field_class.Class.{Class}
use Rattle.geda_grammar.specs.declared.field_class.Class.TheVariants.{Within, UpTo, Lines, Angle, Basename}
use Rattle.geda_grammar.specs.Classes.{Field, Number, Word, classes_of, fits, misfit, field_in, number_in, field_fault, number_fault, first_fault, fields_fault}
use Rattle.geda_grammar.specs.Letters.{letter_of}
use Rattle.geda_grammar.specs.steps.Following.{Pending}
use Rattle.geda_grammar.specs.steps.Reading.{SheetLine, Faulty}
use Rattle.geda_grammar.specs.steps.SheetLines.{and_more, read_fields, line_of_fields, letter_line, sheet_line}
use Rattle.sheet_lines.specs.declared.fault.LineFault.{LineFault}
use Rattle.sheet_lines.specs.declared.fault.LineFault.TheVariants as faults
use Rattle.sheet_lines.specs.declared.line.SheetLine as code
use Rattle.sheet_lines.specs.steps.Results.{◌>>=◌, Gives}
use Rattle.sheet_lines.specs.steps.Fields.{Read, field_at, fields_at, name_at, number_at, whole_at, word_in, or_bad, no_more}
use Rattle.sheet_lines.specs.SheetLines.{as_line, own_kind, IsLineRead}
use Rattle.sheet_lines.specs.steps.Letters.{count_first, kind_after_count, line_at, line_in, whole_line}
use Rattle.sheet_lines.specs.steps.Letters as reading

-- a field that is read says this; one that is refused says nothing, and has this kind
abbrev FieldSays : Option Field → Option ReadKind → List (List ℕ) → Read Field → Type 0
FieldSays said fault words (Ok (field, rest)) = (said ≡ Some field) × (fault ≡ None) × (rest ≡ words)
FieldSays said fault words (Err kind) = (said ≡ None) × (fault ≡ Some kind)

number_says : (c : Class) (w : List ℕ) (ws : List (List ℕ)) → FieldSays (number_in c (whole_of w)) (number_fault c (whole_of w)) ws (number_at c (w ∷ ws))
unfolding number_at whole_at
number_says c w ws = go (whole_of w)
  where
    in_class : (z : ℤ) (t : Bool) → FieldSays (cond t (Some (Number z)) None) (cond t None (Some (misfit c))) ws (cond t (Ok (Number z, ws)) (Err (misfit c)))
    in_class z true = (refl, refl, refl)
    in_class z false = (refl, refl)

    go : (o : Option ℤ) → FieldSays (number_in c o) (number_fault c o) ws (◌>>=◌ {A = ℤ × List (List ℕ)} {B = Field × List (List ℕ)} (◌>>=◌ {A = ℤ} {B = ℤ × List (List ℕ)} (or_bad o) (λ z. Ok (z, ws))) (λ z. cond (fits c z.0) (Ok (Number z.0, z.1)) (Err (misfit c))))
    go None = (refl, refl)
    go (Some z) = in_class z (fits c z)

name_says : (w : List ℕ) (ws : List (List ℕ)) → FieldSays (field_in Basename w) (field_fault Basename w) ws (name_at (w ∷ ws))
unfolding name_at word_in
name_says w ws = go (is_word w)
  where
    go : (t : Bool) → FieldSays (cond t (Some (Word w)) None) (cond t None (Some OutOfRange)) ws (cond t (Ok w) (Err OutOfRange) >>= (λ name. Ok (Word name, ws)))
    go true = (refl, refl, refl)
    go false = (refl, refl)

field_says : (c : Class) (w : List ℕ) (ws : List (List ℕ)) → FieldSays (field_in c w) (field_fault c w) ws (field_at c (w ∷ ws))
field_says (Within most) w ws = number_says (Within most) w ws
field_says (UpTo most) w ws = number_says (UpTo most) w ws
field_says Lines w ws = number_says Lines w ws
field_says Angle w ws = number_says Angle w ws
field_says Basename w ws = name_says w ws

-- where no field is left, one is missing
none_left : (c : Class) → field_at c [] ≡ Err FieldCount
unfolding number_at whole_at name_at
none_left (Within most) = refl
none_left (UpTo most) = refl
none_left Lines = refl
none_left Angle = refl
none_left Basename = refl

-- so do all fields of a line
abbrev FieldsSay : List Class → List (List ℕ) → Read (List Field) → Type 0
FieldsSay cs ws (Ok (fields, [])) = (read_fields cs ws ≡ Some fields) × (length ws ≡ length cs)
FieldsSay cs ws (Ok (fields, w ∷ rest)) = length ws ≢ length cs
FieldsSay cs ws (Err kind) = length ws ≡ length cs → (first_fault cs ws ≡ Some kind) × (read_fields cs ws ≡ None)

fields_say : (cs : List Class) (ws : List (List ℕ)) → FieldsSay cs ws (fields_at cs ws)
fields_say [] [] = (refl, refl)
fields_say [] (w ∷ ws) = λ e. absurd (omega (arith, e))
fields_say (c ∷ cs) [] = rw (none_left c) (λ e. absurd (omega (arith, e)))
fields_say (c ∷ cs) (w ∷ ws) = first (field_at c (w ∷ ws)) (field_says c w ws) (fields_say cs ws)
  where
    others : (field : Field) (r : Read (List Field)) → field_in c w ≡ Some field → field_fault c w ≡ None → FieldsSay cs ws r → FieldsSay (c ∷ cs) (w ∷ ws) (r >>= (λ fields. Ok (field ∷ fields.0, fields.1)))
    others field (Ok (fields, [])) said fine more = (rw (said, more.0) refl, omega (arith, more.1))
    others field (Ok (fields, x ∷ rest)) said fine more = λ e. more (omega (arith, e))
    others field (Err kind) said fine more = λ e. let m = more (omega (arith, e)) in (rw (fine, m.0) refl, rw (said, m.1) refl)

    first : (r : Read Field) → FieldSays (field_in c w) (field_fault c w) ws r → FieldsSay cs ws (fields_at cs ws) → FieldsSay (c ∷ cs) (w ∷ ws) (r >>= (λ field. fields_at cs field.1 >>= (λ fields. Ok (field.0 ∷ fields.0, fields.1))))
    first (Ok (field, rest)) h more = others field (fields_at cs rest) h.0 h.1 (subst (λ (r : List (List ℕ)). FieldsSay cs ws (fields_at cs r)) (sym h.2) more)
    first (Err kind) h more = λ e. (rw h.1 refl, rw h.0 refl)

-- fewer or more fields than classes say nothing
no_fields : (cs : List Class) (ws : List (List ℕ)) → length ws ≢ length cs → read_fields cs ws ≡ None
no_fields [] [] h = absurd (h refl)
no_fields [] (w ∷ ws) h = refl
no_fields (c ∷ cs) [] h = refl
no_fields (c ∷ cs) (w ∷ ws) h = rw (no_fields cs ws (λ e. h (omega (arith, e)))) (none_behind (field_in c w))
  where
    none_behind : (o : Option Field) → and_more o None ≡ None
    none_behind None = refl
    none_behind (Some field) = refl

-- what the fields behind a letter say
abbrev LetterSays : Letter → List (List ℕ) → Result (SheetLine Pending) ReadKind → Type 0
LetterSays letter words (Ok what) = line_of_fields letter (read_fields (classes_of letter) words) ≡ what
LetterSays letter words (Err kind) = (line_of_fields letter (read_fields (classes_of letter) words) ≡ Faulty) × (fields_fault letter words ≡ Some kind)

wrong_count : (letter : Letter) (words : List (List ℕ)) (kind : ReadKind) → length words ≢ length (classes_of letter) → LetterSays letter words (Err (kind_after_count letter words kind))
wrong_count letter words kind h = rw (no_fields (classes_of letter) words h, ne_eqb _ _ h) (refl, refl)

first_wrong : (letter : Letter) (words : List (List ℕ)) (kind : ReadKind) → FieldsSay (classes_of letter) words (Err kind) → LetterSays letter words (Err (kind_after_count letter words kind))
first_wrong letter words kind h = go (eqb (length words) (length (classes_of letter))) refl
  where
    go : (t : Bool) → eqb (length words) (length (classes_of letter)) ≡ t → LetterSays letter words (Err (kind_after_count letter words kind))
    go true e = let m = h (eqb-true _ _ e) in rw (e, m.0, m.1) (refl, refl)
    go false e = wrong_count letter words kind (eqb-false _ _ e)

letter_says : (letter : Letter) (words : List (List ℕ)) → LetterSays letter words (count_first letter words (whole_line letter words))
unfolding line_at
letter_says letter words = go (fields_at (classes_of letter) words) (fields_say (classes_of letter) words)
  where
    go : (r : Read (List Field)) → FieldsSay (classes_of letter) words r → LetterSays letter words (count_first letter words (◌>>=◌ {A = SheetLine Pending × List (List ℕ)} {B = SheetLine Pending} (◌>>=◌ {A = List Field × List (List ℕ)} {B = SheetLine Pending × List (List ℕ)} r (λ fields. Ok (letter_line letter fields.0, fields.1))) (λ line. no_more line.1 >>= (λ rest. Ok line.0))))
    go (Ok (fields, [])) h = rw h.0 refl
    go (Ok (fields, w ∷ rest)) h = wrong_count letter words FieldCount h
    go (Err kind) h = first_wrong letter words kind h

-- what a line gives
abbrev Says : List ℕ → Result (SheetLine Pending) ReadKind → Type 0
Says line (Ok what) = sheet_line line ≡ what
Says line (Err kind) = (sheet_line line ≡ Faulty) × (own_kind line ≡ Some kind)

line_says : (line : List ℕ) → Says line (line_in line)
unfolding line_in
line_says line = go (fields_of line) refl
  where
    by_letter : (first : List ℕ) (words : List (List ℕ)) (o : Option Letter) → letter_of first ≡ o → fields_of line ≡ first ∷ words → Says line (reading.line_of_letter o words)
    by_letter first words None l e = rw (e, l) (refl, refl)
    by_letter first words (Some letter) l e = behind (count_first letter words (whole_line letter words)) (letter_says letter words)
      where
        behind : (r : Result (SheetLine Pending) ReadKind) → LetterSays letter words r → Says line r
        behind (Ok what) h = rw (e, l) h
        behind (Err kind) h = (rw (e, l) h.0, rw (e, l) h.1)

    go : (words : List (List ℕ)) → fields_of line ≡ words → Says line (reading.line_of_words words)
    go [] e = rw e refl
    go (first ∷ words) e = by_letter first words (letter_of first) refl e

pub line_read : (line : List ℕ) (r : Result code.SheetLine LineFault) → Gives as_line r (line_in line) → IsLineRead line r
line_read line (Ok what) h = subst (Says line) h (line_says line)
line_read line (Err faults.NoMemory) h = tt
line_read line (Err (faults.Refused kind)) h = subst (Says line) h (line_says line)
