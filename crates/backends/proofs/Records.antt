-- What csv's writer writes is the text of a record.
use Rattle.std.proofs.Common.{◌≡◌, ◌≤◌, ◌∙◌, ap, ap₂, refl, ℕ, Bool, true, false, ◌==◌, ◌&&◌, ◌||◌, List, [], ◌∷◌, ◌++◌, append_assoc, arith, if◌then◌else◌, length}
use Rattle.std.specs.List.{flat_map, list_any}
use Rattle.csv.specs.Writing.{default_writer, escaped, fields_text, is_blank, needs_quotes, quoted, row_text}
use Rattle.csv.specs.Writing as csv
use Rattle.csv.specs.Quoting.{needs_byte}
use Rattle.backends.specs.CsvRecords.{csv_field, doubled, is_special, record_text}

regrouped : (a b c d e : Bool) → (a || b || (c || d) || (false && e) || false) ≡ (a || (b || (c || d)))
regrouped true b c d e = refl
regrouped false true c d e = refl
regrouped false false true d e = refl
regrouped false false false true e = refl
regrouped false false false false e = refl

needs_special : (b : ℕ) → needs_byte default_writer b ≡ is_special b
needs_special b = regrouped (b == 44) (b == 34) (b == 13) (b == 10) (b == 92)

any_special : (text : List ℕ) → needs_quotes default_writer text ≡ list_any is_special text
any_special [] = refl
any_special (b ∷ rest) = ap₂ (λ (s t : Bool). s || t) (needs_special b) (any_special rest)

one_doubled : (t : Bool) (b : ℕ) (rest : List ℕ) → (if t then 34 ∷ b ∷ rest else b ∷ rest) ≡ (if t then 34 ∷ b ∷ [] else b ∷ []) ++ rest
one_doubled true b rest = refl
one_doubled false b rest = refl

escaped_doubled : (text : List ℕ) → escaped default_writer text ≡ doubled text
unfolding escaped
escaped_doubled [] = refl
escaped_doubled (b ∷ rest) = one_doubled (b == 34) b (escaped default_writer rest) ∙ ap (λ (xs : List ℕ). (if b == 34 then 34 ∷ b ∷ [] else b ∷ []) ++ xs) (escaped_doubled rest)

same_field : (text : List ℕ) → csv.field_text default_writer text ≡ csv_field text
same_field text =
    ap₂ (λ (t : Bool) (xs : List ℕ). if t then 34 ∷ (xs ++ 34 ∷ []) else text) (any_special text) (escaped_doubled text)

same_fields : (fields : List (List ℕ)) → fields_text default_writer fields ≡ flat_map (λ f. 44 ∷ csv_field f) fields
unfolding fields_text
same_fields [] = refl
same_fields (f ∷ rest) = ap₂ (λ (xs ys : List ℕ). 44 ∷ (xs ++ ys)) (same_field f) (same_fields rest)

pub same_record : (fields : List (List ℕ)) → 2 ≤ length fields → row_text default_writer fields ≡ record_text fields
unfolding is_blank
same_record [] several = absurd (omega arith)
same_record (f ∷ []) several = absurd (omega arith)
same_record (f ∷ g ∷ rest) several =
    ap₂ (λ (xs ys : List ℕ). (xs ++ ys) ++ 10 ∷ []) (same_field f) (same_fields (g ∷ rest))
    ∙ append_assoc (csv_field f) (flat_map (λ h. 44 ∷ csv_field h) (g ∷ rest)) (10 ∷ [])
