-- Lines, fields and numbers in bytes (gEDA File Format Document: fields parted by blanks; that CRs
-- at the end of a line are dropped is own).
use Rattle.std.specs.Prelude.{ℕ, ℤ, pos, neg_ℤ, Bool, false, true, ◌≡◌, ◌≢◌, ◌&&◌, ◌||◌, ◌==◌, nat_lt, if◌then◌else◌, List, [], ◌∷◌, length, map, filter, drop, Option, Some, None, slice_index}
use Rattle.std.specs.List.{slice_split, list_all, AllByRecursion}
use Rattle.std.specs.Char.{is_ascii_digit}
use Rattle.std.specs.Str.Parse.{digits_value}
use Rattle.std.specs.Option.{option_map}
use Rattle.geda_defs.specs.Lines.{is_line_feed}

-- bytes without the CRs at their end
abbrev pub unless_last_cr : ℕ → List ℕ → List ℕ
unless_last_cr b [] = if b == 13 then [] else b ∷ []
unless_last_cr b (c ∷ cs) = b ∷ c ∷ cs

abbrev pub without_crs : List ℕ → List ℕ
without_crs [] = []
without_crs (b ∷ bs) = unless_last_cr b (without_crs bs)

-- the pieces between line feeds; a last one that is empty is no line
abbrev pub without_empty_end : List (List ℕ) → List (List ℕ)
without_empty_end [] = []
without_empty_end ([] ∷ []) = []
without_empty_end ((b ∷ bs) ∷ []) = (b ∷ bs) ∷ []
without_empty_end (x ∷ y ∷ ys) = x ∷ without_empty_end (y ∷ ys)

-- the lines of a file
unfoldable pub lines_of : List ℕ → List (List ℕ)
lines_of bytes = map without_crs (without_empty_end (slice_split is_line_feed bytes))

-- the lines of a file that are still to be given, and the number of the last one given, from 1
pub record CutterData : Type 0 where
  pub lines : List (List ℕ)
  pub number : ℕ

-- bytes that can be a line of a file: no LF, and no CR at the end
pub record IsCutLine (line : List ℕ) : Type 0 where
  pub one : AllByRecursion (λ b. b ≢ 10) line
  pub no_cr : without_crs line ≡ line

-- a space or a tab
abbrev pub is_blank : ℕ → Bool
is_blank b = (b == 32) || (b == 9)

-- not empty
abbrev pub is_filled : List ℕ → Bool
is_filled [] = false
is_filled (b ∷ bs) = true

-- the fields of a line: the pieces between runs of blanks
unfoldable pub fields_of : List ℕ → List (List ℕ)
fields_of line = filter is_filled (slice_split is_blank line)

-- 1 to 9 digits
unfoldable pub digits_of : List ℕ → Option ℕ
digits_of ds =
    if nat_lt 0 (length ds) && (nat_lt (length ds) 10 && list_all is_ascii_digit ds)
    then Some (digits_value 10 ds)
    else None

-- the number that a field spells: an optional minus sign, and 1 to 9 digits
unfoldable pub whole_of : List ℕ → Option ℤ
whole_of word =
    if slice_index word 0 == 45
    then option_map (λ n. neg_ℤ (pos n)) (digits_of (drop 1 word))
    else option_map pos (digits_of word)

-- the first field of a line, which is empty where there is none, and the fields behind it
abbrev pub first_field : List (List ℕ) → List ℕ
first_field [] = []
first_field (word ∷ words) = word

abbrev pub other_fields : List (List ℕ) → List (List ℕ)
other_fields [] = []
other_fields (word ∷ words) = words

-- the number that the first of some fields spells
abbrev pub next_whole : List (List ℕ) → Option (Option ℤ)
next_whole [] = None
next_whole (word ∷ words) = Some (whole_of word)
