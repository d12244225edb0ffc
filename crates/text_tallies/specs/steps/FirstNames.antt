-- Steps of the code; no public clause cites them.
-- Names that print alike, found by the first name of each printed text.
use Rattle.std.specs.Prelude.{◌≡◌, ℕ, Bool, false, not, cond, ◌&&◌, ◌||◌, List, [], ◌∷◌, Option, Some, None}
use Rattle.std.specs.BTreeMap.{BTreeMap, get}
use Rattle.std.specs.BTreeSet.{BTreeSet}
use Rattle.std.specs.Cmp.Lexicographic.{slice_cmp}
use Rattle.std.specs.Option.{option_copied, option_or}
use Rattle.std.specs.Ordering.{nat_cmp}
use Rattle.std.specs.Borrow.{Bor}
use Rattle.std.specs.Str.{bytes_eq}
use Rattle.printed_texts.specs.PrintedTexts.{word}
use Rattle.text_tallies.specs.NameSets.{set_has_name}

-- the first name of each printed text
abbrev pub FirstNames : Type 0
FirstNames = BTreeMap (List ℕ) (Bor (List ℕ))

-- the first name of a printed text
abbrev pub first_at : FirstNames → List ℕ → Option (List ℕ)
first_at firsts text = option_copied (get (slice_cmp nat_cmp) firsts text)

-- there is a first name, and it is another
abbrev pub differs : Option (List ℕ) → List ℕ → Bool
differs None name = false
differs (Some first) name = not (bytes_eq first name)

-- the first name of a printed text, if there is none yet
abbrev pub AddsFirst : List ℕ → List ℕ → FirstNames → FirstNames → Type 0
AddsFirst text name old new = (q : List ℕ)
    → first_at new q ≡ option_or (first_at old q) (cond (bytes_eq text q) (Some name) None)

-- one more text in a set, under a condition
abbrev pub AddsIf : Bool → List ℕ → BTreeSet (List ℕ) → BTreeSet (List ℕ) → Type 0
AddsIf is_other text old new = (q : List ℕ)
    → set_has_name new q ≡ (set_has_name old q || (bytes_eq text q && is_other))

-- the printed text of a name in a set, if the first name of that text is another
abbrev pub AddsDiffering :
    List ℕ → FirstNames → BTreeSet (List ℕ) → BTreeSet (List ℕ) → Type 0
AddsDiffering name firsts old new = (q : List ℕ)
    → set_has_name new q
    ≡ (set_has_name old q || (bytes_eq (word name) q && differs (first_at firsts q) name))

-- the first name of a printed text, after one more name
abbrev pub first_after : Option (List ℕ) → List ℕ → List ℕ → Option (List ℕ)
first_after first text name = option_or first (cond (bytes_eq (word name) text) (Some name) None)

-- whether names that print as this text differ, after more names
abbrev pub alike_after : Option (List ℕ) → Bool → List ℕ → List (List ℕ) → Bool
alike_after first differ text [] = differ
alike_after first differ text (name ∷ names) =
    alike_after (first_after first text name)
    (differ || (bytes_eq (word name) text && differs first name)) text names
