-- Names that print alike: some differ from the first of their text exactly where two differ at all.
use Rattle.std.proofs.Common.{◌≡◌, ◌∙◌, ℕ, List, [], ◌∷◌, Bool, true, false, ◌&&◌, ◌||◌, not, cond, Option, Some, None, refl, ap, sym}
use Rattle.std.specs.BTreeMap.{Updates, get}
use Rattle.std.specs.BTreeSet as set
use Rattle.std.specs.Borrow.{Bor}
use Rattle.std.specs.Cmp.Lexicographic.{slice_cmp}
use Rattle.std.specs.List.{list_any}
use Rattle.std.specs.Option.{option_copied, option_or}
use Rattle.std.specs.Ordering.{nat_cmp}
use Rattle.std.specs.Str.{bytes_eq}
use Rattle.std.proofs.lemmas.Map.Text.{is_eq-slice_cmp}
use Rattle.geda_defs.proofs.Bytes.{bytes_same}
use Rattle.printed_texts.specs.PrintedTexts.{word}
use Rattle.text_tallies.specs.LookAlike.{look_alike, print_alike}
use Rattle.text_tallies.specs.NameSets.{set_has_name}
use Rattle.text_tallies.specs.steps.FirstNames.{AddsFirst, AddsIf, FirstNames, alike_after, first_at}
use Rattle.text_tallies.proofs.PairLemmas.{and_false, any_none, any_pairs, any_same, or_false}

or_true : (b : Bool) → (b || true) ≡ true
or_true true = refl
or_true false = refl

or_assoc : (a b c : Bool) → ((a || b) || c) ≡ (a || (b || c))
or_assoc true b c = refl
or_assoc false b c = refl

and_turned : (a b : Bool) → (a && b) ≡ (b && a)
and_turned true b = sym (and_true b)
  where
    and_true : (b : Bool) → (b && true) ≡ b
    and_true true = refl
    and_true false = refl
and_turned false b = sym (and_false b)

-- a name prints as the text, and is not the first
abbrev prints_other : List ℕ → List ℕ → List ℕ → Bool
prints_other first text name = bytes_eq (word name) text && not (bytes_eq first name)

-- another name differs and prints as the text, as this one does
abbrev is_alike : List ℕ → List ℕ → List ℕ → Bool
is_alike text name other = print_alike text (name, other)

-- once there is a first name
after_first : (first : List ℕ) (differ : Bool) (text : List ℕ) (names : List (List ℕ))
    → alike_after (Some first) differ text names ≡ (differ || list_any (prints_other first text) names)
after_first first differ text [] = sym (or_false differ)
after_first first differ text (name ∷ names) =
    after_first first (differ || prints_other first text name) text names
    ∙ or_assoc differ (prints_other first text name) (list_any (prints_other first text) names)

-- no name looks like one of another text
of_other_text : (text name : List ℕ) (names : List (List ℕ)) → bytes_eq (word name) text ≡ false
    → list_any (is_alike text name) names ≡ false
of_other_text text name names e =
    any_same (is_alike text name) (λ other. false) (λ other. rw e (and_false (not (bytes_eq name other)))) names
    ∙ any_none names

-- those that look like one of the text are the others of the text
of_text : (text name : List ℕ) (names : List (List ℕ)) → bytes_eq (word name) text ≡ true
    → list_any (is_alike text name) names ≡ list_any (prints_other name text) names
of_text text name names e =
    any_same (is_alike text name) (prints_other name text)
    (λ other. rw e (and_turned (not (bytes_eq name other)) (bytes_eq (word other) text))) names

or_within : (a b : Bool) → (a || b) ≡ a → (a || (false || b)) ≡ a
or_within a b e = e

or_itself : (a b : Bool) → (a || b) ≡ a → (a || (a || b)) ≡ a
or_itself true b e = refl
or_itself false b e = e

-- where two of the text differ, one is not the first
within_more : (first text name : List ℕ) (names : List (List ℕ))
    → (list_any (prints_other first text) names || look_alike names text) ≡ list_any (prints_other first text) names
    → (b c : Bool) → bytes_eq (word name) text ≡ b → bytes_eq first name ≡ c
    → (list_any (prints_other first text) (name ∷ names) || (list_any (is_alike text name) names || look_alike names text))
    ≡ list_any (prints_other first text) (name ∷ names)
within_more first text name names ih false c p e =
    rw (p, of_other_text text name names p) ih
within_more first text name names ih true false p e = rw (p, e) refl
within_more first text name names ih true true p e =
    rw (p, e, of_text text name names p, sym (bytes_same first name e))
    (or_itself (list_any (prints_other first text) names) (look_alike names text) ih)

within : (first text : List ℕ) (names : List (List ℕ))
    → (list_any (prints_other first text) names || look_alike names text) ≡ list_any (prints_other first text) names
within first text [] = refl
within first text (name ∷ names) =
    ap (λ (b : Bool). list_any (prints_other first text) (name ∷ names) || b) (any_pairs (print_alike text) name names)
    ∙ within_more first text name names (within first text names) (bytes_eq (word name) text) (bytes_eq first name) refl refl

from_none_more : (text name : List ℕ) (names : List (List ℕ))
    → alike_after None false text names ≡ look_alike names text
    → (b : Bool) → bytes_eq (word name) text ≡ b
    → alike_after None false text (name ∷ names) ≡ (list_any (is_alike text name) names || look_alike names text)
from_none_more text name names ih true p =
    rw (p, of_text text name names p) (after_first name false text names ∙ sym (within name text names))
from_none_more text name names ih false p = rw (p, of_other_text text name names p) ih

-- from no first name on: two names differ and print as the text
pub alike_from_none : (text : List ℕ) (names : List (List ℕ)) → alike_after None false text names ≡ look_alike names text
alike_from_none text [] = refl
alike_from_none text (name ∷ names) =
    from_none_more text name names (alike_from_none text names) (bytes_eq (word name) text) refl
    ∙ sym (any_pairs (print_alike text) name names)

-- a text is added under a condition
pub adds_if : (is_other : Bool) (text : List ℕ) (old new : set.BTreeSet (List ℕ)) → is_other ≡ true
    → set.Updates (slice_cmp nat_cmp) old new text true → AddsIf is_other text old new
adds_if is_other text old new other updates q =
    updates.0 q ∙ rw (is_eq-slice_cmp text q, other) (by (bytes_eq text q))
  where
    by : (b : Bool) → cond b true (set_has_name old q) ≡ (set_has_name old q || (b && true))
    by true = sym (or_true (set_has_name old q))
    by false = sym (or_false (set_has_name old q))

or_none : (first : Option (List ℕ)) → option_or first None ≡ first
or_none None = refl
or_none (Some first) = refl

-- the first name of a text is put in
pub adds_first : (text : List ℕ) (name : Bor (List ℕ)) (old new : FirstNames)
    → first_at old text ≡ None
    → Updates (slice_cmp nat_cmp) old new text (Some name) → AddsFirst text name.now old new
adds_first text name old new free updates q =
    ap option_copied (updates.0 q) ∙ rw (is_eq-slice_cmp text q) (by (bytes_eq text q) refl)
  where
    by : (b : Bool) → bytes_eq text q ≡ b
        → option_copied (cond b (Some name) (get (slice_cmp nat_cmp) old q))
        ≡ option_or (first_at old q) (cond b (Some name.now) None)
    by true e = rw (sym (bytes_same text q e), free) refl
    by false e = sym (or_none (first_at old q))

-- an empty set has no name
pub none_has : (names : set.BTreeSet (List ℕ)) (q : List ℕ) → names.keys ≡ [] → set_has_name names q ≡ false
none_has names q none = rw none refl
