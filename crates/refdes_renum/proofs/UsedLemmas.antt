-- Texts in use, one more, and the number that is given next.
use Rattle.std.proofs.Common.{◌≡◌, ℕ, zero, suc, drop, length, ◌+◌, ◌-◌, ◌≤◌, ◌||◌, Bool, true, false, cond, List, [], ◌∷◌, ◌++◌, Option, None, Some, refl, sym, ap, subst, ◌∙◌, append_assoc, arith}
use Rattle.std.specs.Option.{unwrap_or}
use Rattle.std.specs.Cmp.{decided}
use Rattle.std.specs.List.{cons_option, list_any}
use Rattle.std.specs.Str.{bytes_eq}
use Rattle.std.proofs.lemmas.Slice.Eq.{bytes_eq-Decides}
use Rattle.refdes_renum.specs.Numbers.{first_free, greatest_u64, is_taken, least_free, stem_with_number}
use Rattle.refdes_renum.specs.steps.UsedTexts.{AddsText, IsNext, SetsNext, TakesRefdes, Tracks, given_number}
use Rattle.refdes_renum.specs.steps.Places.{GivesRefdes, given_refdes, items_by}
use Rattle.refdes_renum.specs.Renumbering.{items_of, stem_at, used_after, with_refdes}
use Rattle.project_model.specs.declared.change.Placed.{Placed}
use Rattle.project_model.specs.declared.change.Thing.TheVariants as things
use Rattle.project_model.specs.declared.change.Value.TheVariants as values
use Rattle.project_model.specs.Projects.{ProjectData}
use Rattle.refdes_renum.proofs.NumberLemmas.{first_free-skip, first_free-same, first_free-below, first_free-from, first_free-to}

swap_or : (a b c : Bool) → (a || (b || c)) ≡ (b || (a || c))
swap_or true true c = refl
swap_or true false c = refl
swap_or false b c = refl

-- one passes of a list with one more behind it
pub any_push : (f : List ℕ → Bool) (xs : List (List ℕ)) (x : List ℕ) → list_any f (xs ++ x ∷ []) ≡ (f x || list_any f xs)
any_push f [] x = refl
any_push f (y ∷ ys) x = ap (λ b. f y || b) (any_push f ys x) ∙ swap_or (f y) (f x) (list_any f ys)

bytes_symm : (a b : List ℕ) → bytes_eq a b ≡ bytes_eq b a
bytes_symm a b = (decided bytes_eq bytes_eq-Decides).symm a b

or_cond : (a b : Bool) → cond a true b ≡ (a || b)
or_cond true b = refl
or_cond false b = refl

or_true : (a b : Bool) → b ≡ true → (a || b) ≡ true
or_true true b e = refl
or_true false b e = e

-- what was taken stays so
taken_push : (used : List (List ℕ)) (text stem : List ℕ) (n : ℕ) → is_taken used stem n ≡ true → is_taken (used ++ text ∷ []) stem n ≡ true
taken_push used text stem n e = any_push (bytes_eq (stem_with_number stem n)) used text ∙ or_true (bytes_eq (stem_with_number stem n) text) (is_taken used stem n) e

-- all that were taken stay so
all_push : (used : List (List ℕ)) (text stem : List ℕ) (number : ℕ) → IsNext used stem number → IsNext (used ++ text ∷ []) stem number
all_push used text stem number h =
    record { from_one = h.from_one; small = h.small; taken = λ m low high. taken_push used text stem m (h.taken m low high) }

-- a text that comes into use
pub take_tracks : (used : List (List ℕ)) (has new : List ℕ → Bool) (next : List ℕ → Option ℕ) (text : List ℕ) → AddsText text has new → Tracks used has next
    → Tracks (used ++ text ∷ []) new next
take_tracks used has new next text adds old = record {
  same = λ q.
      adds q
      ∙ or_cond (bytes_eq text q) (has q)
      ∙ ap (λ b. b || has q) (bytes_symm text q)
      ∙ ap (λ b. bytes_eq q text || b) (old.same q)
      ∙ sym (any_push (bytes_eq q) used text);
  passed = λ stem n e. all_push used text stem n (old.passed stem n e);
}

-- a stem that gets a next number
pub next_tracks : (used : List (List ℕ)) (has : List ℕ → Bool) (next new : List ℕ → Option ℕ) (stem : List ℕ) (number : ℕ) → SetsNext stem number next new
    → IsNext used stem number → Tracks used has next → Tracks used has new
next_tracks used has next new stem number updates is old = record {
  same = old.same;
  passed = λ q n e. go q n (bytes_eq stem q) refl (sym (updates q) ∙ e);
}
  where
    inner : (m n : ℕ) → Some m ≡ Some n → m ≡ n
    inner m n e = cc

    go : (q : List ℕ) (n : ℕ) (b : Bool) → bytes_eq stem q ≡ b → cond b (Some number) (next q) ≡ Some n → IsNext used q n
    go q n false d e = old.passed q n e
    go q n true d e = subst (λ m. IsNext used q m) (inner number n e) (subst (λ s. IsNext used s number) ((bytes_eq-Decides stem q).0 d) is)

-- where the search for a stem begins, all numbers before are taken
begins : (used : List (List ℕ)) (has : List ℕ → Bool) (next : List ℕ → Option ℕ) (stem : List ℕ) → Tracks used has next → IsNext used stem (unwrap_or (next stem) 1)
begins used has next stem h = go (next stem) refl
  where
    go : (o : Option ℕ) → next stem ≡ o → IsNext used stem (unwrap_or o 1)
    go None e = record { from_one = omega arith; small = omega arith; taken = λ m low high. absurd (omega (arith, low, high)) }
    go (Some n) e = h.passed stem n e

-- the number that is given is the least
pub given_least : (used : List (List ℕ)) (has : List ℕ → Bool) (next : List ℕ → Option ℕ) (stem : List ℕ) → Tracks used has next
    → given_number has next stem ≡ least_free used stem
unfolding least_free
given_least used has next stem h =
    let start = begins used has next stem h in
    let from = unwrap_or (next stem) 1 in
    let taken = is_taken used stem in
    let one = start.from_one in
    let small = start.small in
    first_free-same (λ n. has (stem_with_number stem n)) taken from (greatest_u64 - from) (λ n. h.same (stem_with_number stem n))
    ∙ sym (
    first_free-skip taken (from - 1) 1 (greatest_u64 - 1) (omega (arith, small, one)) (λ m low high. start.taken m low (omega (arith, high, one)))
    ∙ ap (λ m. first_free taken m ((greatest_u64 - 1) - (from - 1))) (omega (arith, one))
    ∙ ap (λ m. first_free taken from m) (omega (arith, small, one))
    )

-- all before the first number that is free are taken
first_next : (used : List (List ℕ)) (stem : List ℕ) (more : ℕ) → 1 + more ≤ greatest_u64 → IsNext used stem (first_free (is_taken used stem) 1 more)
first_next used stem more h =
    let high = first_free-to (is_taken used stem) 1 more in
    record {
      from_one = first_free-from (is_taken used stem) 1 more;
      small = omega (arith, high, h);
      taken = λ m above below. first_free-below (is_taken used stem) 1 more m above below;
    }

least_next : (used : List (List ℕ)) (stem : List ℕ) → IsNext used stem (least_free used stem)
unfolding least_free
least_next used stem = first_next used stem (greatest_u64 - 1) (omega arith)

-- texts are kept track of when a number is given
pub given_tracks : (used : List (List ℕ)) (has new : List ℕ → Bool) (next later : List ℕ → Option ℕ) (stem text : List ℕ)
    → AddsText text has new → SetsNext stem (given_number has next stem) next later
    → Tracks used has next → Tracks (used ++ text ∷ []) new later
given_tracks used has new next later stem text adds sets h =
    let number : IsNext used stem (given_number has next stem) = subst (IsNext used stem) (sym (given_least used has next stem h)) (least_next used stem) in
    next_tracks (used ++ text ∷ []) new next later stem (given_number has next stem) sets (all_push used text stem (given_number has next stem) number)
    (take_tracks used has new next text adds h)

-- one more object, whose refdes comes into use, if it has one
pub takes_step : (texts rest : List (List ℕ)) (has new : List ℕ → Bool) (next later : List ℕ → Option ℕ) (o : Option (List ℕ)) → TakesRefdes o has next new later
    → Tracks texts has next → (more : List (List ℕ)) × Tracks more new later × (more ++ rest ≡ texts ++ cons_option o rest)
takes_step texts rest has new next later None takes h =
    (texts, subst (λ f. Tracks texts f later) (sym takes.0) (subst (λ f. Tracks texts has f) (sym takes.1) h), refl)
takes_step texts rest has new next later (Some text) takes h =
    (texts ++ text ∷ [], subst (λ f. Tracks (texts ++ text ∷ []) new f) (sym takes.1) (take_tracks texts has new next text takes.0 h), append_assoc texts (text ∷ []) rest)

-- one more place
pub place_step : (p : ProjectData) (texts : List (List ℕ)) (has new : List ℕ → Bool) (next later : List ℕ → Option ℕ) (id : ℕ) (o : Option Placed)
    → GivesRefdes p o has next new later → Tracks texts has next
    → Tracks (used_after p texts o) new later × (items_by p has next id o ≡ items_of p texts id o)
place_step p texts has new next later id None gives h =
    (subst (λ f. Tracks texts f later) (sym gives.0) (subst (λ f. Tracks texts has f) (sym gives.1) h), refl)
place_step p texts has new next later id (Some placed) gives h =
    let least = given_least texts has next (stem_at p placed) h in
    let tracks = given_tracks texts has new next later (stem_at p placed) (given_refdes p has next placed) gives.0 gives.1 h in (
      subst (λ n. Tracks (texts ++ stem_with_number (stem_at p placed) n ∷ []) new later) least tracks,
      ap (λ n. (things.Object id, Some (values.Object (with_refdes (stem_with_number (stem_at p placed) n) placed))) ∷ []) least,
    )

-- nothing is left behind the end of a list
pub drop_all : {A : Type 0} (i : ℕ) (xs : List A) → length xs ≤ i → drop i xs ≡ []
drop_all zero [] h = refl
drop_all zero (x ∷ xs) h = absurd (omega (arith, h))
drop_all (suc i) [] h = refl
drop_all (suc i) (x ∷ xs) h = drop_all i xs (omega (arith, h))
