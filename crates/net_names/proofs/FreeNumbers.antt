-- The numbers of nets without names: they rise, they are enough, and their texts differ.
use Rattle.std.proofs.Common.{◌≡◌, ℕ, zero, suc, ◌+◌, ◌≤◌, ◌<◌, ◌^◌, ◌||◌, not, Bool, true, false, cond, List, [], ◌∷◌, ◌++◌, length, take, filter, decimal, bytes_eq, refl, sym, ap, subst, ◌∙◌, arith}
use Rattle.std.specs.List.{list_any, range_with_len}
use Rattle.std.specs.Str.Parse.{digits_value}
use Rattle.std.proofs.lemmas.Fmt.{decimal_is_IsNumeral_wide}
use Rattle.std.proofs.lemmas.List.{append_cancel_left, length-take-le}
use Rattle.std.proofs.lemmas.List.FromFn.{length-range_with_len}
use Rattle.std.proofs.lemmas.Slice.Eq.{bytes_eq-Decides}
use Rattle.net_names.specs.NetLists.{free_numbers, is_free}

-- each number is at least a first one, above those before it, below a top, and passes
abbrev pub Rises : (ℕ → Bool) → ℕ → ℕ → List ℕ → Type 0
Rises test from top [] = Unit {0}
Rises test from top (n ∷ ns) = (from ≤ n) × (n < top) × (test n ≡ true) × Rises test (n + 1) top ns

-- any number
abbrev pub any_number : ℕ → Bool
any_number n = true

rises_range : (from count : ℕ) → Rises any_number from (from + count) (range_with_len from count)
rises_range from zero = tt
rises_range from (suc count) =
    let more : from + 1 + count ≡ from + suc count = omega arith in
    let rest = subst (λ (top : ℕ). Rises any_number (from + 1) top (range_with_len (from + 1) count)) more (rises_range (from + 1) count) in
    (omega arith, omega arith, refl, rest)

rises_from : (test : ℕ → Bool) (first from top : ℕ) (ns : List ℕ) → first ≤ from → Rises test from top ns → Rises test first top ns
rises_from test first from top [] low r = tt
rises_from test first from top (n ∷ ns) low (above, below, passes, rest) = (omega (arith, above), below, passes, rest)

rises_filter : (test : ℕ → Bool) (from top : ℕ) (ns : List ℕ) → Rises any_number from top ns → Rises test from top (filter test ns)
rises_filter test from top [] r = tt
rises_filter test from top (n ∷ ns) (above, below, passes, rest) = by (test n) refl (rises_filter test (n + 1) top ns rest)
  where
    by : (b : Bool) → test n ≡ b → Rises test (n + 1) top (filter test ns) → Rises test from top (cond b (n ∷ filter test ns) (filter test ns))
    by true e h = (above, below, e, h)
    by false e h = rises_from test from (n + 1) top (filter test ns) (omega (arith, above)) h

rises_take : (test : ℕ → Bool) (count from top : ℕ) (ns : List ℕ) → Rises test from top ns → Rises test from top (take count ns)
rises_take test zero from top [] r = tt
rises_take test zero from top (n ∷ ns) r = tt
rises_take test (suc count) from top [] r = tt
rises_take test (suc count) from top (n ∷ ns) (above, below, passes, rest) = (above, below, passes, rises_take test count (n + 1) top ns rest)

-- a number of at most 64 digits has a text of its own
pub one_text : (prefix : List ℕ) (m n : ℕ) → m < 10 ^ 64 → n < 10 ^ 64 → prefix ++ decimal m ≡ prefix ++ decimal n → m ≡ n
one_text prefix m n p q e =
    let digits : decimal m ≡ decimal n = append_cancel_left prefix (decimal m) (decimal n) e in
    sym (decimal_is_IsNumeral_wide m p).1 ∙ ap (digits_value 10) digits ∙ (decimal_is_IsNumeral_wide n q).1

-- above the number whose text a name is, the name takes none
others_stay : (prefix name : List ℕ) (names : List (List ℕ)) (k from top : ℕ) (ns : List ℕ) → top ≤ 10 ^ 64 → k < from → k < 10 ^ 64
    → prefix ++ decimal k ≡ name
    → Rises any_number from top ns → length (filter (is_free prefix names) ns) ≤ length (filter (is_free prefix (name ∷ names)) ns)
others_stay prefix name names k from top [] small low few is r = omega arith
others_stay prefix name names k from top (n ∷ ns) small low few is (above, below, passes, rest) =
    by (bytes_eq (prefix ++ decimal n) name) (list_any (bytes_eq (prefix ++ decimal n)) names) refl
    (others_stay prefix name names k (n + 1) top ns small (omega (arith, above)) few is rest)
  where
    by : (a b : Bool) → bytes_eq (prefix ++ decimal n) name ≡ a
        → length (filter (is_free prefix names) ns) ≤ length (filter (is_free prefix (name ∷ names)) ns)
        → length (cond (not b) (n ∷ filter (is_free prefix names) ns) (filter (is_free prefix names) ns))
        ≤ length (cond (not (a || b)) (n ∷ filter (is_free prefix (name ∷ names)) ns) (filter (is_free prefix (name ∷ names)) ns))
    by true b e h =
        let same : prefix ++ decimal n ≡ name = (bytes_eq-Decides (prefix ++ decimal n) name).0 e in
        let one : n ≡ k = one_text prefix n k (omega (arith, below)) few (same ∙ sym is) in
        absurd (omega (arith, above, one))
    by false true e h = h
    by false false e h = omega (arith, h)

-- one name takes one number at most
one_taken : (prefix name : List ℕ) (names : List (List ℕ)) (from top : ℕ) (ns : List ℕ) → top ≤ 10 ^ 64 → Rises any_number from top ns
    → length (filter (is_free prefix names) ns) ≤ length (filter (is_free prefix (name ∷ names)) ns) + 1
one_taken prefix name names from top [] small r = omega arith
one_taken prefix name names from top (n ∷ ns) small (above, below, passes, rest) =
    by (bytes_eq (prefix ++ decimal n) name) (list_any (bytes_eq (prefix ++ decimal n)) names) refl (one_taken prefix name names (n + 1) top ns small rest)
  where
    by : (a b : Bool) → bytes_eq (prefix ++ decimal n) name ≡ a
        → length (filter (is_free prefix names) ns) ≤ length (filter (is_free prefix (name ∷ names)) ns) + 1
        → length (cond (not b) (n ∷ filter (is_free prefix names) ns) (filter (is_free prefix names) ns))
        ≤ length (cond (not (a || b)) (n ∷ filter (is_free prefix (name ∷ names)) ns) (filter (is_free prefix (name ∷ names)) ns)) + 1
    by true true e h = h
    by true false e h =
        let same : prefix ++ decimal n ≡ name = (bytes_eq-Decides (prefix ++ decimal n) name).0 e in
        let stay = others_stay prefix name names n (n + 1) top ns small (omega arith) (omega (arith, below)) same rest in
        omega (arith, stay)
    by false true e h = h
    by false false e h = omega (arith, h)

none_taken : (prefix : List ℕ) (ns : List ℕ) → length ns ≤ length (filter (is_free prefix []) ns)
none_taken prefix [] = omega arith
none_taken prefix (n ∷ ns) = omega (arith, none_taken prefix ns)

-- so of numbers there are at most as many taken as there are names
few_taken : (prefix : List ℕ) (names : List (List ℕ)) (from top : ℕ) (ns : List ℕ) → top ≤ 10 ^ 64 → Rises any_number from top ns
    → length ns ≤ length (filter (is_free prefix names) ns) + length names
few_taken prefix [] from top ns small r = omega (arith, none_taken prefix ns)
few_taken prefix (name ∷ names) from top ns small r =
    omega (arith, few_taken prefix names from top ns small r, one_taken prefix name names from top ns small r)

module _ (prefix : List ℕ) (used : List (List ℕ)) (count : ℕ) (small : count + length used < 10 ^ 64) where
  -- the numbers that are given rise, and are free
  pub numbers_rise : Rises (is_free prefix used) 1 (10 ^ 64) (free_numbers prefix used count)
  numbers_rise =
      let range = range_with_len 1 (count + length used) in
      let rise = rises_below 1 (1 + (count + length used)) range (omega (arith, small)) (rises_range 1 (count + length used)) in
      rises_take (is_free prefix used) count 1 (10 ^ 64) (filter (is_free prefix used) range) (rises_filter (is_free prefix used) 1 (10 ^ 64) range rise)
    where
      rises_below : (from top : ℕ) (ns : List ℕ) → top ≤ 10 ^ 64 → Rises any_number from top ns → Rises any_number from (10 ^ 64) ns
      rises_below from top [] low r = tt
      rises_below from top (n ∷ ns) low (above, below, passes, rest) = (above, omega (arith, below), passes, rises_below (n + 1) top ns low rest)

  -- and they are as many as are asked for
  pub numbers_suffice : length (free_numbers prefix used count) ≡ count
  numbers_suffice =
      let range = range_with_len 1 (count + length used) in
      let enough = few_taken prefix used 1 (1 + (count + length used)) range (omega (arith, small)) (rises_range 1 (count + length used)) in
      length-take-le count (filter (is_free prefix used) range) (omega (arith, enough, length-range_with_len 1 (count + length used)))
