-- Two members of a list that pass tests.
use Rattle.std.proofs.Common.{◌≡◌, ◌∙◌, ℕ, ◌+◌, List, [], ◌∷◌, Bool, true, false, Option, Some, None, ◌&&◌, ◌||◌, refl, ap, sym, arith, cond}
use Rattle.std.specs.Prelude.{map, count_by, nat_le}
use Rattle.std.specs.List.{cons_option, filter_map, list_any}
use Rattle.std.proofs.lemmas.Bool.Decides.{nat_tests}
use Rattle.std.proofs.lemmas.List.Folds.{list_any-append}
use Rattle.std.proofs.lemmas.List.Sums.{sum_by-cons}
use Rattle.text_tallies.specs.TwoOfAList.{both, pairs, two_pass}
use Rattle.text_tallies.specs.steps.Twice.{twice_after}

-- one passes the first test, the other the second
abbrev pub either : {A : Type 0} → (A → Bool) → (A → Bool) → A × A → Bool
either p q two = (p two.0 && q two.1) || (q two.0 && p two.1)

any-map : {A B : Type 0} (f : B → Bool) (g : A → B) (xs : List A) → list_any f (map g xs) ≡ list_any (λ x. f (g x)) xs
any-map f g [] = refl
any-map f g (x ∷ xs) = ap (λ (b : Bool). f (g x) || b) (any-map f g xs)

pub any_same : {A : Type 0} (f g : A → Bool) → ((x : A) → f x ≡ g x) → (xs : List A) → list_any f xs ≡ list_any g xs
any_same f g same [] = refl
any_same f g same (x ∷ xs) = rw (same x, any_same f g same xs) refl

pub any_none : {A : Type 0} (xs : List A) → list_any (λ (x : A). false) xs ≡ false
any_none [] = refl
any_none (x ∷ xs) = any_none xs

-- pairs of a list with one more member in front
pub any_pairs : {A : Type 0} (f : A × A → Bool) (x : A) (xs : List A)
    → list_any f (pairs (x ∷ xs)) ≡ (list_any (λ (y : A). f (x, y)) xs || list_any f (pairs xs))
any_pairs {A} f x xs =
    list_any-append f (map (λ (y : A). (x, y)) xs) (pairs xs)
    ∙ ap (λ (b : Bool). b || list_any f (pairs xs)) (any-map f (λ (y : A). (x, y)) xs)

-- a count with one more member in front
counted : {A : Type 0} (p : A → Bool) (x : A) (xs : List A) → count_by p (x ∷ xs) ≡ cond (p x) 1 0 + count_by p xs
counted p x xs = sum_by-cons (λ y. cond (p y) 1 0) x xs

zero_plus : (n : ℕ) → 0 + n ≡ n
zero_plus n = omega arith

counted_no : {A : Type 0} (p : A → Bool) (x : A) (xs : List A) → p x ≡ false → count_by p (x ∷ xs) ≡ count_by p xs
counted_no p x xs e = counted p x xs ∙ rw e (zero_plus (count_by p xs))

counted_yes : {A : Type 0} (p : A → Bool) (x : A) (xs : List A) → p x ≡ true → count_by p (x ∷ xs) ≡ 1 + count_by p xs
counted_yes p x xs e = counted p x xs ∙ rw e refl

le_one : (n : ℕ) → true ≡ nat_le 1 (1 + n)
le_one n = grind (arith, nat_tests)

le_two : (n : ℕ) → (nat_le 1 n || nat_le 2 n) ≡ nat_le 2 (1 + n)
le_two n = grind (arith, nat_tests)

le_first : (n m : ℕ) → (nat_le 1 m || (nat_le 1 n && nat_le 1 m)) ≡ (nat_le 1 (1 + n) && nat_le 1 m)
le_first n m = grind (arith, nat_tests)

le_second : (n m : ℕ) → (nat_le 1 n || (nat_le 1 n && nat_le 1 m)) ≡ (nat_le 1 n && nat_le 1 (1 + m))
le_second n m = grind (arith, nat_tests)

any_more : {A : Type 0} (p : A → Bool) (x : A) (xs : List A) → list_any p xs ≡ nat_le 1 (count_by p xs)
    → (b : Bool) → p x ≡ b → list_any p (x ∷ xs) ≡ nat_le 1 (count_by p (x ∷ xs))
any_more p x xs ih true e = rw (counted_yes p x xs e, e) (le_one (count_by p xs))
any_more p x xs ih false e = rw (counted_no p x xs e, e) ih

-- some member passes: the count is at least 1
pub any_counted : {A : Type 0} (p : A → Bool) (xs : List A) → list_any p xs ≡ nat_le 1 (count_by p xs)
any_counted p [] = refl
any_counted p (x ∷ xs) = any_more p x xs (any_counted p xs) (p x) refl

pub or_false : (b : Bool) → (b || false) ≡ b
or_false true = refl
or_false false = refl

pub and_false : (b : Bool) → (b && false) ≡ false
and_false true = refl
and_false false = refl

-- a test that a condition is joined to
pub any_and : {A : Type 0} (b : Bool) (p : A → Bool) (xs : List A) → list_any (λ (y : A). b && p y) xs ≡ (b && list_any p xs)
any_and true p xs = refl
any_and false p xs = any_none xs

both_more : {A : Type 0} (p : A → Bool) (x : A) (xs : List A) → list_any (both p) (pairs xs) ≡ nat_le 2 (count_by p xs)
    → (b : Bool) → p x ≡ b
    → (list_any (λ (y : A). both p (x, y)) xs || list_any (both p) (pairs xs)) ≡ nat_le 2 (count_by p (x ∷ xs))
both_more p x xs ih true e = rw (counted_yes p x xs e, e, any_counted p xs, ih) (le_two (count_by p xs))
both_more p x xs ih false e = rw (counted_no p x xs e, e, any_none xs) ih

-- two members pass, not the same one: the count is at least 2
pub both_counted : {A : Type 0} (p : A → Bool) (xs : List A) → list_any (both p) (pairs xs) ≡ nat_le 2 (count_by p xs)
both_counted p [] = refl
both_counted p (x ∷ xs) = any_pairs (both p) x xs ∙ both_more p x xs (both_counted p xs) (p x) refl

either_more : {A : Type 0} (p q : A → Bool) (x : A) (xs : List A)
    → (p x ≡ true → q x ≡ false)
    → list_any (either p q) (pairs xs) ≡ (nat_le 1 (count_by p xs) && nat_le 1 (count_by q xs))
    → (b c : Bool) → p x ≡ b → q x ≡ c
    → (list_any (λ (y : A). either p q (x, y)) xs || list_any (either p q) (pairs xs)) ≡ (nat_le 1 (count_by p (x ∷ xs)) && nat_le 1 (count_by q (x ∷ xs)))
either_more p q x xs apart ih true true e f = absurd (let h : true ≡ false = sym f ∙ apart e in cc)
either_more p q x xs apart ih true false e f =
    rw (counted_yes p x xs e, counted_no q x xs f, e, f, any_same (λ y. q y || false) q (λ y. or_false (q y)) xs, any_counted q xs, ih)
    (le_first (count_by p xs) (count_by q xs))
either_more p q x xs apart ih false true e f =
    rw (counted_no p x xs e, counted_yes q x xs f, e, f, any_counted p xs, ih) (le_second (count_by p xs) (count_by q xs))
either_more p q x xs apart ih false false e f = rw (counted_no p x xs e, counted_no q x xs f, e, f, any_none xs) ih

-- one passes the one test and another the other, which no member passes both: each is passed
pub either_counted : {A : Type 0} (p q : A → Bool) → ((x : A) → p x ≡ true → q x ≡ false) → (xs : List A)
    → list_any (either p q) (pairs xs) ≡ (nat_le 1 (count_by p xs) && nat_le 1 (count_by q xs))
either_counted p q apart [] = refl
either_counted p q apart (x ∷ xs) = any_pairs (either p q) x xs ∙ either_more p q x xs (apart x) (either_counted p q apart xs) (p x) (q x) refl refl

-- one more member after those that were seen
twice_step : (twice seen here more rest : Bool)
    → ((twice || (seen && here)) || (((seen || here) && more) || rest)) ≡ (twice || ((seen && (here || more)) || ((here && more) || rest)))
twice_step true seen here more rest = refl
twice_step false true true more rest = refl
twice_step false true false more rest = refl
twice_step false false true more rest = refl
twice_step false false false more rest = refl

pub twice_after_is : {A : Type 0} (seen twice : Bool) (p : A → Bool) (xs : List A)
    → twice_after seen twice p xs ≡ (twice || ((seen && list_any p xs) || list_any (both p) (pairs xs)))
twice_after_is seen twice p [] = rw (and_false seen, or_false twice) refl
twice_after_is seen twice p (x ∷ xs) =
    twice_after_is (seen || p x) (twice || (seen && p x)) p xs
    ∙ (twice_step twice seen (p x) (list_any p xs) (list_any (both p) (pairs xs))
    ∙ sym (rw (any_pairs (both p) x xs, any_and (p x) p xs) refl))

-- from nothing on: two members pass
pub twice_from_none : {A : Type 0} (p : A → Bool) (xs : List A) → twice_after false false p xs ≡ list_any (both p) (pairs xs)
twice_from_none p xs = twice_after_is false false p xs

within_more : {A : Type 0} (p w : A → Bool) (x : A) (xs : List A)
    → list_any (λ (y : A). p y && w y) xs ≡ (list_any p xs && list_any (λ (y : A). p y && w y) xs)
    → (b : Bool) → p x ≡ b
    → list_any (λ (y : A). p y && w y) (x ∷ xs) ≡ (list_any p (x ∷ xs) && list_any (λ (y : A). p y && w y) (x ∷ xs))
within_more p w x xs ih true e = rw e refl
within_more p w x xs ih false e = rw e ih

-- who passes both tests passes the first
pub any_within : {A : Type 0} (p w : A → Bool) (xs : List A) → list_any (λ (y : A). p y && w y) xs ≡ (list_any p xs && list_any (λ (y : A). p y && w y) xs)
any_within p w [] = refl
any_within p w (x ∷ xs) = within_more p w x xs (any_within p w xs) (p x) refl

-- both pass the first test, and one of them the second
abbrev pub clash : {A : Type 0} → (A → Bool) → (A → Bool) → A × A → Bool
clash p w two = both p two && (w two.0 || w two.1)

clash_open : (n : ℕ) (more : Bool) → (nat_le 1 n || (nat_le 2 n && more)) ≡ (nat_le 1 n || nat_le 2 n)
clash_open n more = grind (arith, nat_tests)

clash_closed : (a two more : Bool) → more ≡ (a && more) → (more || (two && more)) ≡ ((a || two) && more)
clash_closed true two true e = refl
clash_closed true true false e = refl
clash_closed true false false e = refl
clash_closed false two true e = absurd (let h : true ≡ false = e in cc)
clash_closed false true false e = refl
clash_closed false false false e = refl

and_true : (b : Bool) → (b && true) ≡ b
and_true true = refl
and_true false = refl

clash_more : {A : Type 0} (p w : A → Bool) (x : A) (xs : List A)
    → list_any (clash p w) (pairs xs) ≡ (list_any (both p) (pairs xs) && list_any (λ (y : A). p y && w y) xs)
    → (b c : Bool) → p x ≡ b → w x ≡ c
    → (list_any (λ (y : A). clash p w (x, y)) xs || list_any (clash p w) (pairs xs))
    ≡ ((list_any (λ (y : A). both p (x, y)) xs || list_any (both p) (pairs xs)) && list_any (λ (y : A). p y && w y) (x ∷ xs))
clash_more p w x xs ih true true e f =
    rw (e, f, any_same (λ y. p y && true) p (λ y. and_true (p y)) xs, ih, and_true (list_any p xs || list_any (both p) (pairs xs)), any_counted p xs, both_counted p xs)
    (clash_open (count_by p xs) (list_any (λ y. p y && w y) xs))
clash_more p w x xs ih true false e f =
    rw (e, f, ih) (clash_closed (list_any p xs) (list_any (both p) (pairs xs)) (list_any (λ y. p y && w y) xs) (any_within p w xs))
clash_more p w x xs ih false c e f = rw (e, any_none xs, ih) refl

-- two pass the first test and one of them the second: two pass the first, and one passes both
pub clash_is : {A : Type 0} (p w : A → Bool) (xs : List A)
    → list_any (clash p w) (pairs xs) ≡ (list_any (both p) (pairs xs) && list_any (λ (y : A). p y && w y) xs)
clash_is p w [] = refl
clash_is p w (x ∷ xs) =
    any_pairs (clash p w) x xs
    ∙ (clash_more p w x xs (clash_is p w xs) (p x) (w x) refl refl
    ∙ ap (λ (b : Bool). b && list_any (λ y. p y && w y) (x ∷ xs)) (sym (any_pairs (both p) x xs)))

-- two members of a list with one more in front
pub two_pass_first : {A : Type 0} (p : A → Bool) (x : A) (xs : List A)
    → two_pass p (x ∷ xs) ≡ ((p x && list_any p xs) || two_pass p xs)
two_pass_first p x xs =
    any_pairs (both p) x xs ∙ ap (λ (b : Bool). b || two_pass p xs) (any_and (p x) p xs)

-- equal tests are passed twice alike
pub two_pass_same : {A : Type 0} (p q : A → Bool) → ((x : A) → p x ≡ q x) → (xs : List A)
    → two_pass p xs ≡ two_pass q xs
two_pass_same p q same xs =
    any_same (both p) (both q) (λ two. rw (same two.0, same two.1) refl) (pairs xs)

-- a test of a key that may be missing
abbrev pub passes : {K : Type 0} → (K → Bool) → Option K → Bool
passes test None = false
passes test (Some k) = test k

any_optional : {K : Type 0} (test : K → Bool) (key : Option K) (keys : List K)
    → list_any test (cons_option key keys) ≡ (passes test key || list_any test keys)
any_optional test None keys = refl
any_optional test (Some k) keys = refl

two_optional : {K : Type 0} (test : K → Bool) (key : Option K) (keys : List K)
    → two_pass test (cons_option key keys) ≡ ((passes test key && list_any test keys) || two_pass test keys)
two_optional test None keys = refl
two_optional test (Some k) keys = two_pass_first test k keys

-- some key passes: some member has a key that does
pub any_filter : {A K : Type 0} (key : A → Option K) (test : K → Bool) (xs : List A)
    → list_any test (filter_map key xs) ≡ list_any (λ (x : A). passes test (key x)) xs
any_filter key test [] = refl
any_filter key test (x ∷ xs) =
    any_optional test (key x) (filter_map key xs)
    ∙ ap (λ (b : Bool). passes test (key x) || b) (any_filter key test xs)

-- two keys pass: two members have keys that do
pub two_pass_filter : {A K : Type 0} (key : A → Option K) (test : K → Bool) (xs : List A)
    → two_pass test (filter_map key xs) ≡ two_pass (λ (x : A). passes test (key x)) xs
two_pass_filter {A} key test [] = refl
two_pass_filter {A} key test (x ∷ xs) =
    two_optional test (key x) (filter_map key xs)
    ∙ rw (any_filter key test xs, two_pass_filter key test xs)
    (sym (two_pass_first (λ (y : A). passes test (key y)) x xs))
