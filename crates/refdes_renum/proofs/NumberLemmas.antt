-- The first number that is free.
use Rattle.std.proofs.Common.{◌≡◌, ℕ, zero, suc, ◌+◌, ◌-◌, ◌<◌, ◌≤◌, Bool, true, false, cond, refl, ap, ◌∙◌, subst, inl, inr, arith}
use Rattle.std.proofs.lemmas.Bool.{cases_lt}
use Rattle.refdes_renum.specs.Numbers.{first_free, greatest_u64}

-- numbers that are taken may be passed over
pub first_free-skip : (taken : ℕ → Bool) (k n more : ℕ) → k ≤ more → ((m : ℕ) → n ≤ m → m < n + k → taken m ≡ true)
    → first_free taken n more ≡ first_free taken (n + k) (more - k)
first_free-skip taken zero n more h all =
    let at : n ≡ n + 0 = omega arith in
    let left : more ≡ more - 0 = omega arith in
    ap (λ m. first_free taken m more) at ∙ ap (λ m. first_free taken (n + 0) m) left
first_free-skip taken (suc k) n zero h all = absurd (omega (arith, h))
first_free-skip taken (suc k) n (suc more) h all =
    let this : taken n ≡ true = all n (omega arith) (omega arith) in
    let at : n + 1 + k ≡ n + suc k = omega arith in
    let left : more - k ≡ suc more - suc k = omega arith in
    ap (λ b. cond b (first_free taken (n + 1) more) n) this
    ∙ first_free-skip taken k (n + 1) more (omega (arith, h)) (λ m low high. all m (omega (arith, low)) (omega (arith, high)))
    ∙ ap (λ m. first_free taken m (more - k)) at
    ∙ ap (λ m. first_free taken (n + suc k) m) left

-- a test that answers the same finds the same number
pub first_free-same : (f g : ℕ → Bool) (n more : ℕ) → ((m : ℕ) → f m ≡ g m) → first_free f n more ≡ first_free g n more
first_free-same f g n zero h = refl
first_free-same f g n (suc more) h = rw (h n) (ap (λ m. cond (g n) m n) (first_free-same f g (n + 1) more h))

-- all numbers before it are taken
pub first_free-below : (taken : ℕ → Bool) (n more m : ℕ) → n ≤ m → m < first_free taken n more → taken m ≡ true
first_free-below taken n zero m low high = absurd (omega (arith, low, high))
first_free-below taken n (suc more) m low high = go (taken n) refl high (first_free-below taken (n + 1) more m)
  where
    go : (b : Bool) → taken n ≡ b → m < cond b (first_free taken (n + 1) more) n → (n + 1 ≤ m → m < first_free taken (n + 1) more → taken m ≡ true)
        → taken m ≡ true
    go false e below later = absurd (omega (arith, low, below))
    go true e below later = elim (cases_lt n m) [
      | inl above ↦ later (omega (arith, above)) below
      | inr at ↦ subst (λ k. taken k ≡ true) (omega (arith, low, at)) e
    ]

-- it is not below where the search begins, nor past its end
pub first_free-from : (taken : ℕ → Bool) (n more : ℕ) → n ≤ first_free taken n more
first_free-from taken n zero = omega arith
first_free-from taken n (suc more) = go (taken n) (first_free-from taken (n + 1) more)
  where
    go : (b : Bool) → n + 1 ≤ first_free taken (n + 1) more → n ≤ cond b (first_free taken (n + 1) more) n
    go true h = omega (arith, h)
    go false h = omega arith

pub first_free-to : (taken : ℕ → Bool) (n more : ℕ) → first_free taken n more ≤ n + more
first_free-to taken n zero = omega arith
first_free-to taken n (suc more) = go (taken n) (first_free-to taken (n + 1) more)
  where
    go : (b : Bool) → first_free taken (n + 1) more ≤ (n + 1) + more → cond b (first_free taken (n + 1) more) n ≤ n + suc more
    go true h = omega (arith, h)
    go false h = omega arith

-- a number that is taken is passed over
pub first_free-step : (taken : ℕ → Bool) (n : ℕ) → n < greatest_u64 → taken n ≡ true
    → first_free taken n (greatest_u64 - n) ≡ first_free taken (n + 1) (greatest_u64 - (n + 1))
first_free-step taken n h e =
    let more : greatest_u64 - n ≡ suc (greatest_u64 - (n + 1)) = omega (arith, h) in
    ap (first_free taken n) more ∙ ap (λ b. cond b (first_free taken (n + 1) (greatest_u64 - (n + 1))) n) e

-- one that is free ends the search
pub first_free-stop : (taken : ℕ → Bool) (n more : ℕ) → taken n ≡ false → first_free taken n more ≡ n
first_free-stop taken n zero e = refl
first_free-stop taken n (suc more) e = ap (λ b. cond b (first_free taken (n + 1) more) n) e

-- so does the greatest
pub first_free-end : (taken : ℕ → Bool) (n : ℕ) → greatest_u64 ≤ n → first_free taken n (greatest_u64 - n) ≡ n
first_free-end taken n h = let none : greatest_u64 - n ≡ 0 = omega (arith, h) in ap (first_free taken n) none
