-- Heads of texts compare as the texts do, unless they are equal.
use Rattle.std.proofs.Common.{◌≡◌, ◌⊎◌, ℕ, zero, suc, ◌+◌, ◌*◌, ◌<◌, ◌≤◌, List, [], ◌∷◌, get_or, drop, Ordering, refl, sym, ap, subst, ◌∙◌, arith, inl, inr}
use Rattle.std.specs.declared.cmp.Ordering.TheVariants.{Less, Equal, Greater}
use Rattle.std.specs.Ordering.{nat_cmp, ordering_then, ordering_reverse}
use Rattle.std.specs.Cmp.{nat_cmp_total, tied_itself}
use Rattle.std.proofs.lemmas.Map.Lookups.{exact_unsigned}
use Rattle.std.proofs.lemmas.Bool.{cases_eq, cases_lt, lt-ltb}
use Rattle.geda_defs.specs.Order.{by_bytes}
use Rattle.text_heads.specs.Heads.{IsTextHead, head_from}

abbrev Bytes : List ℕ → Type 0
Bytes xs = (k : ℕ) → get_or xs k 0 < 256

less : (m n : ℕ) → m < n → nat_cmp m n ≡ Less
less m n h = rw (lt-ltb m n h) refl

-- a lesser number stays less, whatever bytes come
rises : (n a b : ℕ) (xs ys : List ℕ) → Bytes xs → a < b → head_from n a xs < head_from n b ys
rises zero a b xs ys h l = l
rises (suc n) a b [] [] h l = rises n (a * 256) (b * 256) [] [] h (omega arith)
rises (suc n) a b [] (y ∷ ys) h l = rises n (a * 256) (b * 256 + y) [] ys h (omega arith)
rises (suc n) a b (x ∷ xs) [] h l =
    let small : x < 256 = h 0 in
    rises n (a * 256 + x) (b * 256) xs [] (λ k. h (suc k)) (omega arith)
rises (suc n) a b (x ∷ xs) (y ∷ ys) h l =
    let small : x < 256 = h 0 in
    rises n (a * 256 + x) (b * 256 + y) xs ys (λ k. h (suc k)) (omega arith)

-- the digits of no bytes are the least
least : (n a b : ℕ) (ys : List ℕ) → a ≤ b → head_from n a [] ≤ head_from n b ys
least zero a b ys l = l
least (suc n) a b [] l = least n (a * 256) (b * 256) [] (omega arith)
least (suc n) a b (y ∷ ys) l = least n (a * 256) (b * 256 + y) ys (omega arith)

more : (m n : ℕ) → n < m → nat_cmp m n ≡ Greater
more m n h = nat_cmp_total.antisymm m n ∙ ap ordering_reverse (less n m h)

same : (m : ℕ) → nat_cmp m m ≡ Equal
same m = tied_itself nat_cmp_total m

at_most : (m n : ℕ) → m ≤ n → ordering_then (nat_cmp m n) Less ≡ Less
at_most m n h = by (cases_lt m n)
  where
    by : (m < n) ⊎ (n ≤ m) → ordering_then (nat_cmp m n) Less ≡ Less
    by (inl l) = rw (less m n l) refl
    by (inr l) =
        let e : m ≡ n = omega arith in
        subst (λ (k : ℕ). ordering_then (nat_cmp m k) Less ≡ Less) e (rw (same m) refl)

at_least : (m n : ℕ) → n ≤ m → ordering_then (nat_cmp m n) Greater ≡ Greater
at_least m n h = by (cases_lt n m)
  where
    by : (n < m) ⊎ (m ≤ n) → ordering_then (nat_cmp m n) Greater ≡ Greater
    by (inl l) = rw (more m n l) refl
    by (inr l) =
        let e : m ≡ n = omega arith in
        subst (λ (k : ℕ). ordering_then (nat_cmp m k) Greater ≡ Greater) e (rw (same m) refl)

-- heads behind one number compare as the texts do, unless they are equal
pub heads_from : (n a : ℕ) (xs ys : List ℕ) → Bytes xs → Bytes ys
    → ordering_then (nat_cmp (head_from n a xs) (head_from n a ys)) (by_bytes xs ys) ≡ by_bytes xs ys
heads_from zero a xs ys p q = ap (λ (o : Ordering). ordering_then o (by_bytes xs ys)) (same a)
heads_from (suc n) a [] [] p q = ap (λ (o : Ordering). ordering_then o Equal) (same (head_from n (a * 256) []))
heads_from (suc n) a [] (y ∷ ys) p q = at_most _ _ (least n (a * 256) (a * 256 + y) ys (omega arith))
heads_from (suc n) a (x ∷ xs) [] p q = at_least _ _ (least n (a * 256) (a * 256 + x) xs (omega arith))
heads_from (suc n) a (x ∷ xs) (y ∷ ys) p q = by (cases_eq x y) (heads_from n (a * 256 + x) xs ys (λ k. p (suc k)) (λ k. q (suc k)))
  where
    Stands : ℕ → Type 0
    Stands z = ordering_then (nat_cmp (head_from n (a * 256 + x) xs) (head_from n (a * 256 + z) ys)) (ordering_then (nat_cmp x z) (by_bytes xs ys)) ≡ ordering_then (nat_cmp x z) (by_bytes xs ys)

    apart : (x < y) ⊎ (y ≤ x) → (x ≡ y → ⊥) → Stands y
    apart (inl l) ne = rw (less x y l, less _ _ (rises n (a * 256 + x) (a * 256 + y) xs ys (λ k. p (suc k)) (omega arith))) refl
    apart (inr l) ne =
        let under : y < x = grind arith in
        rw (more x y under, more _ _ (rises n (a * 256 + y) (a * 256 + x) ys xs (λ k. q (suc k)) (omega arith))) refl

    by : (x ≡ y) ⊎ (x ≡ y → ⊥) → ordering_then (nat_cmp (head_from n (a * 256 + x) xs) (head_from n (a * 256 + x) ys)) (by_bytes xs ys) ≡ by_bytes xs ys → Stands y
    by (inl e) h = subst Stands e (rw (same x) h)
    by (inr ne) h = apart (cases_lt x y) ne

-- where the order of heads is told apart, it is that of the texts
settled : (o r : Ordering) → (o ≡ Equal → ⊥) → ordering_then o r ≡ r → o ≡ r
settled Less r ne h = h
settled Equal r ne h = absurd (ne refl)
settled Greater r ne h = h

not_equal : (m n : ℕ) → (m ≡ n → ⊥) → nat_cmp m n ≡ Equal → ⊥
not_equal m n ne e = ne (exact_unsigned m n e)

-- heads that differ compare as the texts do
pub heads_compare : (n h k : ℕ) (xs ys : List ℕ) → IsTextHead n h xs → IsTextHead n k ys → (h ≡ k → ⊥) → nat_cmp h k ≡ by_bytes xs ys
heads_compare n h k xs ys p q ne =
    settled (nat_cmp h k) (by_bytes xs ys) (not_equal h k ne)
    (rw (p.is, q.is) (heads_from n 0 xs ys p.bytes q.bytes))

-- ---- heads byte by byte

drop_none : (k : ℕ) → drop {A = ℕ} k [] ≡ []
drop_none zero = refl
drop_none (suc k) = refl

step_at : (n h at : ℕ) (xs : List ℕ) → head_from (suc n) h (drop at xs) ≡ head_from n (h * 256 + get_or xs at 0) (drop (at + 1) xs)
step_at n h zero [] = ap (λ (k : ℕ). head_from n k []) (omega arith)
step_at n h zero (x ∷ xs) = refl
step_at n h (suc at) [] = ap (λ (k : ℕ). head_from n k []) (omega arith) ∙ ap (head_from n (h * 256 + 0)) (sym (drop_none (suc at + 1)))
step_at n h (suc at) (x ∷ xs) =
    let more : suc at + 1 ≡ suc (at + 1) = omega arith in
    step_at n h at xs ∙ ap (λ (k : ℕ). head_from n (h * 256 + get_or xs at 0) (drop k (x ∷ xs))) (sym more)

step_to : (n h at next : ℕ) (xs : List ℕ) → next ≡ at + 1 → head_from (suc n) h (drop at xs) ≡ head_from n (h * 256 + get_or xs at 0) (drop next xs)
step_to n h at next xs e = step_at n h at xs ∙ ap (λ (k : ℕ). head_from n (h * 256 + get_or xs at 0) (drop k xs)) (sym e)

four_to : (n h at : ℕ) (xs : List ℕ)
    → head_from (suc (suc (suc (suc n)))) h (drop at xs)
    ≡ head_from n ((((h * 256 + get_or xs at 0) * 256 + get_or xs (at + 1) 0) * 256 + get_or xs (at + 2) 0) * 256 + get_or xs (at + 3) 0) (drop (at + 4) xs)
four_to n h at xs =
    step_to (suc (suc (suc n))) h at (at + 1) xs refl
    ∙ step_to (suc (suc n)) _ (at + 1) (at + 2) xs (omega arith)
    ∙ step_to (suc n) _ (at + 2) (at + 3) xs (omega arith)
    ∙ step_to n _ (at + 3) (at + 4) xs (omega arith)

-- four bytes behind a head
pub four_bytes : (h at a b c d : ℕ) (xs : List ℕ) → a ≡ get_or xs at 0 → b ≡ get_or xs (at + 1) 0 → c ≡ get_or xs (at + 2) 0 → d ≡ get_or xs (at + 3) 0
    → head_from 4 h (drop at xs) ≡ h * 4294967296 + ((a * 256 + b) * 65536 + (c * 256 + d))
four_bytes h at a b c d xs e f g i = four_to 0 h at xs ∙ omega (arith, e, f, g, i)

-- eight bytes are four behind four
pub eight_bytes : (xs : List ℕ) → head_from 8 0 xs ≡ head_from 4 (head_from 4 0 xs) (drop 4 xs)
eight_bytes xs = four_to 4 0 0 xs ∙ ap (λ (k : ℕ). head_from 4 k (drop 4 xs)) (sym (four_to 0 0 0 xs))
