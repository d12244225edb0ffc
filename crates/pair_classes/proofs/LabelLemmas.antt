-- Chains of links: put together, turned round, and made of chains of other links; the labels of
-- their classes.
use Rattle.std.proofs.Common.{◌≡◌, ℕ, zero, suc, ◌<◌, ◌≤◌, List, length, get_or, refl, sym, subst, ◌∙◌, arith}
use Rattle.geda_defs.specs.Classes.{Chain, Joined, AreClasses}

-- the chain without links
pub joined_self : (R : ℕ → ℕ → Type 0) (i : ℕ) → Joined R i i
joined_self R i = (0, refl)

-- the chain of one link
pub joined_by : (R : ℕ → ℕ → Type 0) (i j : ℕ) → R i j → Joined R i j
joined_by R i j r = (1, (i, refl, r))

-- a chain after a chain
chain_then : (R : ℕ → ℕ → Type 0) (i j n k : ℕ) → Joined R i j → Chain R j n k → Joined R i k
chain_then R i j zero k a e = subst (λ (x : ℕ). Joined R i x) e a
chain_then R i j (suc n) k a c = let b = chain_then R i j n c.0 a c.1 in (suc b.0, (c.0, b.1, c.2))

-- what is joined to what is joined is joined
pub joined_then : (R : ℕ → ℕ → Type 0) (i j k : ℕ) → Joined R i j → Joined R j k → Joined R i k
joined_then R i j k a b = chain_then R i j b.0 k a b.1

-- a chain whose links are chains of other links
chain_of : (R S : ℕ → ℕ → Type 0) → ((i j : ℕ) → R i j → Joined S i j) → (i n j : ℕ) → Chain R i n j → Joined S i j
chain_of R S to i zero j e = subst (λ (x : ℕ). Joined S i x) e (joined_self S i)
chain_of R S to i (suc n) j c = joined_then S i c.0 j (chain_of R S to i n c.0 c.1) (to c.0 j c.2)

pub joined_of : (R S : ℕ → ℕ → Type 0) → ((i j : ℕ) → R i j → Joined S i j) → (i j : ℕ) → Joined R i j → Joined S i j
joined_of R S to i j joined = chain_of R S to i joined.0 j joined.1

-- a chain turned round, where links go both ways
chain_back : (R : ℕ → ℕ → Type 0) → ((i j : ℕ) → R i j → R j i) → (i n j : ℕ) → Chain R i n j → Joined R j i
chain_back R turn i zero j e = subst (λ (x : ℕ). Joined R x i) e (joined_self R i)
chain_back R turn i (suc n) j c = joined_then R j c.0 i (joined_by R j c.0 (turn c.0 j c.2)) (chain_back R turn i n c.0 c.1)

pub joined_back : (R : ℕ → ℕ → Type 0) → ((i j : ℕ) → R i j → R j i) → (i j : ℕ) → Joined R i j → Joined R j i
joined_back R turn i j joined = chain_back R turn i joined.0 j joined.1

-- a label that no link changes is not changed by a chain
chain_keeps : {A : Type 0} (R : ℕ → ℕ → Type 0) (f : ℕ → A) → ((i j : ℕ) → R i j → f i ≡ f j) → (i n j : ℕ) → Chain R i n j → f i ≡ f j
chain_keeps R f keeps i zero j e = subst (λ (x : ℕ). f i ≡ f x) e refl
chain_keeps R f keeps i (suc n) j c = chain_keeps R f keeps i n c.0 c.1 ∙ keeps c.0 j c.2

pub joined_keeps : {A : Type 0} (R : ℕ → ℕ → Type 0) (f : ℕ → A) → ((i j : ℕ) → R i j → f i ≡ f j) → (i j : ℕ) → Joined R i j → f i ≡ f j
joined_keeps R f keeps i j joined = chain_keeps R f keeps i joined.0 j joined.1

-- along a chain no place is left
chain_inside : (R : ℕ → ℕ → Type 0) (count i n j : ℕ) → ((a b : ℕ) → R a b → b < count) → i < count → Chain R i n j → j < count
chain_inside R count i zero j inside h e = subst (λ (x : ℕ). x < count) e h
chain_inside R count i (suc n) j inside h c = inside c.0 j c.2

pub joined_inside : (R : ℕ → ℕ → Type 0) (count i j : ℕ) → ((a b : ℕ) → R a b → b < count) → i < count → Joined R i j → j < count
joined_inside R count i j inside h joined = chain_inside R count i joined.0 j inside h joined.1

-- labels are those of classes where they are reached, stand no later, and no link changes them
pub are_classes : (R : ℕ → ℕ → Type 0) (count : ℕ) (labels : List ℕ) → length labels ≡ count
    → ((i j : ℕ) → R i j → j < count)
    → ((i : ℕ) → i < count → Joined R i (get_or labels i 0))
    → ((i : ℕ) → i < count → get_or labels i 0 ≤ i)
    → ((i j : ℕ) → R i j → get_or labels i 0 ≡ get_or labels j 0)
    → AreClasses R count labels
are_classes R count labels len inside chain low keeps = record {
  len = len;
  chain = chain;
  least = λ i j h joined.
      let there = joined_inside R count i j inside h joined in
      subst (λ (x : ℕ). x ≤ j) (sym (joined_keeps R (λ k. get_or labels k 0) keeps i j joined)) (low j there);
}

-- a link changes no label of a class, where links go both ways
pub labels_agree : (R : ℕ → ℕ → Type 0) (count : ℕ) (labels : List ℕ) → AreClasses R count labels → ((i j : ℕ) → R i j → R j i)
    → (i j : ℕ) → i < count → j < count → R i j → get_or labels i 0 ≡ get_or labels j 0
labels_agree R count labels are turn i j first second r =
    let up = are.least i (get_or labels j 0) first (joined_then R i j (get_or labels j 0) (joined_by R i j r) (are.chain j second)) in
    let down = are.least j (get_or labels i 0) second (joined_then R j i (get_or labels i 0) (joined_by R j i (turn i j r)) (are.chain i first)) in
    omega (arith, up, down)

-- no label stands later than its place
pub label_low : (R : ℕ → ℕ → Type 0) (count : ℕ) (labels : List ℕ) → AreClasses R count labels → (i : ℕ) → i < count → get_or labels i 0 ≤ i
label_low R count labels are i h = are.least i i h (joined_self R i)

-- labels are places
pub label_inside : (R : ℕ → ℕ → Type 0) (count : ℕ) (labels : List ℕ) → AreClasses R count labels → (i : ℕ) → i < length labels → get_or labels i 0 < count
label_inside R count labels are i h =
    let within : i < count = omega (arith, are.len) in
    omega (arith, are.least i i within (joined_self R i))
