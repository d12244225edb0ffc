-- Pairs that stand for links have the classes of the links.
use Rattle.std.proofs.Common.{◌⊎◌, ℕ, ◌<◌, List, ◌++◌, get_or, inl, inr}
use Rattle.std.proofs.lemmas.List.Elements.{All-append}
use Rattle.geda_defs.specs.Classes.{AreClasses}
use Rattle.pair_classes.specs.Pairs.{ArePaired, IsSameAt, Spans}
use Rattle.pair_classes.proofs.LabelLemmas.{are_classes, joined_by, joined_of, label_low, labels_agree}
use Rattle.pair_classes.proofs.UnionLemmas.{tied_append, tied_inside, tied_left, tied_right, tied_turn}

-- the heart of joining: the classes of pairs that stand for links are the classes of the links
pub spanned_classes : (R : ℕ → ℕ → Type 0) (pairs : List (ℕ × ℕ)) (count : ℕ) (labels : List ℕ)
    → ((i j : ℕ) → R i j → j < count) → Spans R count pairs → AreClasses (ArePaired pairs) count labels → AreClasses R count labels
spanned_classes R pairs count labels inside spans are =
    let within = tied_inside count pairs spans.within in
    let f = λ (k : ℕ). get_or labels k 0 in
    let same : IsSameAt f pairs = λ i j tied. labels_agree (ArePaired pairs) count labels are (tied_turn pairs) i j (within j i (tied_turn pairs i j tied)) (within i j tied) tied in
    are_classes R count labels are.len inside
    (λ i h. joined_of (ArePaired pairs) R spans.inside i (f i) (are.chain i h))
    (label_low (ArePaired pairs) count labels are)
    (spans.covers f same)

-- the links of one relation or of another
abbrev pub Either : (ℕ → ℕ → Type 0) → (ℕ → ℕ → Type 0) → ℕ → ℕ → Type 0
Either R S i j = R i j ⊎ S i j

-- pairs for the one and pairs for the other
pub spans_either : (R S : ℕ → ℕ → Type 0) (count : ℕ) (ps qs : List (ℕ × ℕ)) → Spans R count ps → Spans S count qs → Spans (Either R S) count (ps ++ qs)
spans_either R S count ps qs first second = record {
  within = All-append (λ p. (p.0 < count) × (p.1 < count)) ps qs first.within second.within;
  inside = λ i j tied. elim (tied_append ps qs i j tied) [
    | inl a ↦ joined_of R (Either R S) (λ a b r. joined_by (Either R S) a b (inl r)) i j (first.inside i j a)
    | inr b ↦ joined_of S (Either R S) (λ a b s. joined_by (Either R S) a b (inr s)) i j (second.inside i j b)
  ];
  covers = λ f same i j link. elim link [
    | inl r ↦ first.covers f (λ a b tied. same a b (tied_left ps qs a b tied)) i j r
    | inr s ↦ second.covers f (λ a b tied. same a b (tied_right ps qs a b tied)) i j s
  ];
}
