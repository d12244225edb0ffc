-- Pairs for touching, for names and for ports together stand for what is linked.
use Rattle.std.proofs.Common.{ℕ, ◌<◌, List, ◌++◌, length, append_assoc, subst, sym, inl, inr}
use Rattle.geda_defs.specs.Classes.{AreClasses}
use Rattle.flat_rows.specs.Conductors.{FlatConductor}
use Rattle.link_classes.specs.Links.{AreTied, AreTouching, AtPlaces, Linked, ShareName}
use Rattle.pair_classes.specs.Pairs.{ArePaired, Spans}
use Rattle.pair_classes.proofs.SpanLemmas.{Either, spanned_classes, spans_either}

-- what is linked at two places is below the count
linked_inside : (conductors : List FlatConductor) (i j : ℕ) → Linked conductors i j → j < length conductors
linked_inside conductors i j link = elim link [ inl touch ↦ touch.second | inr rest ↦ elim rest [ inl share ↦ share.second | inr tied ↦ tied.second ] ]

-- all pairs behind one another
pub linked_spans : (conductors : List FlatConductor) (touching names ties : List (ℕ × ℕ))
    → Spans (AtPlaces AreTouching conductors) (length conductors) touching → Spans (AtPlaces ShareName conductors) (length conductors) names → Spans (AtPlaces AreTied conductors) (length conductors) ties
    → Spans (Linked conductors) (length conductors) ((touching ++ names) ++ ties)
linked_spans conductors touching names ties touch shares tied =
    let count = length conductors in
    let rest = spans_either (AtPlaces ShareName conductors) (AtPlaces AreTied conductors) count names ties shares tied in
    let all = spans_either (AtPlaces AreTouching conductors) (Either (AtPlaces ShareName conductors) (AtPlaces AreTied conductors)) count touching (names ++ ties) touch rest in
    subst (λ (ps : List (ℕ × ℕ)). Spans (Linked conductors) count ps) (sym (append_assoc touching names ties)) all

-- have the classes of what is linked
pub linked_classes : (conductors : List FlatConductor) (pairs : List (ℕ × ℕ)) (labels : List ℕ) → Spans (Linked conductors) (length conductors) pairs
    → AreClasses (ArePaired pairs) (length conductors) labels → AreClasses (Linked conductors) (length conductors) labels
linked_classes conductors pairs labels spans are = spanned_classes (Linked conductors) pairs (length conductors) labels (linked_inside conductors) spans are
