-- Trees of places, while ways up are halved and trees are joined.
use Rattle.std.proofs.Common.{◌≡◌, ◌≢◌, ◌⊎◌, ℕ, zero, suc, ◌<◌, ◌≤◌, List, [], ◌∷◌, ◌++◌, length, get_or, get_or-set_other, get_or-set_same, refl, sym, ap, subst, ◌∙◌, arith, inl, inr}
use Rattle.std.proofs.Math.ListN.{set, length-set}
use Rattle.std.proofs.lemmas.Bool.{cases_eq}
use Rattle.geda_defs.specs.Classes.{Chain, Joined, AreClasses}
use Rattle.std.specs.Prelude.{Contains}
use Rattle.std.proofs.lemmas.List.Elements.{All-contains, Contains-append_left, Contains-append_right, Contains-append_cases, Contains-push, Contains-push_cases}
use Rattle.pair_classes.specs.Pairs.{ArePaired, AreWithin}
use Rattle.pair_classes.specs.steps.Unions.{IsForest, IsTop, IsParent, LeadsUp, AreAbove, AreJoined, Labels, KeepsLabels, StandAtThemselves, AreUnionsOf}
use Rattle.pair_classes.proofs.LabelLemmas.{joined_by, joined_then, joined_of, joined_keeps, joined_back, joined_self, are_classes}

-- a fact of a list that is written at one place: of that place, and of the others
pub at_set : (P : ℕ → ℕ → Type 0) (xs : List ℕ) (at value k : ℕ) → at < length xs → P at value → (at ≢ k → P k (get_or xs k 0)) → P k (get_or (set xs at value) k 0)
at_set P xs at value k h here there = elim (cases_eq at k) [
  | inl e ↦ subst (λ (x : ℕ). P x (get_or (set xs at value) x 0)) e (rw (get_or-set_same xs at value 0 h) here)
  | inr ne ↦ rw (get_or-set_other xs at k value 0 (λ e. ne (sym e))) (there ne)
]

-- a parent may be lowered
pub forest_set : (parents : List ℕ) (at parent : ℕ) → IsForest parents → at < length parents → parent ≤ at → IsForest (set parents at parent)
forest_set parents at parent forest h low k inside =
    let len = length-set parents at parent in
    at_set (λ (k p : ℕ). p ≤ k) parents at parent k h low (λ _. forest k (omega arith))

-- from a top every way up stays there
stays : (parents : List ℕ) (k n j : ℕ) → get_or parents k 0 ≡ k → Chain (IsParent parents) k n j → j ≡ k
stays parents k zero j own e = sym e
stays parents k (suc n) j own c =
    let before : c.0 ≡ k = stays parents k n c.0 own c.1 in
    c.2.is ∙ ap (λ (x : ℕ). get_or parents x 0) before ∙ own

-- so a top stays a top, when parents are raised
pub top_stays : (old new : List ℕ) (k : ℕ) → length new ≡ length old → IsTop old k → AreAbove old new → IsTop new k
top_stays old new k len top above =
    let way = above k top.within in
    record { within = omega (arith, top.within); own = stays old k way.0 (get_or new k 0) top.own way.1 }

-- a labelling gives the same label all the way up
pub label_above : (f : ℕ → ℕ) (parents : List ℕ) (i j : ℕ) → Labels f parents → LeadsUp parents i j → f i ≡ f j
label_above f parents i j labels way =
    joined_keeps (IsParent parents) f (λ a b p. labels a p.within ∙ ap f (sym p.is)) i j way

-- a way up is a chain of links, where each parent is joined
pub joined_above : (R : ℕ → ℕ → Type 0) (parents : List ℕ) (i j : ℕ) → AreJoined R parents → LeadsUp parents i j → Joined R i j
joined_above R parents i j joined way =
    joined_of (IsParent parents) R (λ a b p. subst (λ (x : ℕ). Joined R a x) (sym p.is) (joined a p.within)) i j way

-- when parents are raised, each is joined still
pub joined_raised : (R : ℕ → ℕ → Type 0) (old new : List ℕ) → length new ≡ length old → AreJoined R old → AreAbove old new → AreJoined R new
joined_raised R old new len joined above k h = joined_above R old k (get_or new k 0) joined (above k (omega arith))

-- a parent is raised to its own parent: it stands on the old way up
pub above_set : (old parents : List ℕ) (at parent : ℕ) → length parents ≡ length old → at < length parents → AreAbove old parents → LeadsUp old at parent → AreAbove old (set parents at parent)
above_set old parents at parent len h above way k inside =
    at_set (λ (k p : ℕ). LeadsUp old k p) parents at parent k h way (λ _. above k inside)

-- and what labels the new trees labels the old ones, since the place's old parent has the same parent
pub labels_halved : (parents : List ℕ) (at : ℕ) → IsForest parents → at < length parents → get_or parents at 0 < at
    → KeepsLabels parents (set parents at (get_or parents (get_or parents at 0) 0))
labels_halved parents at forest h moved f labels k inside =
    let parent = get_or parents at 0 in
    let grand = get_or parents parent 0 in
    let len = length-set parents at grand in
    let apart : parent ≢ at = omega arith in
    let of_parent : f parent ≡ f grand = labels parent (omega arith) ∙ ap f (get_or-set_other parents at parent grand 0 apart) in
    elim (cases_eq k at) [
      | inl e ↦ rw e (labels at (omega arith) ∙ ap f (get_or-set_same parents at grand 0 h) ∙ sym of_parent)
      | inr ne ↦ labels k (omega arith) ∙ ap f (get_or-set_other parents at k grand 0 ne)
    ]

-- what labels the trees after a top was put below a place labels them before
pub labels_joined : (parents : List ℕ) (at parent : ℕ) → IsTop parents at → KeepsLabels parents (set parents at parent)
labels_joined parents at parent top f labels k inside =
    let len = length-set parents at parent in
    elim (cases_eq k at) [
      | inl e ↦ rw e (ap f (sym top.own))
      | inr ne ↦ labels k (omega arith) ∙ ap f (get_or-set_other parents at k parent 0 ne)
    ]

-- the parent of a parent stands on the old way up
pub up_twice : (old parents : List ℕ) (k : ℕ) → length parents ≡ length old → AreAbove old parents → k < length parents → get_or parents k 0 < length parents
    → LeadsUp old k (get_or parents (get_or parents k 0) 0)
up_twice old parents k len above h g =
    joined_then (IsParent old) k (get_or parents k 0) (get_or parents (get_or parents k 0) 0) (above k (omega arith)) (above (get_or parents k 0) (omega arith))

-- below the place that is written, a place keeps its parent and its old parent keeps its own
pub flat_below : (old parents : List ℕ) (at value k : ℕ) → get_or old k 0 ≤ k → k < at → get_or parents k 0 ≡ get_or parents (get_or old k 0) 0
    → get_or (set parents at value) k 0 ≡ get_or (set parents at value) (get_or old k 0) 0
flat_below old parents at value k low lt done =
    get_or-set_other parents at k value 0 (omega arith) ∙ done ∙ sym (get_or-set_other parents at (get_or old k 0) value 0 (omega arith))

-- the place that is written has the parent of its old parent
pub flat_at : (old parents : List ℕ) (at : ℕ) → at < length parents → get_or old at 0 ≤ at → get_or parents at 0 ≡ get_or old at 0
    → get_or (set parents at (get_or parents (get_or parents at 0) 0)) at 0 ≡ get_or (set parents at (get_or parents (get_or parents at 0) 0)) (get_or old at 0) 0
flat_at old parents at h low same =
    let next = get_or parents (get_or parents at 0) 0 in
    elim (cases_eq (get_or old at 0) at) [
      | inl e ↦ rw e refl
      | inr ne ↦ get_or-set_same parents at next 0 h ∙ ap (λ (x : ℕ). get_or parents x 0) same ∙ sym (get_or-set_other parents at (get_or old at 0) next 0 ne)
    ]

-- a top is put below a place to which it is joined
pub joined_set : (R : ℕ → ℕ → Type 0) (parents : List ℕ) (at parent : ℕ) → at < length parents → AreJoined R parents → Joined R at parent → AreJoined R (set parents at parent)
joined_set R parents at parent h joined there k inside =
    let len = length-set parents at parent in
    at_set (λ (k p : ℕ). Joined R k p) parents at parent k h there (λ _. joined k (omega arith))

-- ties go both ways
pub tied_turn : (pairs : List (ℕ × ℕ)) (i j : ℕ) → ArePaired pairs i j → ArePaired pairs j i
tied_turn pairs i j tied = elim tied [ inl c ↦ inr c | inr c ↦ inl c ]

-- what labels two trees labels two tied places the same, once one top stands below the other
pub same_tops : (f : ℕ → ℕ) (old mid new : List ℕ) (i j a b : ℕ) → KeepsLabels old mid → KeepsLabels mid new → LeadsUp old i a → LeadsUp mid j b
    → Labels f new → f a ≡ f b → f i ≡ f j
same_tops f old mid new i j a b first second up over labels same =
    let of_mid = second f labels in
    label_above f old i a (first f of_mid) up ∙ same ∙ sym (label_above f mid j b of_mid over)

-- the tops of two linked places are joined
pub joined_tops : (R : ℕ → ℕ → Type 0) (old mid : List ℕ) (i j a b : ℕ) → ((i j : ℕ) → R i j → R j i) → AreJoined R old → AreJoined R mid
    → LeadsUp old i a → LeadsUp mid j b → R i j → Joined R a b
joined_tops R old mid i j a b turn first second up over r =
    joined_then R a i b (joined_back R turn i a (joined_above R old i a first up))
    (joined_then R i j b (joined_by R i j r) (joined_above R mid j b second over))

-- a written parent is the label of its place
pub label_written : (f : ℕ → ℕ) (parents : List ℕ) (at parent : ℕ) → at < length parents → Labels f (set parents at parent) → f at ≡ f parent
label_written f parents at parent h labels =
    let len = length-set parents at parent in
    labels at (omega arith) ∙ ap f (get_or-set_same parents at parent 0 h)

-- tied places are below the count
pub tied_inside : (count : ℕ) (pairs : List (ℕ × ℕ)) → AreWithin count pairs → (i j : ℕ) → ArePaired pairs i j → j < count
tied_inside count pairs within i j tied =
    elim tied [ inl c ↦ (All-contains (λ p. (p.0 < count) × (p.1 < count)) pairs (i, j) within c).1 | inr c ↦ (All-contains (λ p. (p.0 < count) × (p.1 < count)) pairs (j, i) within c).0 ]

-- what is tied by pairs is tied by more pairs
pub tied_left : (ps qs : List (ℕ × ℕ)) (i j : ℕ) → ArePaired ps i j → ArePaired (ps ++ qs) i j
tied_left ps qs i j tied =
    elim tied [ inl c ↦ inl (Contains-append_left ps qs (i, j) c) | inr c ↦ inr (Contains-append_left ps qs (j, i) c) ]

pub tied_right : (ps qs : List (ℕ × ℕ)) (i j : ℕ) → ArePaired qs i j → ArePaired (ps ++ qs) i j
tied_right ps qs i j tied =
    elim tied [ inl c ↦ inl (Contains-append_right ps qs (i, j) c) | inr c ↦ inr (Contains-append_right ps qs (j, i) c) ]

pub tied_append : (ps qs : List (ℕ × ℕ)) (i j : ℕ) → ArePaired (ps ++ qs) i j → ArePaired ps i j ⊎ ArePaired qs i j
tied_append ps qs i j tied = elim tied [
  | inl c ↦ elim (Contains-append_cases ps qs (i, j) c) [ inl a ↦ inl (inl a) | inr b ↦ inr (inl b) ]
  | inr c ↦ elim (Contains-append_cases ps qs (j, i) c) [ inl a ↦ inl (inr a) | inr b ↦ inr (inr b) ]
]

-- trees of one place each are the unions of no pairs
pub forest_apart : (parents : List ℕ) → StandAtThemselves parents → IsForest parents
forest_apart parents apart k h = let e = apart k h in omega (arith, e)

pub unions_apart : (parents : List ℕ) → StandAtThemselves parents → AreUnionsOf [] parents
unions_apart parents apart = record {
  joined = λ k h. subst (λ (x : ℕ). Joined (ArePaired []) k x) (sym (apart k h)) (joined_self (ArePaired []) k);
  tied = λ f labels i j tied. elim tied [ inl c ↦ none_tied i j c | inr c ↦ none_tied j i c ];
}
  where
    none_tied : {P : Type 0} (i j : ℕ) → Contains {X = ℕ × ℕ} [] (i, j) → P
    none_tied i j c = absurd (let h = c.1 in omega arith)

-- unions of pairs, once two more places are united
pub unions_more : (pairs : List (ℕ × ℕ)) (old new : List ℕ) (first second : ℕ)
    → ((ps : List (ℕ × ℕ)) → ArePaired ps first second → AreJoined (ArePaired ps) old → AreJoined (ArePaired ps) new)
    → KeepsLabels old new → ((f : ℕ → ℕ) → Labels f new → f first ≡ f second)
    → AreUnionsOf pairs old → AreUnionsOf (pairs ++ (first, second) ∷ []) new
unions_more pairs old new first second joined same tied unions = record {
  joined = joined all (inl (Contains-push pairs (first, second))) (λ k h. joined_of (ArePaired pairs) (ArePaired all)
      (λ a b t. joined_by (ArePaired all) a b (tied_left pairs ((first, second) ∷ []) a b t)) k (get_or old k 0) (unions.joined k h));
  tied = λ f labels i j t. elim (tied_append pairs ((first, second) ∷ []) i j t) [
    | inl before ↦ unions.tied f (same f labels) i j before
    | inr now ↦ elim now [
      | inl c ↦ of_pair f i j labels c
      | inr c ↦ sym (of_pair f j i labels c)
    ]
  ];
}
  where
    all : List (ℕ × ℕ)
    all = pairs ++ (first, second) ∷ []

    of_pair : (f : ℕ → ℕ) (i j : ℕ) → Labels f new → Contains {X = ℕ × ℕ} ((first, second) ∷ []) (i, j) → f i ≡ f j
    of_pair f i j labels c = elim (Contains-push_cases [] (first, second) (i, j) c) [
      | inl none ↦ absurd (let h = none.1 in omega arith)
      | inr e ↦ subst (λ (p : ℕ × ℕ). f p.0 ≡ f p.1) e (tied f labels)
    ]

-- the tops of unions are the labels of their classes
pub unions_flat : (pairs : List (ℕ × ℕ)) (count : ℕ) (parents labels : List ℕ) → length parents ≡ count → length labels ≡ count → AreWithin count pairs
    → AreUnionsOf pairs parents → IsForest labels → AreAbove parents labels → Labels (λ k. get_or labels k 0) parents → AreClasses (ArePaired pairs) count labels
unions_flat pairs count parents labels first second within unions forest above flat =
    are_classes (ArePaired pairs) count labels second
    (tied_inside count pairs within)
    (λ i lt. joined_above (ArePaired pairs) parents i (get_or labels i 0) unions.joined (above i (omega arith)))
    (λ i lt. forest i (omega arith))
    (unions.tied (λ k. get_or labels k 0) flat)
