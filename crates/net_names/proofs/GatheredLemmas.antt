-- Classes that were gathered: places that are there, and what is known of each label.
use Rattle.std.proofs.Common.{◌≡◌, ℕ, zero, suc, ◌+◌, ◌<◌, ◌==◌, Bool, true, false, cond, List, [], ◌∷◌, ◌++◌, length, map, get_or, take, Option, Some, None, refl, sym, ap, subst, ◌∙◌, arith}
use Rattle.std.specs.Prelude.{All, slice_get, slice_index}
use Rattle.std.specs.Option.{option_to_list}
use Rattle.std.specs.List.{AllByRecursion, cons_option, list_any}
use Rattle.std.proofs.lemmas.List.{length-map}
use Rattle.std.proofs.lemmas.List.Elements.{All-from_recursion, All-get_or, recursion_from_All}
use Rattle.rank_order.specs.Chains.{AreChains}
use Rattle.rank_order.specs.Classes.{met, met_after}
use Rattle.rank_order.proofs.KeyLemmas.{met_map}
use Rattle.rank_order.proofs.OrderLemmas.{all_append, all_moved}
use Rattle.flat_rows.specs.Conductors.{FlatConductor}
use Rattle.flat_rows.specs.Keyed.{Keyed, keyed_at, keyed_from}
use Rattle.flat_rows.specs.Rows.{member_of, row_of}
use Rattle.flat_rows.specs.declared.rows.RowMember.{RowMember}
use Rattle.net_list.specs.declared.member.Member.{Member}
use Rattle.net_list.specs.declared.package.Package.{Package}
use Rattle.net_names.specs.NetClasses.{ClassPinData, labelled_from, net_class_of}
use Rattle.net_names.specs.declared.net_classes.NetClasses.{NetClasses}
use Rattle.net_names.specs.steps.Classes.{AreOrdered, IsGathered, pins_by}
use Rattle.net_names.specs.steps.Gathering.{GrowingClassData, IsGrown, empty_class, grown}
use Rattle.net_names.specs.steps.Pins.{at_places, label_of, labels_at, pins_in_order, pins_of, placed_pin}
use Rattle.net_names.proofs.GatheringLemmas.{grown_length, grown_told}
use Rattle.net_names.proofs.OrderedLemmas.{pins_placed, places_there}
use Rattle.net_names.proofs.PinLemmas.{length_at}

-- the places of keys are those of conductors
keyed_within : {K : Type 0} (keys : FlatConductor → List K) (s : ℕ) (cs : List FlatConductor) → AllByRecursion (λ k. k.1 < s + length cs) (keyed_from keys s cs)
keyed_within keys s [] = tt
keyed_within {K} keys s (c ∷ cs) =
    all_append (λ k. k.1 < s + suc (length cs)) (keyed_at s (keys c)) (keyed_from keys (s + 1) cs) (own (keys c))
    (all_moved (λ k. k.1 < (s + 1) + length cs) (λ k. k.1 < s + suc (length cs)) (λ k h. omega (arith, h)) (keyed_from keys (s + 1) cs) (keyed_within keys (s + 1) cs))
  where
    own : (ks : List K) → AllByRecursion (λ k. k.1 < s + suc (length cs)) (keyed_at s ks)
    own [] = tt
    own (k ∷ ks) = (omega arith, own ks)

within : {K : Type 0} (keys : FlatConductor → List K) (cs : List FlatConductor) → AllByRecursion (λ k. k.1 < length cs) (keyed_from keys 0 cs)
within keys cs = all_moved (λ k. k.1 < 0 + length cs) (λ k. k.1 < length cs) (λ k h. omega (arith, h)) (keyed_from keys 0 cs) (keyed_within keys 0 cs)

pub keys_within : {K : Type 0} (keys : FlatConductor → List K) (cs : List FlatConductor) → All (λ k. k.1 < length cs) (keyed_from keys 0 cs)
keys_within keys cs = All-from_recursion (λ k. k.1 < length cs) (keyed_from keys 0 cs) (within keys cs)

all_unmapped : {X Y : Type 0} (P : Y → Type 0) (f : X → Y) (xs : List X) → AllByRecursion P (map f xs) → AllByRecursion (λ x. P (f x)) xs
all_unmapped P f [] a = tt
all_unmapped P f (x ∷ xs) a = (a.0, all_unmapped P f xs a.1)

-- members stand at places of conductors
pub members_within : (parts : List Package) (members : List (Keyed RowMember)) (conductors : List FlatConductor)
    → map (λ m. (member_of parts m.0, m.1)) members ≡ keyed_from (λ c. option_to_list c.member) 0 conductors → All (λ m. m.1 < length conductors) members
members_within parts members conductors told =
    let place : Keyed RowMember → Keyed Member = λ m. (member_of parts m.0, m.1) in
    let within = recursion_from_All (λ k. k.1 < length conductors) (keyed_from (λ c. option_to_list c.member) 0 conductors) (keys_within (λ c. option_to_list c.member) conductors) in
    All-from_recursion (λ m. m.1 < length conductors) members
    (all_unmapped (λ k. k.1 < length conductors) place members (subst (λ (ks : List (Keyed Member)). AllByRecursion (λ k. k.1 < length conductors) ks) (sym told) within))

all_placed : (n : ℕ) (ks : List (Keyed Member)) → AllByRecursion (λ k. k.1 < n) ks → AllByRecursion (λ p. p.place < n) (map placed_pin ks)
all_placed n [] a = tt
all_placed n (k ∷ ks) a = (a.0, all_placed n ks a.1)

pub pins_within : (cs : List FlatConductor) → All (λ p. p.place < length cs) (pins_of cs)
pins_within cs = All-from_recursion (λ p. p.place < length cs) (pins_of cs) (all_placed (length cs) (keyed_from (λ c. option_to_list c.member) 0 cs) (within (λ c. option_to_list c.member) cs))

one_kept : {A : Type 0} (P : A → Type 0) (xs : List A) (i : ℕ) (x : A) → AllByRecursion P xs → slice_get xs i ≡ Some x → P x
one_kept P [] i x a e = absurd cc
one_kept P (y ∷ xs) zero x a e = let same : y ≡ x = cc in subst P same a.0
one_kept P (y ∷ xs) (suc i) x a e = one_kept P xs i x a.1 e

all_kept : {A : Type 0} (P : A → Type 0) (xs : List A) (places : List ℕ) → AllByRecursion P xs → AllByRecursion P (at_places xs places)
all_kept P xs [] a = tt
all_kept {A} P xs (p ∷ ps) a = by (slice_get xs p) refl (all_kept P xs ps a)
  where
    by : (o : Option A) → slice_get xs p ≡ o → AllByRecursion P (at_places xs ps) → AllByRecursion P (cons_option (slice_get xs p) (at_places xs ps))
    by None e rest = subst (λ (o : Option A). AllByRecursion P (cons_option o (at_places xs ps))) (sym e) rest
    by (Some x) e rest = subst (λ (o : Option A). AllByRecursion P (cons_option o (at_places xs ps))) (sym e) (one_kept P xs p x a e, rest)

-- the label of one pin more
pub labels_more : (pins : List ClassPinData) (places labels : List ℕ) (at : ℕ) (x : ClassPinData) → at < length places → slice_get pins (get_or places at 0) ≡ Some x
    → labels_at pins (take (at + 1) places) labels ≡ labels_at pins (take at places) labels ++ label_of labels x ∷ []
labels_more pins [] labels at x h e = absurd (omega (arith, h))
labels_more pins (p ∷ ps) labels zero x h e = ap (λ (o : Option ClassPinData). map (label_of labels) (cons_option o [])) e
labels_more pins (p ∷ ps) labels (suc k) x h e =
    ap (λ (n : ℕ). labels_at pins (take n (p ∷ ps)) labels) (let f : suc k + 1 ≡ suc (k + 1) = omega arith in f)
    ∙ by (slice_get pins p) (labels_more pins ps labels k x (omega (arith, h)) e)
  where
    by : (o : Option ClassPinData) → labels_at pins (take (k + 1) ps) labels ≡ labels_at pins (take k ps) labels ++ label_of labels x ∷ []
        → map (label_of labels) (cons_option o (at_places pins (take (k + 1) ps))) ≡ map (label_of labels) (cons_option o (at_places pins (take k ps))) ++ label_of labels x ∷ []
    by None g = g
    by (Some y) g = ap (λ (ls : List ℕ). label_of labels y ∷ ls) g

-- the labels of pins are below what all labels are below
pub labels_below : (n : ℕ) (pins : List ClassPinData) (places labels : List ℕ) → All (λ p. p.place < length labels) pins → All (λ l. l < n) labels → All (λ l. l < n) (labels_at pins places labels)
labels_below n pins places labels inside below = All-from_recursion (λ l. l < n) (labels_at pins places labels) (go (at_places pins places) (all_kept (λ p. p.place < length labels) pins places (recursion_from_All (λ p. p.place < length labels) pins inside)))
  where
    go : (ps : List ClassPinData) → AllByRecursion (λ p. p.place < length labels) ps → AllByRecursion (λ l. l < n) (map (label_of labels) ps)
    go [] a = tt
    go (p ∷ ps) a = (All-get_or (λ l. l < n) labels p.place 0 a.0 below, go ps a.1)

all_met : (P : ℕ → Type 0) (seen ls : List ℕ) → AllByRecursion P ls → AllByRecursion P (met_after (λ l. l) seen ls)
all_met P seen [] a = tt
all_met P seen (l ∷ ls) a = by (list_any (λ s. l == s) seen) (all_met P seen ls a.1) (all_met P (l ∷ seen) ls a.1)
  where
    by : (b : Bool) → AllByRecursion P (met_after (λ l. l) seen ls) → AllByRecursion P (met_after (λ l. l) (l ∷ seen) ls) → AllByRecursion P (cond b (met_after (λ l. l) seen ls) (l ∷ met_after (λ l. l) (l ∷ seen) ls))
    by true f g = f
    by false f g = (a.0, g)

pub met_below : (n : ℕ) (ls : List ℕ) → All (λ l. l < n) ls → All (λ l. l < n) (met (λ l. l) ls)
met_below n ls a = All-from_recursion (λ l. l < n) (met (λ l. l) ls) (all_met (λ l. l < n) [] ls (recursion_from_All (λ l. l < n) ls a))

pub rows_count : (cs : List FlatConductor) → length (map row_of cs) ≡ length cs
rows_count cs = length-map cs row_of

-- what was made of conductors is gathered of them
pub gathered : (conductors : List FlatConductor) (labels : List ℕ) (c : NetClasses) (pin_labels : List ℕ) → length labels ≡ length conductors → All (λ l. l < length conductors) labels
    → AreOrdered conductors c.ordered → pin_labels ≡ labels_at (pins_by c.ordered) c.ordered.places.items labels
    → AreChains pin_labels (length labels) c.chains.heads.items c.chains.nexts.items → c.met.items ≡ met (λ l. l) pin_labels
    → c.growing.items ≡ grown (map row_of conductors) (keyed_from (λ c. c.global_names) 0 conductors) (keyed_from (λ c. c.drawn_names) 0 conductors) labels
    → IsGathered conductors labels c
gathered conductors labels c pin_labels len below ordered told chains seen grows =
    let pins = pins_by c.ordered in
    let places = c.ordered.places.items in
    let are : pin_labels ≡ map (label_of labels) (pins_in_order conductors) = told ∙ ap (map (label_of labels)) ordered.order in
    let count : length c.growing.items ≡ length conductors = ap length grows ∙ grown_length conductors labels len in
    let inside : All (λ p. p.place < length labels) pins = pins_placed c.ordered (length labels) (subst (λ (n : ℕ). All (λ m. m.1 < n) c.ordered.members.now) (sym len) ordered.pins) in
    let all_below : All (λ l. l < length conductors) (met (λ l. l) pin_labels) = met_below (length conductors) pin_labels (subst (λ (ls : List ℕ). All (λ l. l < length conductors) ls) (sym told) (labels_below (length conductors) pins places labels inside below)) in
    record {
      labels_len = len;
      ordered = ordered;
      whole = record {
        ranked = ordered.ranked;
        order = record {
          inside = ordered.places;
          len = chains.all_places ∙ ap length told ∙ length-map (at_places pins places) (label_of labels) ∙ length_at pins places (places_there c.ordered places ordered.places);
          rises = chains.rises;
        };
        heads = chains.all_ranks ∙ len ∙ sym count;
        met = subst (λ (n : ℕ). All (λ l. l < n) c.met.items) (sym count) (subst (λ (ls : List ℕ). All (λ l. l < length conductors) ls) (sym seen) all_below);
      };
      chains = subst (λ (n : ℕ). AreChains (map (label_of labels) (pins_in_order conductors)) n c.chains.heads.items c.chains.nexts.items) len (subst (λ (ls : List ℕ). AreChains ls (length labels) c.chains.heads.items c.chains.nexts.items) are chains);
      met = seen ∙ ap (met (λ l. l)) are ∙ met_map (label_of labels) (pins_in_order conductors);
      len = count;
      grown = λ r h. subst (λ (gs : List GrowingClassData). IsGrown (get_or gs r empty_class) (net_class_of (labelled_from 0 conductors labels) r)) (sym grows) (grown_told conductors labels len r h);
    }

any_default : (xs : List ℕ) (k d : ℕ) → k < length xs → get_or xs k 0 ≡ get_or xs k d
any_default [] k d h = absurd (omega (arith, h))
any_default (x ∷ xs) zero d h = refl
any_default (x ∷ xs) (suc k) d h = any_default xs k d (omega (arith, h))

-- what is below a count at each place is below it
pub labels_all : (n : ℕ) (xs : List ℕ) → ((i : ℕ) → i < length xs → slice_index xs i < n) → All (λ x. x < n) xs
labels_all n xs h = λ k d lt. subst (λ (y : ℕ). y < n) (any_default xs k d lt) (h k lt)
