-- Pins at places that stand in order, and along the chain of a class.
use Rattle.std.proofs.Common.{◌≡◌, ℕ, zero, suc, ◌+◌, ◌<◌, ◌≤◌, ◌==◌, Bool, true, false, cond, List, [], ◌∷◌, ◌++◌, length, map, get_or, Option, Some, None, Ordering, refl, sym, ap, subst, ◌∙◌, arith}
use Rattle.std.specs.Prelude.{All, filter, slice_get, slice_index}
use Rattle.std.specs.declared.cmp.Ordering.TheVariants.{Less, Equal, Greater}
use Rattle.std.specs.Ordering.{eq_by_cmp, is_eq, nat_cmp, ordering_then}
use Rattle.std.specs.Option.{option_cmp, option_to_list}
use Rattle.std.specs.List.{cons_option, dedup, dedup_from, filter_map, AllByRecursion}
use Rattle.std.specs.List.Sorted.{IsStrictlySortedBy}
use Rattle.std.specs.Cmp.{IsTotalOrder, tied_itself}
use Rattle.std.proofs.lemmas.List.{get_or-map, length-map}
use Rattle.std.proofs.lemmas.List.Elements.{All-from_recursion, All-get_or, recursion_from_All}
use Rattle.geda_defs.specs.Order.{by_bytes, once_in_order}
use Rattle.geda_defs.proofs.OnceLaws.{same_side}
use Rattle.rank_order.specs.Chains.{IsWalk}
use Rattle.rank_order.specs.Keys.{AreRanks}
use Rattle.rank_order.specs.Ranks.{in_order, places_from}
use Rattle.rank_order.proofs.KeyLemmas.{key_at, rising_compares}
use Rattle.rank_order.proofs.MemberLemmas.{order_inside, ranked_in_order}
use Rattle.rank_order.proofs.RankedKeys.{rank_below, ranks_compare}
use Rattle.flat_rows.specs.Conductors.{FlatConductor}
use Rattle.flat_rows.specs.Keyed.{Keyed, keyed_from}
use Rattle.flat_rows.specs.Rows.{member_of}
use Rattle.flat_rows.specs.declared.rows.RowMember.{RowMember}
use Rattle.net_list.specs.declared.member.Member.{Member}
use Rattle.net_list.specs.declared.package.Package.{Package}
use Rattle.net_names.specs.NetClasses.{ClassPinData, by_pin}
use Rattle.net_names.specs.steps.Orders.{by_bytes_total}
use Rattle.net_names.specs.steps.Classes.{new_at, news, walk_pins}
use Rattle.net_names.specs.steps.Pins.{at_places, by_number, pin_in, pins_in_order, pins_of, placed_pin, ranks_of_pins}
use Rattle.net_names.proofs.RankedNets.{by_place, by_place_total, pins_are, pins_rise}

-- at places that are there, what stands there is read
at_inside : {A : Type 0} (d : A) (xs : List A) (places : List ℕ) → AllByRecursion (λ p. p < length xs) places → at_places xs places ≡ map (λ i. get_or xs i d) places
at_inside d xs [] a = refl
at_inside {A} d xs (p ∷ ps) a = ap (λ (x : Option A). cons_option x (filter_map (slice_get xs) ps)) (key_at xs p d a.0) ∙ ap (λ (ys : List A). get_or xs p d ∷ ys) (at_inside d xs ps a.1)

-- and what stands at one of them
at_one : {A : Type 0} (xs : List A) (places : List ℕ) (k : ℕ) → AllByRecursion (λ p. p < length xs) places → k < length places → slice_get (at_places xs places) k ≡ slice_get xs (get_or places k 0)
at_one xs [] k a h = absurd (omega (arith, h))
at_one {A} xs (p ∷ ps) k a h = by (slice_get xs p) refl (λ k h. at_one xs ps k a.1 h)
  where
    there : (ys : List A) (i : ℕ) → i < length ys → slice_get ys i ≡ None → ⊥
    there [] i h e = omega (arith, h)
    there (y ∷ ys) zero h e = cc
    there (y ∷ ys) (suc i) h e = there ys i (omega (arith, h)) e

    at : ((k : ℕ) → k < length ps → slice_get (at_places xs ps) k ≡ slice_get xs (get_or ps k 0)) → (k : ℕ) → k < length (p ∷ ps) → (x : A) → slice_get xs p ≡ Some x → slice_get (x ∷ at_places xs ps) k ≡ slice_get xs (get_or (p ∷ ps) k 0)
    at rest zero h x e = sym e
    at rest (suc k) h x e = rest k (omega (arith, h))

    by : (o : Option A) → slice_get xs p ≡ o → ((k : ℕ) → k < length ps → slice_get (at_places xs ps) k ≡ slice_get xs (get_or ps k 0)) → slice_get (cons_option (slice_get xs p) (at_places xs ps)) k ≡ slice_get xs (get_or (p ∷ ps) k 0)
    by None e rest = absurd (there xs p a.0 e)
    by (Some x) e rest = ap (λ (o : Option A). slice_get (cons_option o (at_places xs ps)) k) e ∙ at rest k h x e

length_inside : {A : Type 0} (xs : List A) (places : List ℕ) → AllByRecursion (λ p. p < length xs) places → length (at_places xs places) ≡ length places
length_inside xs [] a = refl
length_inside {A} xs (p ∷ ps) a = by (slice_get xs p) refl (length_inside xs ps a.1)
  where
    there : (ys : List A) (i : ℕ) → i < length ys → slice_get ys i ≡ None → ⊥
    there [] i h e = omega (arith, h)
    there (y ∷ ys) zero h e = cc
    there (y ∷ ys) (suc i) h e = there ys i (omega (arith, h)) e

    by : (o : Option A) → slice_get xs p ≡ o → length (at_places xs ps) ≡ length ps → length (cons_option (slice_get xs p) (at_places xs ps)) ≡ suc (length ps)
    by None e rest = absurd (there xs p a.0 e)
    by (Some x) e rest = ap (λ (o : Option A). length (cons_option o (at_places xs ps))) e ∙ ap suc rest

pub length_at : {A : Type 0} (xs : List A) (places : List ℕ) → All (λ p. p < length xs) places → length (at_places xs places) ≡ length places
length_at xs places a = length_inside xs places (recursion_from_All (λ p. p < length xs) places a)

-- along the chain of a label stand the members with that label
chain_from : {A : Type 0} (label : A → ℕ) (r s : ℕ) (f : ℕ → Option A) (xs : List A) → ((j k : ℕ) → j < length xs → k ≡ s + j → f k ≡ slice_get xs j)
    → filter_map f (places_from s (map label xs) r) ≡ filter (λ x. label x == r) xs
chain_from label r s f [] h = refl
chain_from {A} label r s f (x ∷ xs) h = by (label x == r) (chain_from label r (s + 1) f xs (λ j k lt e. h (suc j) k (omega (arith, lt)) (omega (arith, e))))
  where
    own : f s ≡ Some x
    own = h 0 s (omega arith) (omega arith)

    by : (b : Bool) → filter_map f (places_from (s + 1) (map label xs) r) ≡ filter (λ x. label x == r) xs
        → filter_map f (cond b (s ∷ places_from (s + 1) (map label xs) r) (places_from (s + 1) (map label xs) r)) ≡ cond b (x ∷ filter (λ x. label x == r) xs) (filter (λ x. label x == r) xs)
    by true g = ap (λ (o : Option A). cons_option o (filter_map f (places_from (s + 1) (map label xs) r))) own ∙ ap (λ (ys : List A). x ∷ ys) g
    by false g = g

pub chain_pins : (label : ClassPinData → ℕ) (r : ℕ) (pins : List ClassPinData) (places : List ℕ) → All (λ p. p < length pins) places
    → walk_pins pins places (places_from 0 (map label (at_places pins places)) r) ≡ filter (λ p. label p == r) (at_places pins places)
chain_pins label r pins places inside =
    let a = recursion_from_All (λ p. p < length pins) places inside in
    chain_from label r 0 (λ k. slice_get pins (slice_index places k)) (at_places pins places)
    (λ j k lt e. ap (λ (i : ℕ). slice_get pins (slice_index places i)) (let f : k ≡ j = omega (arith, e) in f)
    ∙ sym (at_one pins places j a (omega (arith, lt, length_inside pins places a))))

-- what is new beside the one before it is what is left without repetitions
module _ {A : Type 0} {cmp : A → A → Ordering} (o : IsTotalOrder cmp) where
  abbrev same : A → A → Bool
  same = eq_by_cmp cmp

  news_from : (last k : A) (xs : List A) → cmp last k ≡ Equal → k ∷ news same (Some last) xs ≡ dedup_from same k xs
  news_from last k [] e = refl
  news_from last k (x ∷ xs) e = ap (λ (b : Bool). k ∷ cond b [] (x ∷ []) ++ news same (Some x) xs) (ap is_eq (same_side o x last k e)) ∙ by (cmp x k) refl (news_from x k xs) (news_from x x xs (tied_itself o x))
    where
      by : (r : Ordering) → cmp x k ≡ r → (cmp x k ≡ Equal → k ∷ news same (Some x) xs ≡ dedup_from same k xs) → x ∷ news same (Some x) xs ≡ dedup_from same x xs
          → k ∷ cond (is_eq r) [] (x ∷ []) ++ news same (Some x) xs ≡ cond (is_eq r) (dedup_from same k xs) (k ∷ dedup_from same x xs)
      by Equal f g h = g f
      by Less f g h = ap (λ (ys : List A). k ∷ ys) h
      by Greater f g h = ap (λ (ys : List A). k ∷ ys) h

  pub news_are : (xs : List A) → news same None xs ≡ dedup same xs
  news_are [] = refl
  news_are (x ∷ xs) = news_from x x xs (tied_itself o x)

-- what a chain has from here on, behind the members so far, is what it has from its head on
abbrev pub NewsOn : (ClassPinData → ClassPinData → Bool) → List ClassPinData → List ℕ → List ℕ → ℕ → ℕ → ℕ → List Member → Type 0
NewsOn same pins places nexts head at last members = (walk : List ℕ) → IsWalk nexts head walk
    → (rest : List ℕ) × IsWalk nexts at rest
    × (members ++ map (λ p. p.member) (news same (slice_get pins last) (walk_pins pins places rest)) ≡ map (λ p. p.member) (news same None (walk_pins pins places walk)))

map_behind : {A B : Type 0} (f : A → B) (xs ys : List A) → map f (xs ++ ys) ≡ map f xs ++ map f ys
map_behind f [] ys = refl
map_behind f (x ∷ xs) ys = ap (λ zs. f x ∷ zs) (map_behind f xs ys)

behind : {A : Type 0} (xs ys zs : List A) → (xs ++ ys) ++ zs ≡ xs ++ (ys ++ zs)
behind [] ys zs = refl
behind (x ∷ xs) ys zs = ap (λ ws. x ∷ ws) (behind xs ys zs)

module _ (same : ClassPinData → ClassPinData → Bool) (pins : List ClassPinData) (places nexts : List ℕ) (head : ℕ) where
  beyond : (xs : List ClassPinData) → slice_get xs (length xs) ≡ None
  beyond [] = refl
  beyond (x ∷ xs) = beyond xs

  pub news_start : NewsOn same pins places nexts head head (length pins) []
  news_start walk w = (walk, w, ap (λ (o : Option ClassPinData). map (λ p. p.member) (news same o (walk_pins pins places walk))) (beyond pins))

  pub news_more : (at last : ℕ) (old now : List Member) → at < length nexts → length nexts ≡ length places → All (λ p. p < length pins) places → NewsOn same pins places nexts head at last old
      → now ≡ old ++ map (λ p. p.member) (new_at same (slice_get pins last) (slice_get pins (get_or places at 0)))
      → NewsOn same pins places nexts head (get_or nexts at 0) (get_or places at 0) now
  news_more at last old now lt len inside on made walk w = by (on walk w).0 (on walk w).1 (on walk w).2
    where
      there : (ys : List ClassPinData) (i : ℕ) → i < length ys → slice_get ys i ≡ None → ⊥
      there [] i h e = omega (arith, h)
      there (y ∷ ys) zero h e = cc
      there (y ∷ ys) (suc i) h e = there ys i (omega (arith, h)) e

      pin : Option ClassPinData
      pin = slice_get pins (get_or places at 0)

      more : (ps : List ℕ) (o : Option ClassPinData) → pin ≡ o → news same (slice_get pins last) (cons_option pin (walk_pins pins places ps)) ≡ new_at same (slice_get pins last) pin ++ news same pin (walk_pins pins places ps)
      more ps None e = absurd (there pins (get_or places at 0) (All-get_or (λ p. p < length pins) places at 0 (omega (arith, lt, len)) inside) e)
      more ps (Some x) e = rw e refl

      by : (rest : List ℕ) → IsWalk nexts at rest
          → old ++ map (λ p. p.member) (news same (slice_get pins last) (walk_pins pins places rest)) ≡ map (λ p. p.member) (news same None (walk_pins pins places walk))
          → (rest : List ℕ) × IsWalk nexts (get_or nexts at 0) rest
          × (now ++ map (λ p. p.member) (news same pin (walk_pins pins places rest)) ≡ map (λ p. p.member) (news same None (walk_pins pins places walk)))
      by [] v e = absurd (omega (arith, v, lt))
      by (p ∷ ps) v e =
          let later = map (λ (p : ClassPinData). p.member) (news same pin (walk_pins pins places ps)) in
          let first = map (λ (p : ClassPinData). p.member) (new_at same (slice_get pins last) pin) in (
            ps,
            v.2,
            ap (λ (ms : List Member). ms ++ later) made
                ∙ behind old first later
                ∙ ap (λ (ms : List Member). old ++ ms) (sym (map_behind (λ (p : ClassPinData). p.member) (new_at same (slice_get pins last) pin) (news same pin (walk_pins pins places ps))))
                ∙ ap (λ (qs : List ClassPinData). old ++ map (λ p. p.member) qs) (sym (more ps pin refl))
                ∙ subst (λ (x : ℕ). old ++ map (λ p. p.member) (news same (slice_get pins last) (walk_pins pins places (x ∷ ps))) ≡ map (λ p. p.member) (news same None (walk_pins pins places walk))) (sym v.0) e,
          )

  pub news_done : (at last : ℕ) (members : List Member) → length nexts ≤ at → NewsOn same pins places nexts head at last members
      → (walk : List ℕ) → IsWalk nexts head walk → members ≡ map (λ p. p.member) (news same None (walk_pins pins places walk))
  news_done at last members le on walk w = by (on walk w).0 (on walk w).1 (on walk w).2
    where
      nil : (xs : List Member) → xs ≡ xs ++ []
      nil [] = refl
      nil (x ∷ xs) = ap (λ (ys : List Member). x ∷ ys) (nil xs)

      by : (rest : List ℕ) → IsWalk nexts at rest
          → members ++ map (λ p. p.member) (news same (slice_get pins last) (walk_pins pins places rest)) ≡ map (λ p. p.member) (news same None (walk_pins pins places walk))
          → members ≡ map (λ p. p.member) (news same None (walk_pins pins places walk))
      by [] v e = nil members ∙ e
      by (p ∷ ps) v e = absurd (omega (arith, v.1, le))

-- pins of members, as placed members
pins_of_members : (parts : List Package) (members : List (Keyed RowMember)) → map placed_pin (map (λ m. (member_of parts m.0, m.1)) members) ≡ map (pin_in parts) members
pins_of_members parts [] = refl
pins_of_members parts (m ∷ ms) = ap (λ (ps : List ClassPinData). pin_in parts m ∷ ps) (pins_of_members parts ms)

-- the places of no conductors, to tell that pins rise
rise_of : (conductors : List FlatConductor) → IsStrictlySortedBy by_place (pins_of conductors)
rise_of conductors =
    let zeros = map (λ _. 0) conductors in
    let len : length zeros ≡ length conductors = length-map conductors (λ _. 0) in
    subst (λ (ps : List ClassPinData). IsStrictlySortedBy by_place ps) (sym (pins_are 0 conductors zeros len)) (pins_rise 0 conductors zeros)

module _ (conductors : List FlatConductor) (parts : List Package) (members : List (Keyed RowMember)) (ranks : List ℕ) (count : ℕ)
    (told : map (λ m. (member_of parts m.0, m.1)) members ≡ keyed_from (λ c. option_to_list c.member) 0 conductors)
    (known : All (λ m. m.0.part < length parts) members)
    (are : AreRanks by_bytes (map (λ p. p.refdes) parts) ranks count) where
  abbrev pins : List ClassPinData
  pins = map (pin_in parts) members

  abbrev pin_ranks : List ℕ
  pin_ranks = ranks_of_pins ranks members

  pub pins_told : pins ≡ pins_of conductors
  pins_told = sym (pins_of_members parts members) ∙ ap (map placed_pin) told

  pub long : length pins ≡ length pin_ranks
  long = length-map members (pin_in parts) ∙ sym (length-map members (λ m. slice_index ranks m.0.part))

  -- each pin's rank is below the count
  pub ranks_fit : All (λ r. r < count) pin_ranks
  ranks_fit = All-from_recursion (λ r. r < count) pin_ranks (go members (recursion_from_All (λ m. m.0.part < length parts) members known))
    where
      go : (ms : List (Keyed RowMember)) → AllByRecursion (λ m. m.0.part < length parts) ms → AllByRecursion (λ r. r < count) (ranks_of_pins ranks ms)
      go [] a = tt
      go (m ∷ ms) a = (rank_below by_bytes_total (map (λ p. p.refdes) parts) ranks count are m.0.part (omega (arith, a.0, length-map parts (λ p. p.refdes))), go ms a.1)

  part_at : (i : ℕ) (dm : Keyed RowMember) → i < length members → (get_or members i dm).0.part < length parts
  part_at i dm h = All-get_or (λ m. m.0.part < length parts) members i dm h known

  follow : (dm : Keyed RowMember) (d : ClassPinData) (i j : ℕ) → i < length members → j < length members
      → nat_cmp (slice_index pin_ranks i) (slice_index pin_ranks j) ≡ by_bytes (get_or pins i d).member.refdes (get_or pins j d).member.refdes
  follow dm d i j a b =
      let keys = map (λ (p : Package). p.refdes) parts in
      let count_keys = length-map parts (λ (p : Package). p.refdes) in
      let mi = get_or members i dm in
      let mj = get_or members j dm in
      rw (
        get_or-map (λ (m : Keyed RowMember). slice_index ranks m.0.part) members i dm 0 a,
        get_or-map (λ (m : Keyed RowMember). slice_index ranks m.0.part) members j dm 0 b,
        get_or-map (pin_in parts) members i dm d a,
        get_or-map (pin_in parts) members j dm d b,
      )
      (ranks_compare by_bytes_total keys ranks count are mi.0.part mj.0.part [] (omega (arith, part_at i dm a, count_keys)) (omega (arith, part_at j dm b, count_keys)))

  agree : (dm : Keyed RowMember) (d : ClassPinData) (i j : ℕ) → i < length pins → j < length pins
      → ordering_then (ordering_then (nat_cmp (slice_index pin_ranks i) (slice_index pin_ranks j)) (option_cmp by_number (slice_get pins i) (slice_get pins j))) (nat_cmp i j)
      ≡ by_pin (get_or pins i d) (get_or pins j d)
  agree dm d i j a b =
      let count_pins = length-map members (pin_in parts) in
      let rising = subst (λ (ps : List ClassPinData). IsStrictlySortedBy by_place ps) (sym pins_told) (rise_of conductors) in
      rw (follow dm d i j (omega (arith, a, count_pins)) (omega (arith, b, count_pins)), key_at pins i d a, key_at pins j d b, rising_compares by_place_total pins i j d rising a b) refl

  pub pins_inside : All (λ p. p < length pins) (in_order pin_ranks by_number pins)
  pins_inside = subst (λ (n : ℕ). All (λ p. p < n) (in_order pin_ranks by_number pins)) (sym long) (order_inside pin_ranks by_number pins)

  -- pins at places in order are the pins in order
  pub pins_ordered : at_places pins (in_order pin_ranks by_number pins) ≡ pins_in_order conductors
  pins_ordered = by members refl
    where
      by : (ms : List (Keyed RowMember)) → members ≡ ms → at_places pins (in_order pin_ranks by_number pins) ≡ pins_in_order conductors
      by [] e = subst (λ (ms : List (Keyed RowMember)). at_places (map (pin_in parts) ms) (in_order (ranks_of_pins ranks ms) by_number (map (pin_in parts) ms)) ≡ once_in_order by_pin (map (pin_in parts) ms)) (sym e) refl ∙ ap (once_in_order by_pin) pins_told
      by (m ∷ ms) e =
          let d = pin_in parts m in
          at_inside d pins (in_order pin_ranks by_number pins) (recursion_from_All (λ p. p < length pins) (in_order pin_ranks by_number pins) pins_inside)
          ∙ ranked_in_order d pins by_pin pin_ranks pins by_number (sym long) (λ i j a b. agree m d i j a b)
          ∙ ap (once_in_order by_pin) pins_told
