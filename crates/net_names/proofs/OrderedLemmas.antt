-- The pins that stand in order, by the members that they are.
use Rattle.std.proofs.Common.{◌≡◌, ℕ, ◌<◌, ◌≤◌, ◌==◌, not, cond, Bool, true, false, List, [], ◌∷◌, Option, Some, None, Ordering, length, refl, sym, ap, subst, ◌∙◌, arith}
use Rattle.std.specs.Prelude.{All, slice_get, slice_index, slice_index_or}
use Rattle.std.specs.declared.cmp.Ordering.TheVariants.{Less, Equal, Greater}
use Rattle.std.specs.Option.{option_map}
use Rattle.std.specs.Ordering.{eq_by_cmp, is_eq, nat_cmp, ordering_then}
use Rattle.std.specs.Cmp.{nat_cmp_total, tied_itself}
use Rattle.std.proofs.lemmas.Bool.{eq-eqb}
use Rattle.std.proofs.lemmas.List.{length-map}
use Rattle.std.proofs.lemmas.List.Elements.{All-map}
use Rattle.std.proofs.lemmas.Map.Lookups.{exact_unsigned}
use Rattle.std.proofs.lemmas.Option.{slice_get-map, slice_get_past}
use Rattle.geda_defs.specs.Order.{by_bytes}
use Rattle.rank_order.specs.Keys.{AreRanks}
use Rattle.rank_order.proofs.RankedKeys.{ranks_compare}
use Rattle.flat_rows.specs.Keyed.{Keyed}
use Rattle.flat_rows.specs.declared.rows.RowMember.{RowMember}
use Rattle.net_names.specs.NetClasses.{ClassPinData, by_member}
use Rattle.net_names.specs.declared.net_classes.OrderedPins.{OrderedPins}
use Rattle.net_names.specs.steps.Orders.{by_bytes_total}
use Rattle.net_names.specs.steps.Classes.{is_new_at, new_at, pins_by}
use Rattle.net_names.specs.steps.Pins.{pin_under}

module _ (o : OrderedPins) where
  pub count_pins : length (pins_by o) ≡ length o.members.now
  count_pins = length-map o.members.now (pin_under o.refdeses.now)

  -- places of members are those of pins
  pub places_there : (places : List ℕ) → All (λ p. p < length o.members.now) places → All (λ p. p < length (pins_by o)) places
  places_there places a = subst (λ (n : ℕ). All (λ p. p < n) places) (sym count_pins) a

  -- a pin is that of the member at its place
  pub pin_there : (i : ℕ) (m : Keyed RowMember) → slice_get o.members.now i ≡ Some m → slice_get (pins_by o) i ≡ Some (pin_under o.refdeses.now m)
  pin_there i m e = slice_get-map (pin_under o.refdeses.now) o.members.now i ∙ ap (option_map (pin_under o.refdeses.now)) e

  -- pins stand at the places of members
  pub pins_placed : (n : ℕ) → All (λ m. m.1 < n) o.members.now → All (λ p. p.place < n) (pins_by o)
  pins_placed n a = All-map (λ (p : ClassPinData). p.place < n) (pin_under o.refdeses.now) o.members.now a

  pub no_pin : (i : ℕ) → length o.members.now ≤ i → slice_get (pins_by o) i ≡ None
  no_pin i past = slice_get_past (pins_by o) i (omega (arith, past, count_pins))

-- a pin that is new is alone what is put behind the members
pub new_one : {A : Type 0} (same : A → A → Bool) (last o : Option A) (x : A) → o ≡ Some x → is_new_at same last o ≡ true → new_at same last o ≡ x ∷ []
new_one same None o x e test = rw e refl
new_one {A} same (Some l) o x e test = rw e (by (same x l) (subst (λ (p : Option A). is_new_at same (Some l) p ≡ true) e test))
  where
    by : (b : Bool) → not b ≡ true → cond b [] (x ∷ []) ≡ x ∷ []
    by true f = absurd (let g : false ≡ true = f in cc)
    by false f = refl

differ : (a b : ℕ) (r : Ordering) → (a == b) ≡ false → is_eq (ordering_then (nat_cmp a b) r) ≡ false
differ a b r e = by (nat_cmp a b) refl
  where
    by : (s : Ordering) → nat_cmp a b ≡ s → is_eq (ordering_then s r) ≡ false
    by Less f = refl
    by Equal f = absurd (let g : true ≡ false = sym (eq-eqb a b (exact_unsigned a b f)) ∙ e in cc)
    by Greater f = refl

module _ (refdeses : List (List ℕ)) (ranks : List ℕ) (count : ℕ) (are : AreRanks by_bytes refdeses ranks count)
    (m n : RowMember) (first : m.part < length refdeses) (second : n.part < length refdeses) where
  -- ranks of parts compare as their refdeses do
  compared : nat_cmp (slice_index ranks m.part) (slice_index ranks n.part) ≡ by_bytes (slice_index_or refdeses m.part []) (slice_index_or refdeses n.part [])
  compared = ranks_compare by_bytes_total refdeses ranks count are m.part n.part [] first second

  -- pins of parts of two ranks do not print alike
  pub apart : (slice_index ranks m.part == slice_index ranks n.part) ≡ false → false ≡ eq_by_cmp by_member (pin_under refdeses (m, 0)) (pin_under refdeses (n, 0))
  apart e =
      sym (differ (slice_index ranks m.part) (slice_index ranks n.part) (by_bytes m.pin n.pin) e)
      ∙ ap (λ (r : Ordering). is_eq (ordering_then r (by_bytes m.pin n.pin))) compared

  -- those of one rank do where their numbers are equal
  pub alike : slice_index ranks m.part ≡ slice_index ranks n.part → is_eq (by_bytes m.pin n.pin) ≡ eq_by_cmp by_member (pin_under refdeses (m, 0)) (pin_under refdeses (n, 0))
  alike e =
      let tied : nat_cmp (slice_index ranks m.part) (slice_index ranks n.part) ≡ Equal = ap (nat_cmp (slice_index ranks m.part)) (sym e) ∙ tied_itself nat_cmp_total (slice_index ranks m.part) in
      ap (λ (r : Ordering). is_eq (ordering_then r (by_bytes m.pin n.pin))) (sym tied ∙ compared)
