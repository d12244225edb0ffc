use Rattle.std.proofs.Common.{◌<◌, ℕ, map, subst}
use Rattle.std.specs.Prelude.{All}
use Rattle.std.proofs.lemmas.List.{length-map}
use Rattle.rank_order.specs.Ranks.{in_order}
use Rattle.net_list.specs.declared.package.Package.{Package}
use Rattle.net_names.specs.steps.Pins.{by_number, pin_in, ranks_of_pins}
use Rattle.net_names.proofs.GatheredLemmas.{members_within}
use Rattle.net_names.proofs.PinLemmas.{pins_inside, pins_ordered, ranks_fit}
use Rattle.net_names.proofs.net_classes.ordered_pins.Goals as goal

pub class_pins-requires : goal.class_pins-requires
class_pins-requires c =
    let flat = c.args.flat.now in
    rw (c.refdeses-refdeses.ensures, length-map flat.parts (λ (p : Package). p.refdes)) c.members-members.ensures.parts

pub places_in_order-requires-clause-below : goal.places_in_order-requires-clause-below
places_in_order-requires-clause-below c =
    let flat = c.args.flat.now in
    let told = c.members-members.ensures in
    rw (c.deref-2.ensures.value, c.in_ok-pin_ranks.ensures, c.deref.ensures.value)
    (ranks_fit flat.conductors flat.parts c.members-members.result.now c.args.ranks.now.ranks.items c.args.ranks.now.count told.members told.parts c.requires)

pub returns : goal.returns
returns c =
    let flat = c.args.flat.now in
    let told = c.members-members.ensures in
    let members = c.members-members.result.now in
    let ranks = c.args.ranks.now.ranks.items in
    let count = c.args.ranks.now.count in
    let refdeses = c.refdeses-refdeses.ensures in
    let pins = rw refdeses at c.in_ok-pins.ensures in
    let places = rw (c.deref-2.ensures.value, c.deref-3.ensures.value, c.in_ok-pin_ranks.ensures, c.deref.ensures.value, pins) at c.in_ok-places.ensures in
    let inside = pins_inside flat.conductors flat.parts members ranks count told.members told.parts c.requires in
    record {
      ranked = rw refdeses (record { parts = rw (length-map flat.parts (λ (p : Package). p.refdes)) told.parts; ranks = c.requires });
      order = rw (places, refdeses) (pins_ordered flat.conductors flat.parts members ranks count told.members told.parts c.requires);
      places = rw places (subst (λ (n : ℕ). All (λ p. p < n) (in_order (ranks_of_pins ranks members) by_number (map (pin_in flat.parts) members))) (length-map members (pin_in flat.parts)) inside);
      pins = members_within flat.parts members flat.conductors told.members;
    }
