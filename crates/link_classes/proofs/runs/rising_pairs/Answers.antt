use Rattle.std.proofs.Common.{◌<◌, ◌≤◌, ◌+◌, ◌++◌, length, get_or, arith, rules, subst, take}
use Rattle.std.specs.Option.{option_to_list}
use Rattle.std.proofs.lemmas.List.{get_or_default}
use Rattle.flat_rows.specs.Keyed.{keyed_at, keyed_from}
use Rattle.flat_rows.specs.declared.rows.FlatRow.{FlatRow}
use Rattle.link_classes.specs.InstanceGroups.{groups_by}
use Rattle.link_classes.specs.steps.GroupPlaces.{groups_of, row_group}
use Rattle.link_classes.specs.steps.RunPlaces.{Keeps}
use Rattle.link_classes.proofs.ListLemmas.{no_conductor, row_is, rows_length}
use Rattle.link_classes.proofs.RunLemmas.{keeps_all, keeps_next, keeps_none}
use Rattle.link_classes.proofs.runs.rising_pairs.Goals as goal

pub loop-place-init : goal.loop-place-init
loop-place-init c = record {
  keeps = rw c.in_ok-pairs.ensures.items
      (keeps_none c.args.groups.now c.in_ok-first.first c.in_ok-first.ensures);
  few = omega (arith, c.in_ok-pairs.ensures.len);
  room = omega (arith, c.in_ok-pairs.ensures.capacity);
}

pub loop-place-preserved : goal.loop-place-preserved
loop-place-preserved c =
    let h = c.loop-place.invariant in
    let cs = c.args.flat.now.conductors in
    let rows = c.rows-conductors.result.now in
    let known = c.args.groups.now in
    let groups = groups_by known in
    let place = c.loop-place.place in
    let first = c.tie_conductor.new.first in
    let pairs = c.tie_conductor.new.pairs.items in
    let long = rows_length rows cs c.rows-conductors.ensures in
    let inside : place < length cs = omega (arith, long) in
    let conductor = get_or cs place no_conductor in
    let before = keyed_from (groups_of groups) 0 (take place cs) in
    let ties = c.tie_conductor.ensures.ties (search rules) before h.keeps in
    let room = c.tie_conductor.ensures.room in
    record {
      keeps =
          keeps_next groups known cs place conductor first pairs inside
          (get_or_default cs place no_conductor conductor inside)
          (subst (λ (row : FlatRow). Keeps known (place + 1) first pairs
          (before ++ keyed_at place (option_to_list (row_group groups row))))
          (row_is rows cs place c.rows-conductors.ensures inside) ties);
      few = omega (arith, room.few, h.few);
      room = omega (arith, room.capacity, h.room);
    }

pub returns : goal.returns
returns c =
    let cs = c.args.flat.now.conductors in
    let known = c.args.groups.now in
    let long = rows_length c.rows-conductors.result.now cs c.rows-conductors.ensures in
    let all : length cs ≤ c.loop-place.place = omega (arith, long) in
    keeps_all (groups_by known) known cs c.loop-place.place c.loop-place.first
    c.loop-place.pairs.items c.requires.groups all c.loop-place.invariant.keeps
