use Rattle.std.proofs.Common.{◌<◌, ◌≤◌, ◌∙◌, length, get_or, ap, arith, take}
use Rattle.std.proofs.lemmas.List.{get_or_default}
use Rattle.flat_rows.specs.Keyed.{keyed_from}
use Rattle.link_classes.specs.InstanceGroups.{groups_by}
use Rattle.link_classes.specs.steps.GroupPlaces.{group_place, groups_of, row_group}
use Rattle.link_classes.proofs.FirstPlaceLemmas.{spans_all, ties_next}
use Rattle.link_classes.proofs.GroupLemmas.{spans_touching}
use Rattle.link_classes.proofs.ListLemmas.{no_conductor, row_is, rows_length}
use Rattle.link_classes.proofs.groups.mapped_pairs.Goals as goal

pub loop-place-preserved : goal.loop-place-preserved
loop-place-preserved c =
    let cs = c.args.flat.now.conductors in
    let rows = c.rows-conductors.result.now in
    let groups = groups_by c.args.groups.now in
    let keys = groups_of groups in
    let place = c.loop-place.place in
    let long = rows_length rows cs c.rows-conductors.ensures in
    let inside : place < length cs = omega (arith, long) in
    let conductor = get_or cs place no_conductor in
    let is = row_is rows cs place c.rows-conductors.ensures inside in
    ties_next keys (group_place c.tie_member.new.first) c.tie_member.new.pairs.items cs place conductor inside (get_or_default cs place no_conductor conductor inside)
    (rw (c.instance_group-group.ensures ∙ ap (row_group groups) is) at c.in_ok-tie_member.ensures (keyed_from keys 0 (take place cs)) c.loop-place.invariant)

pub returns : goal.returns
returns c =
    let cs = c.args.flat.now.conductors in
    let groups = groups_by c.args.groups.now in
    let pairs = c.loop-place.pairs.items in
    let long = rows_length c.rows-conductors.result.now cs c.rows-conductors.ensures in
    let all : length cs ≤ c.loop-place.place = omega (arith, long) in
    spans_touching groups cs pairs c.requires.groups (spans_all (groups_of groups) (group_place c.loop-place.first) pairs cs c.loop-place.place all c.loop-place.invariant)
