use Rattle.std.proofs.Common.{◌≤◌, length, take, vec_capacity, vec_len}
use Rattle.flat_rows.specs.Keyed.{keyed_from}
use Rattle.link_classes.specs.InstanceGroups.{groups_by}
use Rattle.link_classes.specs.steps.GroupPlaces.{groups_of}
use Rattle.link_classes.specs.steps.RunPlaces.{Keeps}
use Rattle.link_classes.proofs.runs.rising_pairs.Given as goal

abbrev pub invariant-loop-place : goal.invariant-loop-place
invariant-loop-place l = record {
  keeps : Keeps l.groups l.place l.first l.pairs.items
      (keyed_from (groups_of (groups_by l.groups)) 0 (take l.place l.fn.flat.conductors));
  few : vec_len l.pairs ≤ l.place;
  room : length l.conductors ≤ vec_capacity l.pairs;
}
