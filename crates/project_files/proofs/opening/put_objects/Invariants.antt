use Rattle.std.proofs.Common.{◌≡◌, ◌+◌, ◌≤◌, length}
use Rattle.std.specs.Vec.Iter.{into_iter_items}
use Rattle.project_model.specs.Changes.{put}
use Rattle.project_files.specs.Opening.{object_items}
use Rattle.project_files.proofs.opening.put_objects.Given as goal

abbrev pub invariant-loop-object : goal.invariant-loop-object
invariant-loop-object l = record {
  rest : put l.project.contents (object_items l.sheet l.next (into_iter_items l.object-iterator)) ≡ put l.fn.project.contents (object_items l.sheet l.id l.fn.objects);
  count : l.next + length (into_iter_items l.object-iterator) ≡ l.id + length l.fn.objects;
  things : l.fn.project.spare.things + length (into_iter_items l.object-iterator) ≤ l.project.spare.things + length l.fn.objects;
  names : l.fn.project.spare.names ≤ l.project.spare.names;
}
