use Rattle.std.proofs.Common.{◌≡◌, ◌+◌, ◌≤◌, length}
use Rattle.std.specs.List.{sum_by}
use Rattle.std.specs.Vec.Iter.{into_iter_items}
use Rattle.project_model.specs.Changes.{put}
use Rattle.project_files.specs.Opening.{most_project_objects, sheets_items}
use Rattle.project_files.specs.steps.Counting.{object_count}
use Rattle.project_files.proofs.opening.put_sheets.Given as goal

abbrev pub invariant-loop-name : goal.invariant-loop-name
invariant-loop-name l = record {
  rest : put l.project.contents (sheets_items l.id (into_iter_items l.name-iterator) (into_iter_items l.sheets)) ≡ put l.fn.project.contents (sheets_items 0 l.fn.names.items l.fn.sheets.items);
  few : l.id + sum_by object_count (into_iter_items l.sheets) ≤ most_project_objects;
  things : l.fn.project.spare.things + (length (into_iter_items l.name-iterator) + sum_by object_count (into_iter_items l.sheets))
      ≤ l.project.spare.things + (length l.fn.names.items + sum_by object_count l.fn.sheets.items);
  names : l.fn.project.spare.names + length (into_iter_items l.name-iterator) ≤ l.project.spare.names + length l.fn.names.items;
}
