use Rattle.std.proofs.Common.{◌≡◌, ◌+◌, ◌≤◌, take, drop, ◌++◌}
use Rattle.project_model.specs.Changes.{put, values_in, count_names}
use Rattle.project_model.proofs.project.Project.exchange.Given as goal

abbrev pub invariant-loop-item : goal.invariant-loop-item
invariant-loop-item l = record {
  contents : l.self.contents ≡ put l.fn.self.contents (take l.item-index l.fn.change.items);
  things : l.fn.self.spare.things ≤ l.self.spare.things + l.item-index;
  names : l.fn.self.spare.names ≤ l.self.spare.names + count_names (take l.item-index l.fn.change.items);
  items : l.item-items ≡ values_in l.fn.self.contents (take l.item-index l.fn.change.items) ++ drop l.item-index l.fn.change.items;
}
