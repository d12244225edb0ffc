use Rattle.std.proofs.Common.{◌≡◌, ◌+◌, ◌≤◌, cond, Some, take}
use Rattle.project_model.specs.Changes.{count_names}
use Rattle.project_model.specs.declared.change.Thing.{Thing}
use Rattle.edit_rules.specs.Histories.{changes_thing}
use Rattle.edit_rules.specs.TouchRows.{touch_in}
use Rattle.edit_rules.proofs.touches.Touches.touch.Given as goal

abbrev pub invariant-loop-item : goal.invariant-loop-item
invariant-loop-item l = record {
  rows : (t : Thing) → touch_in l.self.rows t ≡ cond (changes_thing t (take l.item-index l.items)) (Some l.serial) (touch_in l.fn.self.rows t);
  things : l.fn.self.spare.things ≤ l.self.spare.things + l.item-index;
  names : l.fn.self.spare.names ≤ l.self.spare.names + count_names (take l.item-index l.items);
}
