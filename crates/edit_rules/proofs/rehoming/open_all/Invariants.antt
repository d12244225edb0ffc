use Rattle.std.proofs.Common.{◌≡◌, ◌||◌, ◌+◌, ◌≤◌, ℕ, List, is_some, take}
use Rattle.std.specs.FinMap as map
use Rattle.project_model.specs.Changes.{count_names}
use Rattle.project_model.specs.declared.change.Thing.TheVariants as things
use Rattle.edit_rules.specs.Histories.{changes_thing}
use Rattle.edit_rules.specs.HomeRows.{home_count}
use Rattle.edit_rules.proofs.rehoming.open_all.Given as goal

abbrev pub invariant-loop-item : goal.invariant-loop-item
invariant-loop-item l = record {
  counted : (n : List ℕ) → home_count (map.get l.homes.rows n) ≡ home_count (map.get l.fn.homes.rows n);
  there : (n : List ℕ) → is_some (map.get l.homes.rows n) ≡ (is_some (map.get l.fn.homes.rows n) || changes_thing (things.SheetName n) (take l.item-index l.items));
  spare : l.fn.homes.spare ≤ l.homes.spare + count_names (take l.item-index l.items);
}
