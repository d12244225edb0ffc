use Rattle.std.proofs.Common.{◌≡◌, ◌+◌, ◌≤◌, ℕ, List, is_some, take}
use Rattle.std.specs.FinMap as map
use Rattle.project_model.specs.Changes.{put}
use Rattle.edit_rules.specs.Weights.{in_sheet, weigh}
use Rattle.edit_rules.specs.HomeRows.{home_count}
use Rattle.edit_rules.proofs.rehoming.rehome_all.Given as goal

abbrev pub invariant-loop-item : goal.invariant-loop-item
invariant-loop-item l = record {
  counted : (n : List ℕ) → home_count (map.get l.homes.rows n) ≡ weigh (in_sheet n) (put l.project.contents (take l.item-index l.items));
  few : (n : List ℕ) → weigh (in_sheet n) (put l.project.contents (take l.item-index l.items)) ≤ weigh (in_sheet n) l.project.contents + l.item-index;
  kept : (n : List ℕ) → is_some (map.get l.homes.rows n) ≡ is_some (map.get l.fn.homes.rows n);
}
