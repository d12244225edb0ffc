use Rattle.std.proofs.Common.{◌≡◌, ◌||◌, ℕ, List, None, drop}
use Rattle.std.specs.List.{list_any}
use Rattle.component_checks.specs.steps.SlotRows.{count_after, count_in, is_used, row_at, uses_in}
use Rattle.component_checks.proofs.slot_rows.slots_by_refdes.Given as goal

abbrev pub invariant-loop-component : goal.invariant-loop-component
invariant-loop-component l = record {
  counts : (q : List ℕ) → count_after q (drop l.component-index l.components) (count_in (row_at l.rows q)) ≡ count_after q l.components None;
  used : (q : List ℕ) (k : ℕ)
      → (is_used (row_at l.rows q) k || list_any (uses_in q k) (drop l.component-index l.components)) ≡ list_any (uses_in q k) l.components;
}
