use Rattle.std.proofs.Common.{◌≡◌, ◌+◌, ◌≤◌, drop, length}
use Rattle.std.specs.List.{filter_map}
use Rattle.project_files.specs.Opening.{found_symbol}
use Rattle.project_files.proofs.project_text.symbol_count.Given as goal

abbrev pub invariant-loop-name : goal.invariant-loop-name
invariant-loop-name l = record {
  few : l.count ≤ l._name-index;
  rest : l.count + length (filter_map found_symbol (drop l._name-index l.symbols)) ≡ length (filter_map found_symbol l.symbols);
}
