use Rattle.std.proofs.Common.{◌≡◌, ◌≤◌, length}
use Rattle.std.specs.List.{filter_map}
use Rattle.std.specs.Vec.Iter.{into_iter_items}
use Rattle.project_model.specs.Changes.{put}
use Rattle.project_files.specs.Opening.{found_symbol, symbol_items}
use Rattle.project_files.proofs.opening.put_symbols.Given as goal

abbrev pub invariant-loop-name : goal.invariant-loop-name
invariant-loop-name l = record {
  rest : put l.project.contents (symbol_items (filter_map found_symbol (into_iter_items l.name-iterator))) ≡ put l.fn.project.contents (symbol_items (filter_map found_symbol l.fn.symbols.items));
  things : length (filter_map found_symbol (into_iter_items l.name-iterator)) ≤ l.project.spare.things;
  names : length (filter_map found_symbol (into_iter_items l.name-iterator)) ≤ l.project.spare.names;
}
