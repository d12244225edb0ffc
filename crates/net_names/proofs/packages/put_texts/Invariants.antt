use Rattle.std.proofs.Common.{◌≡◌, ◌<◌, length}
use Rattle.std.specs.Prelude.{All}
use Rattle.std.specs.Vec.Iter.{into_iter_items}
use Rattle.net_names.specs.steps.PackageRows.{with_texts}
use Rattle.net_names.proofs.packages.put_texts.Given as goal

abbrev pub invariant-loop-text : goal.invariant-loop-text
invariant-loop-text l = record {
  len : length l.packages.items ≡ length l.fn.packages.items;
  places : All (λ t. t.1 < length l.ranks) (into_iter_items l.text-iterator);
  rest :
      with_texts l.attribute l.ranks l.packages.items (into_iter_items l.text-iterator)
      ≡ with_texts l.attribute l.ranks l.fn.packages.items l.fn.texts.items;
}
