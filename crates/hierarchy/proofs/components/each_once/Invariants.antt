use Rattle.std.proofs.Common.{◌≡◌}
use Rattle.std.specs.List.{fold}
use Rattle.std.specs.HashSet.{contains_text}
use Rattle.std.specs.Vec.Iter.{into_iter_items}
use Rattle.geda_defs.specs.Lists.{each_once, with_new}
use Rattle.hierarchy.specs.steps.SeenTexts.{AreTheTexts}
use Rattle.hierarchy.proofs.components.each_once.Given as goal

abbrev pub invariant-loop-value : goal.invariant-loop-value
invariant-loop-value l = (fold with_new l.distinct.items (into_iter_items l.value-iterator) ≡ each_once l.fn.values.items)
    × AreTheTexts (contains_text l.seen) l.distinct.items
