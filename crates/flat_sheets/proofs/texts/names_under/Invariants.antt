use Rattle.std.proofs.Common.{◌≡◌, ◌++◌, map}
use Rattle.std.specs.Vec.Iter.{into_iter_items}
use Rattle.instance_objects.specs.Texts.{under}
use Rattle.flat_sheets.proofs.texts.names_under.Given as goal

abbrev pub invariant-loop-name : goal.invariant-loop-name
invariant-loop-name l = l.printed.items ++ map (under l.path) (into_iter_items l.name-iterator) ≡ map (under l.path) l.fn.names.items
