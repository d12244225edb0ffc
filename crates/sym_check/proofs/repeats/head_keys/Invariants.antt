use Rattle.std.proofs.Common.{◌≡◌, ◌++◌, drop, map}
use Rattle.sym_check.specs.Slotdefs.{heads_of}
use Rattle.sym_check.specs.steps.FoundBy.{key_of}
use Rattle.sym_check.proofs.repeats.head_keys.Given as goal

abbrev pub invariant-loop-slotdef : goal.invariant-loop-slotdef
invariant-loop-slotdef l =
    l.keys.items ++ map key_of (heads_of (drop l.slotdef-index l.slotdefs)) ≡ map key_of (heads_of l.slotdefs)
