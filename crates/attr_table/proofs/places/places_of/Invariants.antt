use Rattle.std.proofs.Common.{take}
use Rattle.attr_table.specs.steps.Places.{ArePlaces}
use Rattle.attr_table.proofs.places.places_of.Given as goal

abbrev pub invariant-loop-place : goal.invariant-loop-place
invariant-loop-place l = ArePlaces (take l.place l.texts) l.firsts
