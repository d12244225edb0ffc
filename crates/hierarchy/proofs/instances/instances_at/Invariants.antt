use Rattle.std.proofs.Common.{◌≡◌, map, take}
use Rattle.hierarchy.specs.Instances.{instance_of}
use Rattle.hierarchy.specs.steps.Parents.{IsReady}
use Rattle.hierarchy.proofs.instances.instances_at.Given as goal

abbrev pub invariant-loop-place : goal.invariant-loop-place
invariant-loop-place l = (l.instances.items ≡ map (instance_of l.sheets l.ways) (take l.place l.ways)) × IsReady l.ways l.place l.entered.items
