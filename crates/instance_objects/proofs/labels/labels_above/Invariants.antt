use Rattle.std.proofs.Common.{take}
use Rattle.instance_objects.specs.steps.LabelSets.{AreLabelSets, TellPorts}
use Rattle.instance_objects.proofs.labels.labels_above.Given as goal

abbrev pub invariant-loop-instance : goal.invariant-loop-instance
invariant-loop-instance l = record {
  sets : AreLabelSets l.project.contents l.sets;
  told : TellPorts l.project.contents (take l.instance-index l.instances) l.sets;
}
