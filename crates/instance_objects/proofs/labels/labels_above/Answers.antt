use Rattle.std.proofs.Common.{arith, subst}
use Rattle.std.proofs.lemmas.List.{take_all}
use Rattle.instance_objects.specs.steps.LabelSets.{TellPorts}
use Rattle.instance_objects.proofs.LabelLemmas.{tell_more}
use Rattle.instance_objects.proofs.labels.labels_above.Goals as goal

pub loop-instance-preserved : goal.loop-instance-preserved
loop-instance-preserved c = record {
  sets = c.in_ok-add_labels_above.ensures.sets;
  told = tell_more c.args.project.now.contents c.loop-instance.sets c.add_labels_above.new.sets c.args.instances.now c.loop-instance.instance-index c.instance-item.result (omega arith) c.instance-item.is c.in_ok-add_labels_above.ensures.kept c.in_ok-add_labels_above.ensures.told c.loop-instance.invariant.told;
}

pub returns : goal.returns
returns c = subst (λ is. TellPorts c.args.project.now.contents is c.loop-instance.sets) (take_all c.loop-instance.instance-index c.args.instances.now (omega arith)) c.loop-instance.invariant.told
