use Rattle.std.proofs.Common.{List, ap, sym, ◌∙◌}
use Rattle.net_list.specs.declared.nets.Net.{Net}
use Rattle.net_names.specs.NetClasses.{labelled_from, net_class_of}
use Rattle.net_names.specs.steps.Classes.{with_named}
use Rattle.net_names.proofs.BodyLemmas.{named_more}
use Rattle.net_names.proofs.named.named_nets.Goals as goal

pub loop-label-preserved : goal.loop-label-preserved
loop-label-preserved c = λ conductors labels are.
    c.in_ok-push_named.ensures conductors labels are
    ∙ ap (λ (nets : List Net). with_named nets (net_class_of (labelled_from 0 conductors labels) c.loop-label.label)) (c.loop-label.invariant conductors labels are)
    ∙ sym (named_more conductors labels c.loop-label.label)
