use Rattle.std.proofs.Common.{length}
use Rattle.pair_classes.proofs.LabelLemmas.{label_inside}
use Rattle.net_names.proofs.GatheredLemmas.{labels_all}
use Rattle.net_names.proofs.joining.joined.Goals as goal

pub nets_by-requires-clause-labels : goal.nets_by-requires-clause-labels
nets_by-requires-clause-labels c =
    labels_all (length c.args.flat.conductors) c.in_ok-labels.labels.items (λ i h. label_inside _ _ c.in_ok-labels.labels.items c.in_ok-labels.ensures i h)
