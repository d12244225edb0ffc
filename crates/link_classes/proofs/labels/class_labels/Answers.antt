use Rattle.std.proofs.Common.{length}
use Rattle.std.proofs.lemmas.Result.{IfOk-weaker}
use Rattle.geda_defs.specs.Classes.{AreClasses}
use Rattle.link_classes.specs.Links.{Linked}
use Rattle.pair_classes.specs.Pairs.{ArePaired}
use Rattle.link_classes.proofs.LinkLemmas.{linked_classes}
use Rattle.link_classes.proofs.ListLemmas.{rows_length}
use Rattle.link_classes.proofs.labels.class_labels.Goals as goal

pub returns : goal.returns
returns c =
    let cs = c.args.flat.now.conductors in
    let pairs = c.in_ok-pairs.pairs.items in
    IfOk-weaker c.classes_of.result (λ labels. AreClasses (ArePaired pairs) (length cs) labels.items) (λ labels. AreClasses (Linked cs) (length cs) labels.items)
    (λ labels are. linked_classes cs pairs labels.items c.in_ok-pairs.ensures are)
    (rw (c.deref.ensures.value, rows_length c.rows.result.now cs c.rows.ensures) at c.classes_of.ensures)
