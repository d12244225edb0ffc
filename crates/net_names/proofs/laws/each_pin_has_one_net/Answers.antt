use Rattle.std.proofs.Common.{subst, sym}
use Rattle.flat_sheets.specs.Conductors.{conductors_of}
use Rattle.net_names.specs.NetLaws.{EachPinHasOneNet}
use Rattle.net_names.proofs.ListedPins.{each_stands}
use Rattle.net_names.proofs.PinLaws.{each_has_one_net}
use Rattle.net_names.proofs.laws.each_pin_has_one_net.Goals as goal

pub returns-clause-nets : goal.returns-clause-nets
returns-clause-nets c = λ p list is.
    let made = is.nets in
    subst (EachPinHasOneNet (conductors_of p)) (sym made.2) (each_has_one_net (conductors_of p) made.0 made.1 is.countable)

pub returns-clause-pins : goal.returns-clause-pins
returns-clause-pins c = each_stands
