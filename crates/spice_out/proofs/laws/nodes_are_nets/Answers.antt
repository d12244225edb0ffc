use Rattle.std.proofs.Common.{List, subst, sym}
use Rattle.flat_sheets.specs.Conductors.{conductors_of}
use Rattle.net_list.specs.declared.nets.Net.{Net}
use Rattle.net_names.specs.NetLaws.{EachPinHasOneNet}
use Rattle.net_names.proofs.ApartLemmas.{Apart}
use Rattle.net_names.proofs.NameLaws.{AreNamedApart, names_apart}
use Rattle.net_names.proofs.PinLaws.{each_has_one_net}
use Rattle.spice_out.proofs.LawLemmas.{nodes_are_chains, nodes_are_nets}
use Rattle.spice_out.proofs.laws.nodes_are_nets.Goals as goal

pub returns-clause-nets : goal.returns-clause-nets
returns-clause-nets c = λ p list is few none.
    let made = is.nets in
    nodes_are_nets list few (subst (λ (nets : List Net). Apart AreNamedApart nets) (sym made.2) (names_apart (conductors_of p) made.0 made.1 is.countable)) none

pub returns-clause-chains : goal.returns-clause-chains
returns-clause-chains c = λ p list is few none.
    let made = is.nets in
    let apart = subst (λ (nets : List Net). Apart AreNamedApart nets) (sym made.2) (names_apart (conductors_of p) made.0 made.1 is.countable) in
    let own = subst (EachPinHasOneNet (conductors_of p)) (sym made.2) (each_has_one_net (conductors_of p) made.0 made.1 is.countable) in
    nodes_are_chains list few apart none (conductors_of p) own.0 own.1
