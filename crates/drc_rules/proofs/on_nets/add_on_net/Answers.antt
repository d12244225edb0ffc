use Rattle.std.proofs.Common.{◌≡◌, ◌++◌, List, rules, subst}
use Rattle.std.specs.Prelude.{OnOk}
use Rattle.drc_findings.specs.declared.finding.Finding.{Finding}
use Rattle.drc_findings.specs.Findings.{same_text}
use Rattle.drc_rules.specs.OnNets.{by_count, conflicts, found_on_net, names_of_nets, not_driven, pins_on_two, unconnected_pin}
use Rattle.drc_rules.specs.steps.Pins.{pins_on_two_by}
use Rattle.drc_rules.proofs.PinLemmas.{on_two_are, six_behind}
use Rattle.drc_rules.proofs.on_nets.add_on_net.Goals as goal

pub returns : goal.returns
returns c = λ nets on_two alike.
    let matrix = c.args.matrix.now in
    let net = c.args.net.now in
    let found = c.args.found.now.items in
    let pins : c.add_pins_on_two.new.found.items ≡ c.add_not_driven.new.found.items ++ pins_on_two_by c.args.on_two.now net.members = search rules in
    let same : c.add_pins_on_two.new.found.items ++ same_text (names_of_nets nets) c.as_str.result.now
    ≡ found ++ found_on_net matrix nets net =
    rw (pins, c.in_ok-add_not_driven.ensures, c.in_ok-add_unconnected_pin.ensures, c.in_ok-add_by_count.ensures, c.in_ok-add_conflicts.ensures, c.as_str.ensures, on_two_are nets c.args.on_two.now on_two net.members)
    (six_behind found (conflicts matrix net) (by_count net) (unconnected_pin matrix net) (not_driven net) (pins_on_two nets net) (same_text (names_of_nets nets) net.name)) in
    subst (λ (items : List Finding). OnOk c.add_same_text.result (c.add_same_text.new.found.items ≡ items)) same
    (c.add_same_text.ensures (names_of_nets nets) alike)
