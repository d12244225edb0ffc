use Rattle.std.proofs.Common.{rules, ◌≡◌, false, true}
use Rattle.std.specs.Option.{is_some}
use Rattle.spice_out.specs.steps.FirstPins.{firsts_at}
use Rattle.spice_out.proofs.FirstLemmas.{more_firsts, still_firsts}
use Rattle.spice_out.proofs.package_pins.take_first.Goals as goal

pub returns-in_ok-insert : goal.returns-in_ok-insert
returns-in_ok-insert c = λ pins are.
    let none : is_some (firsts_at c.args.firsts.now c.args.pin.now.number) ≡ false = search rules in
    more_firsts pins c.args.pin.now c.args.firsts.now c.insert.new.self are none (search rules) (search rules)

pub returns-else-not-contains_key : goal.returns-else-not-contains_key
returns-else-not-contains_key c = λ pins are.
    let there : is_some (firsts_at c.args.firsts.now c.args.pin.now.number) ≡ true = search rules in
    still_firsts pins c.args.pin.now c.args.firsts.now are there
