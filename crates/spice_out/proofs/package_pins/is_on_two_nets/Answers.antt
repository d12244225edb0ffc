use Rattle.std.proofs.Common.{◌≡◌, true, false, rules}
use Rattle.std.proofs.lemmas.List.{drop_more}
use Rattle.spice_out.specs.Pins.{first_at, is_elsewhere}
use Rattle.spice_out.proofs.package_pins.is_on_two_nets.Goals as goal

pub returns-then-is_elsewhere : goal.returns-then-is_elsewhere
returns-then-is_elsewhere c =
    let pins = c.args.pins.now in
    let pin = c.pin-item.result in
    let here : is_elsewhere (first_at pins pin.number) pin.at ≡ true = rw (← c.requires.places pin.number) (search rules) in
    let kept = c.loop-pin.invariant in
    let left = rw (drop_more pins c.loop-pin.pin-index pin c.loop-pin-test.true, ← c.pin-item.is) at kept in
    rw here at left

pub loop-pin-preserved : goal.loop-pin-preserved
loop-pin-preserved c =
    let pins = c.args.pins.now in
    let pin = c.pin-item.result in
    let here : is_elsewhere (first_at pins pin.number) pin.at ≡ false = rw (← c.requires.places pin.number) (search rules) in
    let kept = c.loop-pin.invariant in
    let left = rw (drop_more pins c.loop-pin.pin-index pin c.loop-pin-test.true, ← c.pin-item.is) at kept in
    rw here at left
