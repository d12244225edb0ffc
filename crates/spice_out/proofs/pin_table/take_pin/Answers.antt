use Rattle.std.proofs.Common.{◌≡◌, ◌∷◌, ◌++◌, [], refl, rules}
use Rattle.spice_out.specs.steps.PinRows.{pins_at}
use Rattle.spice_out.proofs.RowLemmas.{put_back}
use Rattle.spice_out.proofs.pin_table.take_pin.Goals as goal

pub returns : goal.returns
returns c = λ q.
    let known : c.unwrap_or-known.result ≡ pins_at c.args.rows.now c.args.refdes.now = search rules in
    let made : c.in_ok-with_pin.field-0 ≡ pins_at c.args.rows.now c.args.refdes.now ++ c.args.pin ∷ [] = rw (c.in_ok-with_pin.ensures, known) refl in
    put_back c.args.refdes.now c.args.pin c.args.rows.now c.remove.new.self c.insert.new.self c.remove.ensures.updates (rw made at c.in_ok-insert.ensures.updates) q
