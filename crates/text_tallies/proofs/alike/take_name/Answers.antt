use Rattle.std.proofs.Common.{◌≡◌, None, rules}
use Rattle.text_tallies.specs.steps.FirstNames.{first_at}
use Rattle.text_tallies.proofs.AlikeLemmas.{adds_first}
use Rattle.text_tallies.proofs.alike.take_name.Goals as goal

pub returns-in_ok-insert-in-None-clause-firsts : goal.returns-in_ok-insert-in-None-clause-firsts
returns-in_ok-insert-in-None-clause-firsts c =
    let free : first_at c.args.firsts.now c.in_ok-printed.printed ≡ None = search rules in
    rw c.in_ok-printed.ensures at (adds_first c.in_ok-printed.printed _ c.args.firsts.now c.insert.new.self free c.in_ok-insert-in-None.ensures.updates)
