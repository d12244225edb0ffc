use Rattle.std.proofs.Common.{sym}
use Rattle.component_checks.proofs.RepeatLemmas.{all_found_by}
use Rattle.component_checks.proofs.on_components.add_on_components.Goals as goal

pub returns : goal.returns
returns c = rw (sym (all_found_by c.args.components.now c.in_ok-repeats.repeats c.in_ok-repeats.ensures)) c.add_found_on_each.ensures
