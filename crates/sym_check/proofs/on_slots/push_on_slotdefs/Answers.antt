use Rattle.std.proofs.Common.{rules, sym}
use Rattle.sym_check.proofs.TextLemmas.{all_slotdefs_by}
use Rattle.sym_check.proofs.on_slots.push_on_slotdefs.Goals as goal

pub returns : goal.returns
returns c =
    rw (sym (all_slotdefs_by c.args.symbol.now c.as_slice-slotdefs.result.now c.in_ok-twice.twice (search rules) c.in_ok-twice.ensures))
    c.push_on_each.ensures
