use Rattle.std.proofs.Common.{rules, sym}
use Rattle.sym_check.proofs.TextLemmas.{all_missing_by}
use Rattle.sym_check.proofs.on_slots.push_missing_slotdefs.Goals as goal

pub returns : goal.returns
returns c =
    rw (sym (all_missing_by c.args.slotdefs.now c.in_ok-heads.heads c.args.count (search rules) c.in_ok-heads.ensures))
    c.push_missing.ensures
