use Rattle.std.proofs.Common.{sym}
use Rattle.drc_rules.proofs.pairs_on_two.pairs_on_two.Goals as goal

pub returns-then-all_new : goal.returns-then-all_new
returns-then-all_new c = λ q. rw c.new.ensures.empty (sym (c.in_ok-all_new.ensures (let h = c.if-all_new.true in cc) q))
