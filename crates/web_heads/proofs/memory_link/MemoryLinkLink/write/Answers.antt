use Rattle.std.proofs.Common.{◌≤◌, ap, subst}
use Rattle.geda_defs.specs.Causes.{HasRisen}
use Rattle.web_heads.proofs.memory_link.MemoryLinkLink.write.Goals as goal

pub returns-then-next_call-clause-cause : goal.returns-then-next_call-clause-cause
returns-then-next_call-clause-cause c =
    let same = ap (λ l. l.write_faults) c.next_call.ensures.called in
    record {
      later = subst (λ n. n ≤ c.fail_write.new.self.write_faults) same c.fail_write.ensures.later;
      cause = λ e. subst (λ n. HasRisen n c.fail_write.new.self.write_faults) same c.fail_write.ensures.risen;
    }
