use Rattle.std.proofs.Common.{◌≤◌, ◌∙◌, sym, ap, subst, Some}
use Rattle.geda_defs.specs.Causes.{HasRisen}
use Rattle.web_heads.proofs.Memories.{read_input}
use Rattle.web_heads.proofs.memory_link.MemoryLinkLink.read.Goals as goal

pub returns-then-next_call-clause-cause : goal.returns-then-next_call-clause-cause
returns-then-next_call-clause-cause c =
    let same = ap (λ l. l.read_faults) c.next_call.ensures.called in
    record {
      later = subst (λ n. n ≤ c.fail_read.new.self.read_faults) same c.fail_read.ensures.later;
      cause = λ e. subst (λ n. HasRisen n c.fail_read.new.self.read_faults) same c.fail_read.ensures.risen;
    }

pub returns-clause-input : goal.returns-clause-input
returns-clause-input c =
    let same = ap (λ l. l.input) c.next_call.ensures.called in
    let e = c.take_bytes.ensures in
    let r = read_input c.args.room.now c.take_bytes.new.room c.next_call.new.self.input c.take_bytes.new.self.input c.take_bytes.result e.count e.copied (ap (λ l. l.input) e.link) in
    (r.0, ap Some (sym same) ∙ r.1, r.2)
