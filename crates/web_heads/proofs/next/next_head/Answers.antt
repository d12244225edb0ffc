use Rattle.std.proofs.Common.{◌≢◌, ℕ, ◌<◌, ◌≤◌, [], length, subst, sym, ◌∙◌, inr, arith, rules}
use Rattle.httparse.specs.Grammar.{HasNoRequest, MayBecomeRequest}
use Rattle.web_heads.specs.declared.cut_end.CutEnd.TheVariants.{CutShort}
use Rattle.web_heads.specs.Cuts.{EndsBy}
use Rattle.web_heads.specs.Messages.{Waits}
use Rattle.web_heads.proofs.Nexts.{stops_in_head, takes_more, takes_same, waits_in_head}
use Rattle.web_heads.proofs.next.next_head.Goals as goal

pub returns-in-Fault-clause-next : goal.returns-in-Fault-clause-next
returns-in-Fault-clause-next g c =
    let same = c.bytes-in-loop-buffer.ensures.bytes in
    let open_head = c.in-Open.ensures in
    let fault = c.in-Fault.ensures.input in (
      takes_same _ _ _ _ _ _ c.loop-buffer.invariant.taken fault.0 fault.1,
      subst (Waits c.args.access.now) (sym fault.1) (waits_in_head c.args.access.now c.loop-buffer.buffer (subst (λ b. length b < 8192) c.bytes.ensures.bytes c.loop-buffer-test.true)
          (subst HasNoRequest same open_head.0) (subst MayBecomeRequest same open_head.1)),
    )

pub returns-clause-next : goal.returns-clause-next
returns-clause-next g c = (c.loop-buffer.invariant.taken, c.full_head.ensures.next _)

no_less : (a b c : ℕ) → a ≤ b → b ≤ c → a ≤ c
no_less a b c low high = omega arith

pub loop-buffer-preserved : goal.loop-buffer-preserved
loop-buffer-preserved g c =
    let before = c.loop-buffer.invariant in
    let filled = c.in-More.ensures in
    record {
      taken = takes_more _ _ _ _ _ _ before.taken filled.input.0 filled.input.1;
      output = filled.output ∙ before.output;
      later = no_less _ _ _ before.later filled.later;
      write_later = no_less _ _ _ before.write_later filled.write_later;
    }

pub returns-in-End-2-clause-next : goal.returns-in-End-2-clause-next
returns-in-End-2-clause-next g c =
    let same = c.bytes-in-loop-buffer.ensures.bytes in
    let open_head = c.in-Open.ensures in
    let some : c.fill.new.self ≢ [] = search rules in
    let end = c.in-End.ensures.input in (
      takes_same _ _ _ _ _ _ c.loop-buffer.invariant.taken end.0 end.1,
      (
        subst (λ bytes. EndsBy c.args.access.now bytes CutShort) (sym end.1) (stops_in_head c.args.access.now c.loop-buffer.buffer (subst (λ bytes. bytes ≢ []) end.1 some) (subst (λ b. length b < 8192) c.bytes.ensures.bytes c.loop-buffer-test.true)
            (subst HasNoRequest same open_head.0) (subst MayBecomeRequest same open_head.1)),
        inr end.2,
      ),
    )
