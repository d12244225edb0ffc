use Rattle.std.proofs.Common.{inr}
use Rattle.web_heads.specs.declared.cut_end.CutEnd.TheVariants.{CutShort}
use Rattle.web_heads.proofs.Nexts.{next_whole, next_stop}
use Rattle.web_heads.proofs.next.read_message.Goals as goal

pub returns-in-Whole-read_body-clause-next : goal.returns-in-Whole-read_body-clause-next
returns-in-Whole-read_body-clause-next g c =
    let e = c.in-Whole-read_body.ensures in
    let h = c.in-Whole.ensures.next in
    next_whole c.args.access.now _ _ _ _ _ _ _ c.in-Whole.head _ c.read_body.new.message h.0 h.1 c.begin_message.ensures.rest c.begin_message.ensures.message e.moves e.next e.head

pub returns-in-End-read_body-clause-next : goal.returns-in-End-read_body-clause-next
returns-in-End-read_body-clause-next g c =
    let e = c.in-End-read_body.ensures in
    let h = c.in-Whole.ensures.next in
    let s = next_stop c.args.access.now _ _ _ _ _ _ _ _ c.in-Whole.head h.0 h.1 c.begin_message.ensures.rest e.moves e.next.0 e.next.1 in
    (s.0, s.1, (inr s.2, inr e.next.2))

pub returns-in-Fault-read_body-clause-next : goal.returns-in-Fault-read_body-clause-next
returns-in-Fault-read_body-clause-next g c =
    let e = c.in-Fault-read_body.ensures in
    let h = c.in-Whole.ensures.next in
    let s = next_stop c.args.access.now _ _ _ _ _ _ _ _ c.in-Whole.head h.0 h.1 c.begin_message.ensures.rest e.moves e.next.0 e.next.1 in
    (s.0, s.1, (CutShort, inr s.2))
