use Rattle.std.proofs.Common.{rules, refl, ◌≡◌, ◌<◌, true, false, ◌∙◌, sym, ap, subst, arith}
use Rattle.web_heads.specs.Links.{with_front, with_end}
use Rattle.hall_server.specs.Services.{stand}
use Rattle.hall_server.specs.steps.Responding.{EndWrites, RespondsTo, SoFar}
use Rattle.hall_server.proofs.Served.{so_far_start, so_far_next, served_closed, served_write, served_fault, served_spent, served_end}
use Rattle.hall_server.proofs.messages.serve_messages.Goals as goal

pub loop-turn-init : goal.loop-turn-init
loop-turn-init g c = record {
  so_far = so_far_start c.args.access.now _ _ _ _ c.requires;
  later = search rules;
  write_later = search rules;
  same_reference = refl;
}

pub returns-in-End-clause-serves : goal.returns-in-End-clause-serves
returns-in-End-clause-serves g c =
    let few : c.loop-turn.turn < 10000 = search rules in
    let n = c.in-End.ensures in
    let written = subst (λ o. EndWrites o (g.L.Link.output c.finish.new.link) c.in-End.end c.finish.result) n.output c.finish.ensures.end in
    served_end c.args.access.now _ _ _ _ _ _ _ _ _ _ c.loop-turn.turn c.in-End.end c.finish.result few c.loop-turn.invariant.so_far n.next.0 n.next.1 n.next.2 c.finish.ensures.input written

pub returns-in-Fault-clause-serves : goal.returns-in-Fault-clause-serves
returns-in-Fault-clause-serves g c =
    let few : c.loop-turn.turn < 10000 = search rules in
    let n = c.in-Fault.ensures in
    let s = subst (λ o. SoFar c.args.access.now (stand (g.S.Service.seen c.args.service.now) (g.S.Service.losses c.args.service.now) (g.S.Service.refusals c.args.service.now)) (stand (g.S.Service.seen c.loop-turn.service) (g.S.Service.losses c.loop-turn.service) (g.S.Service.refusals c.loop-turn.service)) (g.L.Link.input c.args.link.now) (g.L.Link.input c.loop-turn.link) (g.L.Link.output c.args.link.now) o c.loop-turn.buffer c.loop-turn.turn) (sym n.output) c.loop-turn.invariant.so_far in
    served_fault c.args.access.now _ _ _ _ _ _ _ _ c.loop-turn.turn few s n.next.0 n.next.1 n.next.2

pub returns-in-Err-clause-serves : goal.returns-in-Err-clause-serves
returns-in-Err-clause-serves g c =
    let few : c.loop-turn.turn < 10000 = search rules in
    let n = c.in-Message.ensures in
    let m = c.next_message.new.message in
    let text = c.piece.result.now in
    let answers = subst (λ b. RespondsTo (stand (g.S.Service.seen c.loop-turn.service) (g.S.Service.losses c.loop-turn.service) (g.S.Service.refusals c.loop-turn.service)) (stand (g.S.Service.seen c.respond-kind.new.service) (g.S.Service.losses c.respond-kind.new.service) (g.S.Service.refusals c.respond-kind.new.service)) m b text c.respond-kind.result) c.is_closing-closing.ensures
    (subst (λ t. RespondsTo (stand (g.S.Service.seen c.loop-turn.service) (g.S.Service.losses c.loop-turn.service) (g.S.Service.refusals c.loop-turn.service)) (stand (g.S.Service.seen c.respond-kind.new.service) (g.S.Service.losses c.respond-kind.new.service) (g.S.Service.refusals c.respond-kind.new.service)) m c.is_closing-closing.result t c.respond-kind.result) (sym c.piece.ensures) c.respond-kind.ensures.responds) in
    let input = n.next.1 ∙ ap (with_front n.next.0) (sym c.in-Err.ensures.input) in
    let w = c.in-Err.ensures.output in
    served_write c.args.access.now _ _ _ _ _ _ _ _ _ _ _ c.loop-turn.turn m c.respond-kind.result text few c.loop-turn.invariant.so_far n.next.0 input n.next.2 answers w.0 w.1 (w.2 ∙ ap (with_end w.0) n.output)

pub returns-then-closing-clause-serves : goal.returns-then-closing-clause-serves
returns-then-closing-clause-serves g c =
    let few : c.loop-turn.turn < 10000 = search rules in
    let n = c.in-Message.ensures in
    let m = c.next_message.new.message in
    let text = c.piece.result.now in
    let answers = subst (λ b. RespondsTo (stand (g.S.Service.seen c.loop-turn.service) (g.S.Service.losses c.loop-turn.service) (g.S.Service.refusals c.loop-turn.service)) (stand (g.S.Service.seen c.respond-kind.new.service) (g.S.Service.losses c.respond-kind.new.service) (g.S.Service.refusals c.respond-kind.new.service)) m b text c.respond-kind.result) c.is_closing-closing.ensures
    (subst (λ t. RespondsTo (stand (g.S.Service.seen c.loop-turn.service) (g.S.Service.losses c.loop-turn.service) (g.S.Service.refusals c.loop-turn.service)) (stand (g.S.Service.seen c.respond-kind.new.service) (g.S.Service.losses c.respond-kind.new.service) (g.S.Service.refusals c.respond-kind.new.service)) m c.is_closing-closing.result t c.respond-kind.result) (sym c.piece.ensures) c.respond-kind.ensures.responds) in
    let input = n.next.1 ∙ ap (with_front n.next.0) (sym c.in-Ok.ensures.input) in
    let closing : m.closing ≡ true = search rules in
    served_closed c.args.access.now _ _ _ _ _ _ _ _ _ _ _ c.loop-turn.turn m c.respond-kind.result text few c.loop-turn.invariant.so_far n.next.0 input n.next.2 answers (c.in-Ok.ensures.output ∙ ap (with_end text) n.output) closing

pub loop-turn-preserved : goal.loop-turn-preserved
loop-turn-preserved g c =
    let few : c.loop-turn.turn < 10000 = search rules in
    let n = c.in-Message.ensures in
    let m = c.next_message.new.message in
    let text = c.piece.result.now in
    let answers = subst (λ b. RespondsTo (stand (g.S.Service.seen c.loop-turn.service) (g.S.Service.losses c.loop-turn.service) (g.S.Service.refusals c.loop-turn.service)) (stand (g.S.Service.seen c.respond-kind.new.service) (g.S.Service.losses c.respond-kind.new.service) (g.S.Service.refusals c.respond-kind.new.service)) m b text c.respond-kind.result) c.is_closing-closing.ensures
    (subst (λ t. RespondsTo (stand (g.S.Service.seen c.loop-turn.service) (g.S.Service.losses c.loop-turn.service) (g.S.Service.refusals c.loop-turn.service)) (stand (g.S.Service.seen c.respond-kind.new.service) (g.S.Service.losses c.respond-kind.new.service) (g.S.Service.refusals c.respond-kind.new.service)) m c.is_closing-closing.result t c.respond-kind.result) (sym c.piece.ensures) c.respond-kind.ensures.responds) in
    let input = n.next.1 ∙ ap (with_front n.next.0) (sym c.in-Ok.ensures.input) in
    let unclosed : m.closing ≡ false = search rules in
    record {
      so_far = so_far_next c.args.access.now _ _ _ _ _ _ _ _ _ _ _ c.loop-turn.turn m c.respond-kind.result text c.loop-turn.invariant.so_far n.next.0 input n.next.2 answers (c.in-Ok.ensures.output ∙ ap (with_end text) n.output) unclosed;
      later = omega (arith, c.loop-turn.invariant.later, n.later, c.in-Ok.ensures.read_faults);
      write_later = omega (arith, c.loop-turn.invariant.write_later, n.write_later, c.in-Ok.ensures.cause.later);
      same_reference = c.respond-kind.ensures.same_reference ∙ c.loop-turn.invariant.same_reference;
    }

pub returns-clause-serves : goal.returns-clause-serves
returns-clause-serves g c =
    let all : c.loop-turn.turn ≡ 10000 = search rules in
    let s = subst (SoFar c.args.access.now (stand (g.S.Service.seen c.args.service.now) (g.S.Service.losses c.args.service.now) (g.S.Service.refusals c.args.service.now)) (stand (g.S.Service.seen c.loop-turn.service) (g.S.Service.losses c.loop-turn.service) (g.S.Service.refusals c.loop-turn.service)) (g.L.Link.input c.args.link.now) (g.L.Link.input c.loop-turn.link) (g.L.Link.output c.args.link.now) (g.L.Link.output c.loop-turn.link) c.loop-turn.buffer) all c.loop-turn.invariant.so_far in
    served_spent c.args.access.now _ _ _ _ _ _ _ s
