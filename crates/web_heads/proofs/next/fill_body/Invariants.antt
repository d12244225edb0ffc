use Rattle.std.proofs.Common.{◌≡◌, ◌≤◌, ◌-◌, length}
use Rattle.web_heads.specs.steps.Reading.{MovesSome, SameHead}
use Rattle.web_heads.proofs.next.fill_body.Given as goal

abbrev pub invariant-loop-link : goal.invariant-loop-link
invariant-loop-link g l =
    record {
      moved : MovesSome (g.L.Link.input l.fn.link) (g.L.Link.input l.link) l.fn.buffer l.message.body l.buffer;
      fits : length l.message.body ≤ l.size;
      head : SameHead l.fn.message l.message;
      output : g.L.Link.output l.link ≡ g.L.Link.output l.fn.link;
      later : g.L.Link.read_faults l.fn.link ≤ g.L.Link.read_faults l.link;
      write_later : g.L.Link.write_faults l.fn.link ≤ g.L.Link.write_faults l.link;
    }

abbrev pub decreases-loop-link : goal.decreases-loop-link
decreases-loop-link g l = l.size - length l.message.body
