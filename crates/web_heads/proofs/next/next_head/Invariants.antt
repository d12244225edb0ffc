use Rattle.std.proofs.Common.{◌≡◌, ◌≤◌, ◌-◌, length}
use Rattle.web_heads.specs.steps.Reading.{TakesSome}
use Rattle.web_heads.proofs.next.next_head.Given as goal

abbrev pub invariant-loop-buffer : goal.invariant-loop-buffer
invariant-loop-buffer g l =
    record {
      taken : TakesSome (g.L.Link.input l.fn.link) (g.L.Link.input l.link) l.fn.buffer l.buffer;
      output : g.L.Link.output l.link ≡ g.L.Link.output l.fn.link;
      later : g.L.Link.read_faults l.fn.link ≤ g.L.Link.read_faults l.link;
      write_later : g.L.Link.write_faults l.fn.link ≤ g.L.Link.write_faults l.link;
    }

abbrev pub decreases-loop-buffer : goal.decreases-loop-buffer
decreases-loop-buffer g l = 8192 - length l.buffer
