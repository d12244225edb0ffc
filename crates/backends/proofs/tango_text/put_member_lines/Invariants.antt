use Rattle.std.proofs.Common.{◌≡◌, ◌++◌, drop, map}
use Rattle.backends.specs.ListText.{member_text}
use Rattle.backends.specs.TangoText.{ended_lines}
use Rattle.backends.proofs.tango_text.put_member_lines.Given as goal

abbrev pub invariant-loop-member : goal.invariant-loop-member
invariant-loop-member l = l.out.items ++ ended_lines (map member_text (drop l.member-index l.members)) ≡ l.fn.out.items ++ ended_lines (map member_text l.members)
