use Rattle.std.specs.Prelude.{is_ok}
use Rattle.connection_flow.proofs.Knowing.{known_added}
use Rattle.connection_flow.proofs.gathered.Gathered.add.Goals as goal

pub invariant_of-self : goal.invariant_of-self
invariant_of-self c =
    known_added c.self.inside.known c.self.inside.taken c.self.inside.bytes.items c.extend_from_slice.new.self.items c.args.further.now (is_ok c.extend_from_slice.result)
    c.self.invariant.0 c.self.invariant.1 c.extend_from_slice.ensures.items
