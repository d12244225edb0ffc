use Rattle.std.proofs.Common.{inl, ◌+◌, ◌-◌, ◌≤◌, ℕ, List, length, subst}
use Rattle.connection_flow.specs.Requests.{GatheredData, IsKnown}
use Rattle.connection_flow.proofs.Knowing.{whole_message}
use Rattle.connection_flow.proofs.gathered.Gathered.request_len.Goals as goal

pub returns-in-Size : goal.returns-in-Size
returns-in-Size c = let size = c.in-Size.size in
    inl (whole_message c.self.inside.known c.args.self.now.bytes size c.in-Size.is
    (subst (λ (d : GatheredData). IsKnown c.self.inside.known d.bytes) c.self.view_is c.self.invariant.1)
    (subst (λ (b : List ℕ). size.body ≤ length b - size.head) c.front-have.ensures c.if-have-size.true))
