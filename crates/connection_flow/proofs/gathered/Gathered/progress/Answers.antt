use Rattle.std.proofs.Common.{inl, ◌+◌, ◌-◌, ◌≤◌, ℕ, List, length, subst}
use Rattle.connection_flow.specs.Requests.{GatheredData, IsKnown}
use Rattle.connection_flow.proofs.Knowing.{whole_message}
use Rattle.connection_flow.proofs.gathered.Gathered.progress.Goals as goal

pub returns-in-Size-2 : goal.returns-in-Size-2
returns-in-Size-2 c = let size = c.in-Size.size in
    inl (
      size.head + size.body,
      whole_message c.self.inside.known c.args.self.now.bytes size c.in-Size.is
          (subst (λ (d : GatheredData). IsKnown c.self.inside.known d.bytes) c.self.view_is c.self.invariant.1)
          (subst (λ (b : List ℕ). size.body ≤ length b - size.head) c.front-have.ensures c.if-have-size.false),
    )
