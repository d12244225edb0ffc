use Rattle.std.proofs.Common.{◌≡◌, ℕ, get_or, get_or-set_other, ◌∙◌, below_more, arith}
use Rattle.std.proofs.Math.ListN.{set}
use Rattle.pair_classes.proofs.UnionLemmas.{forest_set, up_twice, above_set, flat_below, flat_at}
use Rattle.pair_classes.proofs.unions.flatten.Goals as goal

pub loop-place-preserved : goal.loop-place-preserved
loop-place-preserved c =
    let h = c.loop-place.invariant in
    let old = c.args.parents.now in
    let parents = c.loop-place.parents in
    let at = c.loop-place.place in
    let parent = get_or parents at 0 in
    let next = get_or parents parent 0 in
    let low = h.forest at (omega arith) in
    let lower = h.forest parent (omega arith) in
    record {
      forest = forest_set parents at next h.forest (omega arith) (omega arith);
      above = above_set old parents at next (omega arith) (omega arith) h.above (up_twice old parents at (omega arith) h.above (omega arith) (omega arith));
      done = below_more (λ (k : ℕ). get_or (set parents at next) k 0 ≡ get_or (set parents at next) (get_or old k 0) 0) at
          (λ k lt. flat_below old parents at next k (c.requires.forest k (omega arith)) lt (h.done k lt))
          (flat_at old parents at (omega arith) (c.requires.forest at (omega arith)) (h.ahead at (omega arith)));
      ahead = λ k up. get_or-set_other parents at k next 0 (omega arith) ∙ h.ahead k (omega arith);
    }
