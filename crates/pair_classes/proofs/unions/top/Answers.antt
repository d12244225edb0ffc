use Rattle.std.proofs.Common.{◌<◌, get_or, arith}
use Rattle.std.proofs.Math.ListN.{length-set}
use Rattle.pair_classes.specs.steps.Unions.{IsParent}
use Rattle.pair_classes.proofs.LabelLemmas.{joined_then}
use Rattle.pair_classes.proofs.UnionLemmas.{forest_set, up_twice, above_set, labels_halved}
use Rattle.pair_classes.proofs.unions.top.Goals as goal

pub loop-parents-preserved : goal.loop-parents-preserved
loop-parents-preserved c =
    let h = c.loop-parents.invariant in
    let parents = c.loop-parents.parents in
    let at = c.loop-parents.at in
    let parent = get_or parents at 0 in
    let next = get_or parents parent 0 in
    let moved : parent < at = omega arith in
    let low = h.forest parent (omega arith) in
    let len = length-set parents at next in
    let way = up_twice c.args.parents.now parents at (omega arith) h.above h.within (omega arith) in
    record {
      within = omega arith;
      forest = forest_set parents at next h.forest h.within (omega arith);
      leads = joined_then (IsParent c.args.parents.now) c.args.place at next h.leads way;
      above = above_set c.args.parents.now parents at next (omega arith) h.within h.above way;
      same = λ f labels. h.same f (labels_halved parents at h.forest h.within moved f labels);
    }
