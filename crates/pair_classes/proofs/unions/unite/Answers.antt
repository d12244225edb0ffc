use Rattle.std.proofs.Common.{sym, arith}
use Rattle.pair_classes.specs.Pairs.{ArePaired}
use Rattle.pair_classes.specs.steps.Unions.{AreJoined}
use Rattle.pair_classes.proofs.LabelLemmas.{joined_back}
use Rattle.pair_classes.proofs.UnionLemmas.{joined_raised, joined_set, joined_tops, label_written, labels_joined, same_tops, tied_turn, top_stays}
use Rattle.pair_classes.proofs.unions.unite.Goals as goal

pub returns-then-a-b-clause-joined : goal.returns-then-a-b-clause-joined
returns-then-a-b-clause-joined c = λ pairs tied joined.
    let R = ArePaired pairs in
    let first : AreJoined R c.top-a.new.parents = joined_raised R c.args.parents.now c.top-a.new.parents (omega arith) joined c.top-a.ensures.above in
    let second : AreJoined R c.top-b.new.parents = joined_raised R c.top-a.new.parents c.top-b.new.parents (omega arith) first c.top-b.ensures.above in
    let tops = joined_tops R c.args.parents.now c.top-a.new.parents c.args.first c.args.second c.top-a.result c.top-b.result (tied_turn pairs) joined first c.top-a.ensures.leads c.top-b.ensures.leads tied in
    joined_set R c.top-b.new.parents c.top-b.result c.top-a.result c.top-b.ensures.top.within second
    (joined_back R (tied_turn pairs) c.top-a.result c.top-b.result tops)

pub returns-then-a-b-clause-same : goal.returns-then-a-b-clause-same
returns-then-a-b-clause-same c = λ f labels.
    c.top-a.ensures.same f (c.top-b.ensures.same f (labels_joined c.top-b.new.parents c.top-b.result c.top-a.result c.top-b.ensures.top f labels))

pub returns-then-a-b-clause-tied : goal.returns-then-a-b-clause-tied
returns-then-a-b-clause-tied c = λ f labels.
    same_tops f c.args.parents.now c.top-a.new.parents c.top-b.new.parents c.args.first c.args.second c.top-a.result c.top-b.result c.top-a.ensures.same c.top-b.ensures.same c.top-a.ensures.leads c.top-b.ensures.leads
    (labels_joined c.top-b.new.parents c.top-b.result c.top-a.result c.top-b.ensures.top f labels)
    (sym (label_written f c.top-b.new.parents c.top-b.result c.top-a.result c.top-b.ensures.top.within labels))

pub returns-else-a-b-clause-joined : goal.returns-else-a-b-clause-joined
returns-else-a-b-clause-joined c = λ pairs tied joined.
    let R = ArePaired pairs in
    let first : AreJoined R c.top-a.new.parents = joined_raised R c.args.parents.now c.top-a.new.parents (omega arith) joined c.top-a.ensures.above in
    let second : AreJoined R c.top-b.new.parents = joined_raised R c.top-a.new.parents c.top-b.new.parents (omega arith) first c.top-b.ensures.above in
    let a_top = top_stays c.top-a.new.parents c.top-b.new.parents c.top-a.result (omega arith) c.top-a.ensures.top c.top-b.ensures.above in
    joined_set R c.top-b.new.parents c.top-a.result c.top-b.result a_top.within second
    (joined_tops R c.args.parents.now c.top-a.new.parents c.args.first c.args.second c.top-a.result c.top-b.result (tied_turn pairs) joined first c.top-a.ensures.leads c.top-b.ensures.leads tied)

pub returns-else-a-b-clause-same : goal.returns-else-a-b-clause-same
returns-else-a-b-clause-same c = λ f labels.
    let a_top = top_stays c.top-a.new.parents c.top-b.new.parents c.top-a.result (omega arith) c.top-a.ensures.top c.top-b.ensures.above in
    c.top-a.ensures.same f (c.top-b.ensures.same f (labels_joined c.top-b.new.parents c.top-a.result c.top-b.result a_top f labels))

pub returns-else-a-b-clause-tied : goal.returns-else-a-b-clause-tied
returns-else-a-b-clause-tied c = λ f labels.
    let a_top = top_stays c.top-a.new.parents c.top-b.new.parents c.top-a.result (omega arith) c.top-a.ensures.top c.top-b.ensures.above in
    same_tops f c.args.parents.now c.top-a.new.parents c.top-b.new.parents c.args.first c.args.second c.top-a.result c.top-b.result c.top-a.ensures.same c.top-b.ensures.same c.top-a.ensures.leads c.top-b.ensures.leads
    (labels_joined c.top-b.new.parents c.top-a.result c.top-b.result a_top f labels)
    (label_written f c.top-b.new.parents c.top-a.result c.top-b.result a_top.within labels)
