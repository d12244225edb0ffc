use Rattle.std.proofs.Common.{[], length, arith}
use Rattle.pair_classes.proofs.UnionLemmas.{forest_apart, unions_apart, unions_flat}
use Rattle.pair_classes.proofs.unions.join_pairs.Goals as goal

pub unite_pairs-requires-clause-forest : goal.unite_pairs-requires-clause-forest
unite_pairs-requires-clause-forest c = forest_apart c.args.labels.now c.requires.apart

pub returns : goal.returns
returns c =
    let count = length c.args.labels.now in
    unions_flat c.args.pairs.now count c.unite_pairs.new.parents c.flatten.new.parents (omega arith) (omega arith) c.requires.within
    (c.unite_pairs.ensures.adds [] (unions_apart c.args.labels.now c.requires.apart)) c.flatten.ensures.forest c.flatten.ensures.above c.flatten.ensures.labels
