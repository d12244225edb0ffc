-- What a hash function is fed of a pair of texts (own).
use Rattle.std.specs.Prelude.{◌++◌}
use Rattle.std.specs.Hash as fed
use Rattle.text_tallies.specs.PairSets.{PairData}

-- the first text, then the second
abbrev pub pair_writes : PairData → fed.HashWrites
pair_writes p = fed.str p.first ++ fed.str p.second
