use Rattle.std.proofs.Common.{◌<◌, ◌^◌, arith, rules}
use Rattle.net_names.proofs.StemLemmas.{stem_last}
use Rattle.net_names.proofs.numbering.numbered_name.Goals as goal

pub returns-clause-name : goal.returns-clause-name
returns-clause-name c =
    let small : c.args.number < 2 ^ 64 = search (rules, arith) in
    search (rules, stem_last c.args.prefix.now c.args.number small)
