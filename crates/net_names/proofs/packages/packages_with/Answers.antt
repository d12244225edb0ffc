use Rattle.std.proofs.Common.{◌∙◌}
use Rattle.net_names.proofs.PackageLemmas.{firsts_are, firsts_fit}
use Rattle.net_names.proofs.packages.packages_with.Goals as goal

pub bare_packages-requires : goal.bare_packages-requires
bare_packages-requires c =
    let ranks = c.args.ranks.now in
    let chains = c.in_ok-chains.chains in
    rw c.deref-2.ensures.value
    (firsts_fit c.args.refdeses.now ranks.ranks.items ranks.count c.requires chains.heads.items chains.nexts.items (rw c.deref.ensures.value at c.in_ok-chains.ensures))

pub returns : goal.returns
returns c =
    let ranks = c.args.ranks.now in
    let chains = c.in_ok-chains.chains in
    (rw c.deref-2.ensures.value at c.in_ok-packages.ensures)
    ∙ firsts_are c.args.refdeses.now ranks.ranks.items ranks.count c.requires chains.heads.items chains.nexts.items (rw c.deref.ensures.value at c.in_ok-chains.ensures)
