use Rattle.std.proofs.Common.{◌≡◌, ◌==◌, false, get_or, sym, ◌∙◌, arith, rules}
use Rattle.std.proofs.lemmas.List.{get_or_read}
use Rattle.net_names.proofs.OrderedLemmas.{alike, apart}
use Rattle.net_names.proofs.net_classes.print_alike.Goals as goal

pub returns-then-index : goal.returns-then-index
returns-then-index c =
    let refdeses = c.args.ordered.now.refdeses.now in
    let first = c.args.first.now in
    let second = c.args.second.now in
    let ranks = c.args.ordered.now.ranks.now.ranks.items in
    let are = c.requires.ranked.ranks in
    let one : c.index.result.now ≡ get_or ranks first.part 0 = get_or_read ranks first.part c.index.result.now (omega (arith, c.requires.first, are.len)) c.index.ensures 0 in
    let other : c.index-2.result.now ≡ get_or ranks second.part 0 = get_or_read ranks second.part c.index-2.result.now (omega (arith, c.requires.second, are.len)) c.index-2.ensures 0 in
    let differ : (c.index.result.now == c.index-2.result.now) ≡ false = search (rules, arith) in
    apart refdeses ranks c.args.ordered.now.ranks.now.count are first second c.requires.first c.requires.second (rw (sym one, sym other) differ)

pub returns : goal.returns
returns c =
    let refdeses = c.args.ordered.now.refdeses.now in
    let first = c.args.first.now in
    let second = c.args.second.now in
    let ranks = c.args.ordered.now.ranks.now.ranks.items in
    let are = c.requires.ranked.ranks in
    let one : c.index.result.now ≡ get_or ranks first.part 0 = get_or_read ranks first.part c.index.result.now (omega (arith, c.requires.first, are.len)) c.index.ensures 0 in
    let other : c.index-2.result.now ≡ get_or ranks second.part 0 = get_or_read ranks second.part c.index-2.result.now (omega (arith, c.requires.second, are.len)) c.index-2.ensures 0 in
    let same : c.index.result.now ≡ c.index-2.result.now = search (rules, arith) in
    let tied = alike refdeses ranks c.args.ordered.now.ranks.now.count are first second c.requires.first c.requires.second (sym one ∙ same ∙ other) in
    search (rules, tied)
