use Rattle.std.proofs.Common.{◌++◌, [], rules}
use Rattle.std.specs.HashMap.{get_by_text}
use Rattle.link_classes.specs.Links.{names_of}
use Rattle.link_classes.proofs.FirstPlaceLemmas.{spans_keys, ties_names}
use Rattle.link_classes.proofs.names.name_pairs.Goals as goal

pub returns : goal.returns
returns c =
    let cs = c.args.flat.now.conductors in
    let first = get_by_text c.tie_names-2.new.first in
    let pairs = c.tie_names-2.new.pairs.items in
    let globals = c.in_ok-tie_names.ensures [] (search rules) in
    let all = c.in_ok-tie_names-2.ensures ([] ++ c.global_names-globals.result.now) globals in
    spans_keys names_of first pairs cs (ties_names first pairs cs c.global_names-globals.result.now c.drawn_names-drawn.result.now c.global_names-globals.ensures c.drawn_names-drawn.ensures all)
