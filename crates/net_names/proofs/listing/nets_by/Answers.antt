use Rattle.std.proofs.Common.{◌<◌, ◌^◌, length, arith, rules, ap, ◌∙◌}
use Rattle.flat_rows.specs.Rows.{row_of}
use Rattle.std.proofs.lemmas.List.{length-map}
use Rattle.net_names.proofs.ListingLemmas.{countable, nets_by_steps}
use Rattle.net_names.proofs.listing.nets_by.Goals as goal

pub returns-clause-nets : goal.returns-clause-nets
returns-clause-nets c =
    let conductors = c.args.flat.now.conductors in
    let labels = c.args.labels.items in
    let classes = rw c.deref.ensures.value at c.in_ok-classes.ensures in
    let taken = rw (c.global_names-global.ensures, c.drawn_names-drawn.ensures) at c.in_ok-taken.ensures in
    let alone = rw (c.global_names-global.ensures, c.drawn_names-drawn.ensures) at c.in_ok-taken-2.ensures in
    c.from_vec.ensures
    ∙ nets_by_steps conductors labels c.requires.len c.requires.labels (length c.in_ok-classes.classes.growing.items) c.in_ok-classes.classes.met.items
    c.in_ok-taken.taken.keys c.in_ok-taken-2.taken.keys c.in_ok-made.made.items c.in_ok-nets.nets.items c.number_classes.new.nets.items c.number_classes-2.new.nets.items
    classes.len classes.met taken alone (c.in_ok-made.ensures conductors labels classes) (c.in_ok-nets.ensures ∙ c.in_ok-named.ensures)
    (rw c.in_ok-reserve_exact.ensures.items at c.in_ok-number_classes.ensures conductors labels classes) (c.in_ok-number_classes-2.ensures conductors labels classes)

pub returns-clause-countable : goal.returns-clause-countable
returns-clause-countable c =
    let conductors = c.args.flat.now.conductors in
    let rows = c.rows.result.now in
    let globals = c.global_names-global.result.now in
    let drawns = c.drawn_names-drawn.result.now in
    let few_rows : length rows < 2 ^ 64 = search (rules, arith) in
    let few_globals : length globals < 2 ^ 64 = search (rules, arith) in
    let few_drawns : length drawns < 2 ^ 64 = search (rules, arith) in
    countable conductors (length rows) (length globals) (length drawns) (ap length c.rows.ensures ∙ length-map conductors row_of) (ap length c.global_names-global.ensures) (ap length c.drawn_names-drawn.ensures) few_rows few_globals few_drawns
