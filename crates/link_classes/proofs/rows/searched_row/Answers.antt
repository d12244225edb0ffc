use Rattle.std.proofs.Common.{rules, of_calls}
use Rattle.std.proofs.lemmas.Fn.{always_returns_same}
use Rattle.link_classes.proofs.RowLemmas.{comparisons_rise, found, missed}
use Rattle.link_classes.proofs.rows.searched_row.Goals as goal

pub returns-in-Ok : goal.returns-in-Ok
returns-in-Ok c =
    let facts = c.binary_search_by_key.ensures in
    let searched =
    facts.position (λ row. row.0)
    (always_returns_same _ _ _ (λ a r f called. search (rules, of_calls))) in
    let at = rw c.in-Ok.is at searched in
    let within = rw c.in-Ok.is at facts.bound in
    found c.args.rows.now c.requires.rising c.args.key.now c.in-Ok.at within at

pub returns-in-Err : goal.returns-in-Err
returns-in-Err c =
    let rows = c.args.rows.now in
    let searched =
    c.binary_search_by_key.ensures.position (λ row. row.0)
    (always_returns_same _ _ _ (λ a r f called. search (rules, of_calls))) in
    let parted = rw c.in-Err.is at searched in
    missed rows c.requires.rising c.args.key.now c.in-Err.field-0
    (parted (comparisons_rise rows c.requires.rising c.args.key.now))
