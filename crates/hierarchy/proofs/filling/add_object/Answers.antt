use Rattle.std.proofs.Common.{◌∙◌, ap}
use Rattle.std.specs.FinMap.{keys}
use Rattle.hierarchy.specs.SheetTable.{place_of}
use Rattle.hierarchy.proofs.TableLemmas.{table_kept, table_put}
use Rattle.hierarchy.proofs.filling.add_object.Goals as goal

pub returns-in_ok-add-in-Some-clause-table : goal.returns-in_ok-add-in-Some-clause-table
returns-in_ok-add-in-Some-clause-table c = λ rows is.
    let p = c.args.met.now in
    let at = c.in-Some.ensures ∙ ap (λ ns. place_of ns c.as_str.result.now) c.requires.names ∙ ap (place_of (keys p.sheets)) c.as_str.ensures.text in
    table_put p (c.args.id, c.args.placed.now) rows c.args.table.now.items c.in-Some.place c.index_mut.result.now c.add.new.self is at c.index_mut.ensures.value c.in_ok-add-in-Some.ensures.added

pub returns-in-None-clause-table : goal.returns-in-None-clause-table
returns-in-None-clause-table c = λ rows is.
    let p = c.args.met.now in
    let none = c.in-None.ensures ∙ ap (λ ns. place_of ns c.as_str.result.now) c.requires.names ∙ ap (place_of (keys p.sheets)) c.as_str.ensures.text in
    table_kept p (c.args.id, c.args.placed.now) rows c.args.table.now.items is none
