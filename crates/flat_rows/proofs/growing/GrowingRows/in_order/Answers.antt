use Rattle.std.proofs.Common.{◌++◌, length, ap, ◌∙◌}
use Rattle.std.proofs.lemmas.List.{map-append}
use Rattle.std.proofs.lemmas.List.Elements.{All-append}
use Rattle.flat_rows.specs.Conductors.{GrowingData}
use Rattle.flat_rows.specs.Rows.{conductor_of}
use Rattle.flat_rows.specs.steps.Lists.{HasPart, conductors_in}
use Rattle.flat_rows.proofs.RowLemmas.{flat_is, rows_are}
use Rattle.flat_rows.proofs.growing.GrowingRows.in_order.Goals as goal

pub invariant_of-result : goal.invariant_of-result
invariant_of-result c =
    let g = c.self.inside in
    let drawn = conductors_in g.drawn in
    let hidden = conductors_in g.hidden in
    let more = c.in_ok-append.ensures drawn hidden c.self.invariant.0.lists c.self.invariant.1.lists in
    rows_are g.parts c.append.new.self (drawn ++ hidden) more
    (All-append (HasPart (length g.parts)) drawn hidden c.self.invariant.0.known c.self.invariant.1.known)

pub returns-clause-conductors : goal.returns-clause-conductors
returns-clause-conductors c =
    let g = c.self.inside in
    let drawn = conductors_in g.drawn in
    let hidden = conductors_in g.hidden in
    let more = c.in_ok-append.ensures drawn hidden c.self.invariant.0.lists c.self.invariant.1.lists in
    flat_is g.parts c.append.new.self (drawn ++ hidden) more
    ∙ map-append (conductor_of g.parts) drawn hidden
    ∙ ap (λ (d : GrowingData). d.drawn ++ d.hidden) c.self.view_is
