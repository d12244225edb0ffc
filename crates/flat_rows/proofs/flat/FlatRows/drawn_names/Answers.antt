use Rattle.std.proofs.Common.{◌≡◌, subst}
use Rattle.flat_rows.specs.Keyed.{keyed_from}
use Rattle.flat_rows.specs.Conductors.{FlatData}
use Rattle.flat_rows.proofs.RowLemmas.{drawn_names_tell}
use Rattle.flat_rows.proofs.flat.FlatRows.drawn_names.Goals as goal

pub returns : goal.returns
returns c =
    let f = c.self.inside in
    rw c.deref.ensures.value (subst (λ (d : FlatData). f.lists.drawn_names.items ≡ keyed_from (λ c. c.drawn_names) 0 d.conductors) c.self.view_is (drawn_names_tell f.parts f.lists c.self.invariant))
