use Rattle.std.proofs.Common.{◌≡◌, map, subst}
use Rattle.flat_rows.specs.Rows.{row_of}
use Rattle.flat_rows.specs.Conductors.{FlatData}
use Rattle.flat_rows.proofs.RowLemmas.{rows_tell}
use Rattle.flat_rows.proofs.flat.FlatRows.rows.Goals as goal

pub returns : goal.returns
returns c =
    let f = c.self.inside in
    rw c.deref.ensures.value (subst (λ (d : FlatData). f.lists.rows.items ≡ map row_of d.conductors) c.self.view_is (rows_tell f.parts f.lists c.self.invariant))
