use Rattle.std.proofs.Common.{◌≡◌, subst}
use Rattle.std.specs.Option.{option_to_list}
use Rattle.flat_rows.specs.Keyed.{keyed_from}
use Rattle.flat_rows.specs.Conductors.{FlatData}
use Rattle.flat_rows.proofs.RowLemmas.{ups_tell}
use Rattle.flat_rows.proofs.flat.FlatRows.ups.Goals as goal

pub returns : goal.returns
returns c =
    let f = c.self.inside in
    rw c.deref.ensures.value (subst (λ (d : FlatData). f.lists.ups.items ≡ keyed_from (λ c. option_to_list c.leads_up) 0 d.conductors) c.self.view_is (ups_tell f.parts f.lists c.self.invariant))
