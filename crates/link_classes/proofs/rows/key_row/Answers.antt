use Rattle.std.proofs.Common.{rules, ◌≡◌, Some, length, refl, sym, ap, ◌∙◌}
use Rattle.std.specs.List.{slice_get}
use Rattle.std.proofs.lemmas.Bool.{ltb-true}
use Rattle.std.proofs.lemmas.Option.{get_or_from_slice_get, slice_get_read, slice_get_within}
use Rattle.geda_geom.specs.declared.conductor.Key.{Key}
use Rattle.link_classes.proofs.rows.key_row.Goals as goal

pub returns-then-are_one : goal.returns-then-are_one
returns-then-are_one c =
    let rows = c.args.rows.now in
    let guess = c.args.guess in
    let row : Key × Key = c.in-Some.row.now in
    let is : row.0 ≡ c.args.key.now = c.are_one.ensures.0 (search rules) in
    let read : slice_get rows guess ≡ Some row =
    slice_get_read rows (length rows) guess row refl
    (ltb-true guess (length rows) (sym c.in-Some.ensures.lookup.0))
    c.in-Some.ensures.lookup.1 in
    record {
      within = slice_get_within rows guess row read;
      is = λ d. ap (λ (r : Key × Key). r.0) (get_or_from_slice_get rows guess row d read) ∙ is;
    }
