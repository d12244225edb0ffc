-- The rows of groups.
use Rattle.std.proofs.Common.{◌≡◌, ℕ, suc, List, [], ◌∷◌, length, refl, ap, arith}
use Rattle.sheet_groups.specs.Conductors.{SheetConductor}
use Rattle.sheet_groups.specs.Groups.{AreGroups, group_rows}
use Rattle.geda_geom.specs.declared.conductor.Key.{Key}

length-group_rows : (all conductors : List SheetConductor) (labels : List ℕ) → length labels ≡ length conductors → length (group_rows all conductors labels) ≡ length conductors
length-group_rows all [] labels e = refl
length-group_rows all (c ∷ cs) [] e = absurd (omega (arith, e))
length-group_rows all (c ∷ cs) (label ∷ labels) e = ap suc (length-group_rows all cs labels (omega (arith, e)))

-- there is one row for each conductor
pub length-rows : (conductors : List SheetConductor) (rows : List (Key × Key)) → AreGroups conductors rows → length rows ≡ length conductors
length-rows conductors rows are = rw are.are_rows (length-group_rows conductors conductors are.labels are.are_labels.len)
