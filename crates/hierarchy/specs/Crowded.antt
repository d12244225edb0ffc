-- When a project has too many instances (own).
use Rattle.std.specs.Prelude.{ℕ, ◌<◌, ◌⊎◌, List, length, sum_by, Any}
use Rattle.hierarchy.specs.SheetTable.{TableSheetData, sheet_at}
use Rattle.hierarchy.specs.Ways.{WayData, last_sheet, ways}

-- what the sheet of a way weighs
abbrev pub weight_of : List TableSheetData → WayData → ℕ
weight_of sheets w = (sheet_at sheets (last_sheet w)).weight

-- over 16 steps
abbrev pub IsDeep : WayData → Type 0
IsDeep w = 16 < length w.steps

-- over 4,096 ways, a way of over 16 steps, or a weight of over 4,000,000
abbrev pub AreTooMany : List TableSheetData → List WayData → Type 0
AreTooMany sheets ws =
    (4096 < length ws) ⊎ (Any IsDeep ws ⊎ (4000000 < sum_by (weight_of sheets) ws))

-- all ways of the table are
abbrev pub HasTooMany : List TableSheetData → Type 0
HasTooMany sheets = AreTooMany sheets (ways sheets)
