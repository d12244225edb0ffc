-- Tables whose sources name sheets of the table, or none (own).
use Rattle.std.specs.Prelude.{◌≡◌, ℕ, nat_lt, Bool, true, List, Option, Some, None, length}
use Rattle.std.specs.List.{list_all}
use Rattle.hierarchy.specs.SheetTable.{HierarchicalData, TableSheetData}

-- a source names a sheet of a table of so many, or none
abbrev pub is_in_table : ℕ → Option ℕ → Bool
is_in_table count None = true
is_in_table count (Some place) = nat_lt place count

-- so do the sources of a component
abbrev pub component_in_table : ℕ → HierarchicalData → Bool
component_in_table count c = list_all (λ s. is_in_table count s.sheet) c.sources

-- and all sources of a sheet
abbrev pub sheet_in_table : ℕ → TableSheetData → Bool
sheet_in_table count sheet = list_all (component_in_table count) sheet.components

-- and all sources of the table
abbrev pub AreSources : List TableSheetData → Type 0
AreSources sheets = list_all (sheet_in_table (length sheets)) sheets ≡ true
