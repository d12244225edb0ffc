-- What the hierarchy leaves out (own).
use Rattle.std.specs.Prelude.{ℕ, not, Bool, if◌then◌else◌, List, ◌++◌, Option, Some, None, option_map, length, map, filter, flat_map, filter_map}
use Rattle.std.specs.List.{list_any, range_with_len, slice_get}
use Rattle.hierarchy.specs.declared.table.Source.{Source}
use Rattle.hierarchy.specs.declared.lost.Lost.{Lost}
use Rattle.hierarchy.specs.declared.lost.Lost.TheVariants.{MissingSource, SourceLoop, Unreached}
use Rattle.hierarchy.specs.Texts.{printed}
use Rattle.hierarchy.specs.SheetTable.{HierarchicalData, TableSheetData, sheet_at}
use Rattle.hierarchy.specs.Ways.{WayData, is_on, last_sheet, ways}

-- a loop is lost under the printed refdes, where the component has one
abbrev pub loop_lost : List TableSheetData → WayData → Option (List ℕ) → ℕ → Option Lost
loop_lost sheets w None place = None
loop_lost sheets w (Some refdes) place =
    option_map (λ sheet. SourceLoop (printed w.steps refdes) sheet.name) (slice_get sheets place)

-- what a source on the sheet of this name loses at the end of a way: it names no sheet, or one that
-- stands on the way
abbrev pub source_lost : List TableSheetData → List ℕ → WayData → Option (List ℕ) → Source
    → Option Lost
source_lost sheets name w refdes source = of_sheet source.sheet
  where
    of_sheet : Option ℕ → Option Lost
    of_sheet None = Some (MissingSource name source.value)
    of_sheet (Some place) = if is_on w place then loop_lost sheets w refdes place else None

-- what a component loses, in order of its sources
abbrev pub component_lost : List TableSheetData → List ℕ → WayData → HierarchicalData → List Lost
component_lost sheets name w c = filter_map (source_lost sheets name w c.refdes) c.sources

-- what the components of a sheet lose, by id
abbrev pub sheet_lost : List TableSheetData → WayData → TableSheetData → List Lost
sheet_lost sheets w sheet = flat_map (component_lost sheets sheet.name w) sheet.components

-- what a way loses, by the components on its last sheet
abbrev pub way_lost : List TableSheetData → WayData → List Lost
way_lost sheets w = sheet_lost sheets w (sheet_at sheets (last_sheet w))

-- a sheet on no way
abbrev pub is_unreached : List WayData → ℕ → Bool
is_unreached ws place = not (list_any (λ w. is_on w place) ws)

-- the sheet at a place is lost
abbrev pub unreached_at : List TableSheetData → ℕ → Lost
unreached_at sheets place = Unreached (sheet_at sheets place).name

-- what these ways lose, and then the sheets on no way, in order of name
abbrev pub lost_by : List TableSheetData → List WayData → List Lost
lost_by sheets ws = flat_map (way_lost sheets) ws
    ++ map (unreached_at sheets) (filter (is_unreached ws) (range_with_len 0 (length sheets)))

-- what the project loses
abbrev pub lost : List TableSheetData → List Lost
lost sheets = lost_by sheets (ways sheets)
