-- The sheets of a project with the components that have sheets below them (gEDA master attribute
-- document, `source`; the rest is own). The place of a sheet is that among the names of the sheets
-- in order, counted from 0.
use Rattle.std.specs.Prelude.{ℕ, ◌+◌, ◌==◌, Bool, false, not, if◌then◌else◌, List, [], Option, None, Some, codes, length, map, slice_index_or, sum_by}
use Rattle.std.specs.List.{filter, filter_map, list_any, position, range_with_len}
use Rattle.std.specs.Str.{bytes_eq}
use Rattle.std.specs.FinMap.{entries, keys}
use Rattle.geda_defs.specs.Lists.{each_once}
use Rattle.project_model.specs.declared.change.Placed.{Placed}
use Rattle.geda_model.specs.Sheets.{ObjectData, SymbolData}
use Rattle.project_model.specs.Projects.{ProjectData, is_on}
use Rattle.attr_rules.specs.Attributes.{attrs, parts_of}
use Rattle.attr_rules.specs.Components.{has_sources, refdes_of}
use Rattle.attr_rules.specs.Libraries.{library_of}
use Rattle.hierarchy.specs.declared.table.Source.{Source}

-- a component with sheets below: its id, its refdes, and its distinct source values in order
pub record HierarchicalData : Type 0 where
  pub id : ℕ
  pub refdes : Option (List ℕ)
  pub sources : List Source

-- a sheet: its name, its hierarchical components by id, and what its objects weigh
pub record TableSheetData : Type 0 where
  pub name : List ℕ
  pub components : List HierarchicalData
  pub weight : ℕ

-- the place of the sheet that a value names
abbrev pub place_of : List (List ℕ) → List ℕ → Option ℕ
place_of names value = position (bytes_eq value) names

-- a source value with the place of the sheet that it names, if it names one
abbrev pub source_of : List (List ℕ) → List ℕ → Source
source_of names value = record { value = value; sheet = place_of names value }

-- the distinct source values of a component, in order
abbrev pub source_values : ObjectData → Option SymbolData → List (List ℕ)
source_values o library = each_once (attrs o library (codes "source"))

-- a component with sheets below, as the table has it
abbrev pub component_with : List (List ℕ) → ℕ → ObjectData → Option SymbolData → HierarchicalData
component_with names id o library = record {
  id = id;
  refdes = refdes_of o library;
  sources = map (source_of names) (source_values o library);
}

-- the same, if the object is one: a component with sources that is neither graphical nor a
-- no-connection directive
abbrev pub hierarchical : ProjectData → ℕ → ObjectData → Option HierarchicalData
hierarchical p id o =
    if has_sources o (library_of p o)
    then Some (component_with (keys p.sheets) id o (library_of p o))
    else None

-- an object weighs 1, and a component as much more as its symbol has parts
abbrev pub object_weight : ProjectData → ObjectData → ℕ
object_weight p o = 1 + length (parts_of o (library_of p o))

-- a sheet, by the objects of these rows that stand on it
abbrev pub sheet_of : ProjectData → List (ℕ × Placed) → List ℕ → TableSheetData
sheet_of p rows name = record {
  name = name;
  components = filter_map (λ row. hierarchical p row.0 row.1.object) (filter (is_on name) rows);
  weight = sum_by (λ row. object_weight p row.1.object) (filter (is_on name) rows);
}

-- all sheets of a project, in order of name
abbrev pub sheet_table : ProjectData → List TableSheetData
sheet_table p = map (sheet_of p (entries p.objects)) (keys p.sheets)

-- a sheet without objects
abbrev pub no_sheet : TableSheetData
no_sheet = record { name = []; components = []; weight = 0 }

-- the sheet at a place
abbrev pub sheet_at : List TableSheetData → ℕ → TableSheetData
sheet_at sheets place = slice_index_or sheets place no_sheet

-- it is the sheet at this place
abbrev pub is_place : ℕ → Option ℕ → Bool
is_place place None = false
is_place place (Some other) = other == place

-- some source of the component names the sheet at this place
abbrev pub component_names : ℕ → HierarchicalData → Bool
component_names place c = list_any (λ s. is_place place s.sheet) c.sources

-- some source on the sheet does
abbrev pub sheet_names : ℕ → TableSheetData → Bool
sheet_names place sheet = list_any (component_names place) sheet.components

-- some source of the project does
abbrev pub is_named : List TableSheetData → ℕ → Bool
is_named sheets place = list_any (sheet_names place) sheets

-- the roots: the sheets that no source names, in order of name
abbrev pub roots : List TableSheetData → List ℕ
roots sheets = filter (λ place. not (is_named sheets place)) (range_with_len 0 (length sheets))
