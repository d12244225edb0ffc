-- The ways down from the roots (own). A way is a root and the steps down from it; each step is a
-- component of the sheet before it and a sheet that the component names, and no sheet comes twice.
use Rattle.std.specs.Prelude.{◌≡◌, ◌≢◌, ◌==◌, ◌-◌, ◌||◌, ℕ, zero, suc, Bool, if◌then◌else◌, List, [], ◌∷◌, ◌++◌, Option, Some, None, length, map, Contains, AllPairs, flat_map, filter_map}
use Rattle.std.specs.List.{list_any, slice_get}
use Rattle.std.specs.Option.{option_map_or}
use Rattle.hierarchy.specs.declared.table.Source.{Source}
use Rattle.hierarchy.specs.declared.way.Step.{Step}
use Rattle.hierarchy.specs.SheetTable.{HierarchicalData, TableSheetData, sheet_at, roots}

-- the place of a root, and the steps down from it
pub record WayData : Type 0 where
  pub root : ℕ
  pub steps : List Step

-- the sheets on the way, from the root on
abbrev pub sheets_on : WayData → List ℕ
sheets_on w = w.root ∷ map (λ s. s.sheet) w.steps

-- the step leads from a sheet: by a component on it that has a refdes, to a sheet that one of its
-- sources names
pub record IsStep (sheet : TableSheetData) (step : Step) : Type 0 where
  pub component : HierarchicalData
  pub stands : Contains sheet.components component
  pub same_id : component.id ≡ step.id
  pub same_refdes : component.refdes ≡ Some step.refdes
  pub source : Source
  pub given : Contains component.sources source
  pub names : source.sheet ≡ Some step.sheet

-- steps that lead down from the sheet at a place, one from the other
abbrev pub LeadDown : List TableSheetData → ℕ → List Step → Type 0
LeadDown sheets place [] = Unit {0}
LeadDown sheets place (s ∷ ss) = IsStep (sheet_at sheets place) s × LeadDown sheets s.sheet ss

-- a way of the project
pub record IsWay (sheets : List TableSheetData) (w : WayData) : Type 0 where
  pub from_root : Contains (roots sheets) w.root
  pub down : LeadDown sheets w.root w.steps
  pub apart : AllPairs ◌≢◌ (sheets_on w)

-- the sheet on which a way ends: that of its last step, or its root
abbrev pub last_sheet : WayData → ℕ
last_sheet w = option_map_or (λ s. s.sheet) (slice_get w.steps (length w.steps - 1)) w.root

-- the sheet stands on the way
abbrev pub is_on : WayData → ℕ → Bool
is_on w place = (w.root == place) || list_any (λ s. s.sheet == place) w.steps

-- the step of a source, unless it names no sheet or one on the way
abbrev pub step_to : WayData → ℕ → List ℕ → Option ℕ → Option Step
step_to w id refdes None = None
step_to w id refdes (Some place) =
    if is_on w place then None else Some (record { id = id; refdes = refdes; sheet = place })

-- the steps by the sources of a component, in order: none without a refdes
abbrev pub steps_by : WayData → ℕ → List Source → Option (List ℕ) → List Step
steps_by w id sources None = []
steps_by w id sources (Some refdes) = filter_map (λ s. step_to w id refdes s.sheet) sources

-- the steps by a component
abbrev pub component_steps : WayData → HierarchicalData → List Step
component_steps w c = steps_by w c.id c.sources c.refdes

-- the steps with which a way goes on, by component id and then source order
abbrev pub next_steps : List TableSheetData → WayData → List Step
next_steps sheets w = flat_map (component_steps w) (sheet_at sheets (last_sheet w)).components

-- a way and one more step
abbrev pub extended : WayData → Step → WayData
extended w s = record { root = w.root; steps = w.steps ++ s ∷ [] }

-- the ways directly below
abbrev pub children : List TableSheetData → WayData → List WayData
children sheets w = map (extended w) (next_steps sheets w)

-- a way and those below it by at most so many steps, each directly before its children
abbrev pub with_descendants : List TableSheetData → ℕ → WayData → List WayData
with_descendants sheets zero w = w ∷ []
with_descendants sheets (suc n) w = w ∷ flat_map (with_descendants sheets n) (children sheets w)

-- the way that stays at a root
abbrev pub way_at : ℕ → WayData
way_at place = record { root = place; steps = [] }

-- the ways of at most so many steps
abbrev pub ways_within : List TableSheetData → ℕ → List WayData
ways_within sheets n = flat_map (with_descendants sheets n) (map way_at (roots sheets))

-- all ways, in order: no sheet comes twice, so no way has as many steps as there are sheets
abbrev pub ways : List TableSheetData → List WayData
ways sheets = ways_within sheets (length sheets)
