-- Steps of the code; no public clause cites them.
-- When the components of a table come into an opened sheet without coming near a limit.
use Rattle.std.specs.Prelude.{◌≡◌, ℕ, ◌+◌, ◌≤◌, true, List, None, codes}
use Rattle.std.specs.List.{AllByRecursion}
use Rattle.geda_model.specs.Sheets.{ObjectIsInRange}
use Rattle.project_model.specs.Projects.{ProjectData}
use Rattle.edit_entries.specs.Entries.{EntryData}
use Rattle.edit_rules.specs.Verdicts.{Legal}
use Rattle.attr_table.specs.Filling.{filled_components}
use Rattle.attr_table.specs.Records.{Record}
use Rattle.attr_table.specs.SheetTables.{Numbered}
use Rattle.attr_table.specs.TableFaults.{table_fault}
use Rattle.desk_entries.specs.steps.RoomForEntries.{IsRoomForEntries}
use Rattle.table_files.specs.steps.Objects.{Row, all_on, have_keys}
use Rattle.table_files.specs.steps.Openings.{is_opened}

-- the components that a table without a fault makes
pub record AreOfTable (p : ProjectData) (sheet : List ℕ) (cs : List Numbered) : Type 0 where
  pub records : List Record
  pub faultless : table_fault p sheet records ≡ None
  pub made : filled_components p sheet records ≡ cs

-- a component is in its ranges
abbrev pub IsInItsRanges : Numbered → Type 0
IsInItsRanges c = ObjectIsInRange c.1

-- old texts, new ones and their count are far enough from all limits
pub record AreLittle (old new count : ℕ) : Type 0 where
  pub few : count ≤ 199999
  pub both : old + new ≤ 67108864

-- components have their places among the rows of an opened sheet, and no limit is near
pub record HaveRoom (h : List EntryData) (sheet : List ℕ) (rows : List Row) (cs : List Numbered)
    : Type 0 where
  pub legal : Legal h
  pub opened : is_opened h ≡ true
  pub home : all_on sheet rows ≡ true
  pub keys : have_keys rows cs ≡ true
  pub range : AllByRecursion IsInItsRanges cs
  pub room : IsRoomForEntries h (codes "fill") cs
