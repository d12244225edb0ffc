-- Steps of the code; no public clause cites them.
-- The groups that a board keeps, and sheets whose groups are made anew (own).
use Rattle.std.specs.Prelude.{◌≡◌, ◌≤◌, ◌+◌, ◌-◌, ◌^◌, min, length, ⊤, ℕ, true, false, List, [], ◌++◌, Option, Some, None, map}
use Rattle.std.specs.FinMap.{empty, entries}
use Rattle.std.specs.List.{filter_map}
use Rattle.net_flood.specs.Grouping.{Conductors, GroupsData}
use Rattle.project_model.specs.declared.change.Placed.{Placed}
use Rattle.project_model.specs.declared.change.Thing.{Thing}
use Rattle.project_model.specs.declared.change.Thing.TheVariants as things
use Rattle.project_model.specs.Items.{Item}
use Rattle.project_model.specs.Projects.{ProjectData}
use Rattle.project_model.specs.Changes.{put}
use Rattle.group_runs.specs.Runs.{BySheet, Coming, Leaving, SheetName, SizesSum}
use Rattle.group_runs.specs.Sheets.{IsKept, KeepsGroups, Rows, asked_sum, given_up, is_given_up, row_at}
use Rattle.sheet_groups.specs.Conductors.{sheet_conductors}
use Rattle.board_core.specs.steps.Members.{In}
use Rattle.board_core.specs.steps.SymbolNames.{AreKnown, Known}
use Rattle.board_core.specs.steps.Standing.{changed_rows, come, coming_drawn, coming_rows, leave, leaving_drawn, on_sheet}

-- the entry of a sheet that has these conductors: its groups are kept and have them, or were given
-- up; without an entry it has none
abbrev pub HoldsSheet : Option (Option GroupsData) → Conductors → Type 0
HoldsSheet None cs = cs ≡ empty
HoldsSheet (Some None) cs = ⊤
HoldsSheet (Some (Some g)) cs = (g.fresh ≡ true) × (g.conductors ≡ cs)

-- each sheet has these conductors
abbrev pub Holds : BySheet → Rows → Type 0
Holds at rows = (s : SheetName) → HoldsSheet (row_at rows s) (at s)

-- the sheets have the conductors of a project
abbrev pub HoldsProject : ProjectData → Rows → Type 0
HoldsProject p rows = Holds (on_sheet p) rows

-- no groups are given up that were not
abbrev pub GivesUpNoMore : Rows → Rows → Type 0
GivesUpNoMore old new = (s : SheetName) → is_given_up (row_at new s) ≡ true
    → is_given_up (row_at old s) ≡ true

-- none of these sheets is given up
abbrev pub NoneGivenUp : Rows → List SheetName → Type 0
NoneGivenUp rows sheets = (s : SheetName) → In s sheets → is_given_up (row_at rows s) ≡ false

-- some of these sheets were grouped anew, and no others changed; where none of them was given up,
-- no step was made
pub record Renews (p : ProjectData) (old new : Rows) (steps_old steps_new : ℕ)
    (sheets : List SheetName) : Type 0 where
  pub held : HoldsProject p new
  pub others : (s : SheetName) → (In s sheets → ⊥) → row_at new s ≡ row_at old s
  pub still : KeepsGroups old new
  pub later : steps_old ≤ steps_new
  pub free : NoneGivenUp old sheets → steps_new ≤ steps_old

-- the groups of all of these sheets are kept
pub record AreRenewed (old new : Rows) (sheets : List SheetName) : Type 0 where
  pub kept : (s : SheetName) → In s sheets → IsKept (row_at new s)
  pub fewer : GivesUpNoMore old new

-- the sheets of objects
abbrev pub sheets_at : List (ℕ × Placed) → List SheetName
sheets_at rows = map (λ (row : ℕ × Placed). row.1.sheet) rows

-- the sheet that a thing names
abbrev pub named_by : Thing → Option SheetName
named_by (things.SheetName name) = Some name
named_by other = None

abbrev pub sheets_named : List Item → List SheetName
sheets_named items = filter_map (λ (item : Item). named_by item.0) items

-- the sheets that a change touches
abbrev pub touched_sheets : ProjectData → List Item → List SheetName
touched_sheets p items = sheets_at (changed_rows p items)
    ++ (sheets_at (coming_rows p items) ++ sheets_named items)

-- the objects whose conductors leave and come, and what is drawn of them
pub record AreMoves (p : ProjectData) (items : List Item) (before after : List (ℕ × Placed))
    (leaving : List Leaving) (coming : List Coming) : Type 0 where
  pub before_are : before ≡ changed_rows p items
  pub after_are : after ≡ coming_rows p items
  pub left : leaving ≡ map leave (leaving_drawn p items)
  pub came : coming ≡ map come (coming_drawn p items)

-- the groups are those of the project after a change, kept on each sheet that it touches
pub record IsRegrouped (p : ProjectData) (items : List Item) (old new : Rows) : Type 0 where
  pub held : HoldsProject (put p items) new
  pub kept : (s : SheetName) → In s (touched_sheets p items) → IsKept (row_at new s)
  pub others : (s : SheetName) → (In s (touched_sheets p items) → ⊥)
      → row_at new s ≡ row_at old s

-- the groups are those of the project before it, and no sheet that it does not touch has changed
pub record IsPartly (p : ProjectData) (items : List Item) (old new : Rows) : Type 0 where
  pub held : HoldsProject p new
  pub others : (s : SheetName) → (In s (touched_sheets p items) → ⊥)
      → row_at new s ≡ row_at old s

-- where no touched sheet was given up, the steps are within the sizes of the groups that conductors
-- leave, and one for each that comes
abbrev pub StaysWithin : ProjectData → List Item → Rows → ℕ → ℕ → Type 0
StaysWithin p items old before after = NoneGivenUp old (touched_sheets p items)
    → (sum : ℕ) → SizesSum (on_sheet p) (map leave (leaving_drawn p items)) sum
    → after ≤ before + (sum + length (coming_drawn p items))

-- a board keeps the groups of its project, its steps count their queries, and the names of the
-- library symbols of its objects are known
pub record IsSound (p : ProjectData) (rows : Rows) (steps : ℕ) (names : Known) : Type 0 where
  pub held : HoldsProject p rows
  pub known : AreKnown names (entries p.objects)
  pub counted : min (asked_sum rows) (2 ^ 64 - 1) ≤ steps

-- no sheet has conductors, and none is given up
abbrev pub AreBare : Rows → Type 0
AreBare rows = (s : SheetName) → HoldsSheet (row_at rows s) empty
    × (is_given_up (row_at rows s) ≡ false)

-- the groups of each of these sheets are kept
abbrev pub AreAllKept : Rows → List SheetName → Type 0
AreAllKept rows sheets = (s : SheetName) → In s sheets → IsKept (row_at rows s)

-- the groups of all sheets of a project, with at most one step for each conductor
pub record IsGrouped (p : ProjectData) (rows : Rows) (steps : ℕ) : Type 0 where
  pub held : HoldsProject p rows
  pub fresh : given_up rows ≡ []
  pub few : steps ≤ length (sheet_conductors p)
