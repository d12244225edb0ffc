-- What a change makes of a project (own).
use Rattle.std.specs.Prelude.{ℕ, ◌≢◌, ◌+◌, ◌<◌, ◌≤◌, ◌^◌, length, max, List, [], ◌∷◌, map, All, Option, None, Some, option_map}
use Rattle.std.specs.List.{AllPairs}
use Rattle.std.specs.FinMap as finite
use Rattle.project_model.specs.declared.change.Thing.{Thing}
use Rattle.project_model.specs.declared.change.Thing.TheVariants as things
use Rattle.project_model.specs.declared.change.Value.{Value}
use Rattle.project_model.specs.declared.change.Value.TheVariants as values
use Rattle.project_model.specs.declared.change.Placed.{Placed}
use Rattle.geda_model.specs.Sheets.{HeadData, SymbolData}
use Rattle.project_model.specs.Items.{Item}
use Rattle.project_model.specs.Tables.{set_row}
use Rattle.project_model.specs.Projects.{ProjectData, Spare}

-- the object that a value is; a value of another kind counts as none
abbrev pub as_placed : Option Value → Option Placed
as_placed (Some (values.Object placed)) = Some placed
as_placed _ = None

-- the version line that a value is
abbrev pub as_head : Option Value → Option HeadData
as_head (Some (values.Head head)) = Some head
as_head _ = None

-- the symbol that a value is
abbrev pub as_symbol : Option Value → Option SymbolData
as_symbol (Some (values.Symbol symbol)) = Some symbol
as_symbol _ = None

-- the value that a thing has in a project
abbrev pub value_at : ProjectData → Thing → Option Value
value_at p (things.Object id) = option_map values.Object (finite.get p.objects id)
value_at p (things.SheetName name) = option_map values.Head (finite.get p.sheets name)
value_at p (things.SymbolName name) = option_map values.Symbol (finite.get p.symbols name)

-- the project after one thing gets a value, or none; an id is not given again
abbrev pub put_one : ProjectData → Thing → Option Value → ProjectData
put_one p (things.Object id) value = record {
  sheets = p.sheets;
  objects = set_row p.objects id (as_placed value);
  symbols = p.symbols;
  next_id = max p.next_id (id + 1);
}
put_one p (things.SheetName name) value = record {
  sheets = set_row p.sheets name (as_head value);
  objects = p.objects;
  symbols = p.symbols;
  next_id = p.next_id;
}
put_one p (things.SymbolName name) value = record {
  sheets = p.sheets;
  objects = p.objects;
  symbols = set_row p.symbols name (as_symbol value);
  next_id = p.next_id;
}

-- the project after a change, item by item
abbrev pub put : ProjectData → List Item → ProjectData
put p [] = p
put p (item ∷ items) = put (put_one p item.0 item.1) items

-- the things of a change, each with the value that it has in a project
abbrev pub values_in : ProjectData → List Item → List Item
values_in p items = map (λ (item : Item). (item.0, value_at p item.0)) items

-- no thing stands twice
abbrev pub AreDistinct : List Item → Type 0
AreDistinct items = AllPairs (λ (item other : Item). item.0 ≢ other.0) items

-- the id of an object leaves room for the next one
abbrev pub IsIdInRange : Thing → Type 0
IsIdInRange (things.Object id) = id + 1 < 2 ^ 32
IsIdInRange (things.SheetName name) = Unit {0}
IsIdInRange (things.SymbolName name) = Unit {0}

-- so does each id of a change
abbrev pub ThingsAreInRange : List Item → Type 0
ThingsAreInRange items = All (λ (item : Item). IsIdInRange item.0) items

-- what `apply` asks of a change besides room
pub record CanApply (items : List Item) : Type 0 where
  pub distinct : AreDistinct items
  pub in_range : ThingsAreInRange items

-- a sheet or a symbol wants room for its name
abbrev pub name_count : Thing → ℕ
name_count (things.Object id) = 0
name_count (things.SheetName name) = 1
name_count (things.SymbolName name) = 1

-- how many things of a change do
abbrev pub count_names : List Item → ℕ
count_names [] = 0
count_names (item ∷ items) = name_count item.0 + count_names items

-- the room is enough for a change
pub record IsRoomFor (items : List Item) (spare : Spare) : Type 0 where
  pub things : length items ≤ spare.things
  pub names : count_names items ≤ spare.names
