-- Which objects are moved and turned, and what comes of those that are not (own).
use Rattle.std.specs.Prelude.{◌≡◌, ℕ, ℤ, Bool, true, false, if◌then◌else◌, List, Option, None, Some, Result, Ok, Err}
use Rattle.std.specs.List.{list_all}
use Rattle.geda_model.specs.declared.shape.Shape.{Shape}
use Rattle.geda_model.specs.declared.shape.Shape.TheVariants as shapes
use Rattle.geda_model.specs.declared.object.Body.{Body}
use Rattle.geda_model.specs.declared.object.Body.TheVariants as bodies
use Rattle.geda_model.specs.Shapes.{PartData}
use Rattle.geda_model.specs.Sheets.{ObjectData}
use Rattle.edit_move.specs.declared.motion.Motion.TheVariants.{Shift, Turn}
use Rattle.edit_move.specs.declared.fault.MoveFault.{MoveFault}
use Rattle.edit_move.specs.declared.fault.MoveFault.TheVariants as faults
use Rattle.edit_move.specs.Objects.{object_after, at}

-- any shape but a path
abbrev pub is_no_path : Shape → Bool
is_no_path (shapes.Path color stroke fill content) = false
is_no_path _ = true

-- a part whose shape is no path
abbrev pub is_movable_part : PartData → Bool
is_movable_part p = is_no_path p.shape

-- no path stands in the symbol, if one is embedded
abbrev pub is_movable_symbol : Option (List PartData) → Bool
is_movable_symbol None = true
is_movable_symbol (Some parts) = list_all is_movable_part parts

-- an object can be moved: it is no path, and no path is embedded in it
abbrev pub is_movable : Body → Bool
is_movable (bodies.Shape s) = is_no_path s
is_movable (bodies.Component c) = is_movable_symbol c.embedded

-- a line, a net, a bus or a text
abbrev pub is_turnable_shape : Shape → Bool
is_turnable_shape (shapes.Straight x1 y1 x2 y2 color stroke) = true
is_turnable_shape (shapes.Net x1 y1 x2 y2 color) = true
is_turnable_shape (shapes.Bus x1 y1 x2 y2 color ripper) = true
is_turnable_shape (shapes.Text t) = true
is_turnable_shape _ = false

-- no symbol is embedded
abbrev pub is_plain : Option (List PartData) → Bool
is_plain None = true
is_plain (Some parts) = false

-- an object can be turned: one of these shapes, or a component without an embedded symbol
abbrev pub is_turnable : Body → Bool
is_turnable (bodies.Shape s) = is_turnable_shape s
is_turnable (bodies.Component c) = is_plain c.embedded

-- the object afterwards, or the fault that a point would leave the sheet
abbrev pub or_out_of_range : Option ObjectData → Result ObjectData MoveFault
or_out_of_range None = Err faults.OutOfRange
or_out_of_range (Some o) = Ok o

-- an object, moved
unfoldable pub moved : ℤ → ℤ → ObjectData → Result ObjectData MoveFault
moved dx dy o =
    if is_movable o.body then or_out_of_range (object_after (Shift dx dy) o)
    else Err faults.NotOnKind

-- an object, turned about a point, and mirrored before
unfoldable pub turned : ℤ → ℤ → ℕ → Bool → ObjectData → Result ObjectData MoveFault
turned x y quarter mirror o =
    if is_turnable o.body then or_out_of_range (object_after (Turn (at x y) quarter mirror) o)
    else Err faults.NotOnKind

-- the answer is the object or the fault that is meant, or memory ran out
abbrev pub Moves : Result ObjectData MoveFault → Result ObjectData MoveFault → Type 0
Moves (Ok o) meant = meant ≡ Ok o
Moves (Err faults.NoMemory) meant = Unit {0}
Moves (Err fault) meant = meant ≡ Err fault
