-- Steps of the code; no public clause cites them.
-- Sheets and symbols that are being read, row by row (own).
use Rattle.std.specs.Prelude.{ℕ, List, [], Option, Some, None}
use Rattle.std.specs.Option.{option_map}
use Rattle.geda_model.specs.Limits.{most_objects}
use Rattle.geda_model.specs.Data.{TextData}
use Rattle.geda_model.specs.Shapes.{PartData, ComponentData}
use Rattle.geda_model.specs.Sheets.{ObjectData}
use Rattle.geda_model.specs.declared.shape.Shape.{Shape}
use Rattle.geda_model.specs.declared.object.Body.{Body}
use Rattle.geda_model.specs.declared.object.Body.TheVariants as bodies
use Rattle.geda_grammar.specs.declared.row.Row.{Row}
use Rattle.geda_grammar.specs.Components.{ComponentLineData}
use Rattle.geda_grammar.specs.declared.row.Row.TheVariants.{Library, Embedding, OpenSymbol, CloseSymbol}
use Rattle.geda_grammar.specs.declared.mode.Mode.{Mode}
use Rattle.geda_grammar.specs.declared.mode.Mode.TheVariants.{Settled, Last}
use Rattle.geda_grammar.specs.steps.Levels.{Level, room, push, level_step, closed}
use Rattle.geda_grammar.specs.declared.place.Place.{Place}
use Rattle.geda_grammar.specs.declared.place.Place.TheVariants.{Objects, Waiting, Inside}

abbrev pub make_part : Shape → List TextData → PartData
make_part s ts = record { shape = s; attrs = ts }

abbrev pub make_object : Body → List TextData → ObjectData
make_object b ts = record { body = b; attrs = ts }

-- a symbol: parts alone
abbrev pub part_step : List PartData → Mode Shape → Row → Option (Level PartData Shape)
part_step kept mode row = level_step make_part (λ s. s) most_objects kept mode row

-- a component of a library symbol, or of an embedded one
abbrev pub component_of : ComponentLineData → Option (List PartData) → ComponentData
component_of p embedded = record {
  x = p.x;
  y = p.y;
  selectable = p.selectable;
  angle = p.angle;
  mirror = p.mirror;
  basename = p.basename;
  embedded = embedded;
}

-- among objects, and in a symbol
abbrev pub at_level : Level ObjectData Body → Place
at_level l = Objects l.kept l.mode

abbrev pub in_symbol : List ObjectData → ComponentLineData → Level PartData Shape → Place
in_symbol os p l = Inside os p l.kept l.mode

-- a component whose symbol is still to come
abbrev pub await : ComponentLineData → List ObjectData → Place
await p os = Waiting os p

-- the component with its symbol is the last object
abbrev pub with_symbol : List ObjectData → ComponentLineData → List PartData → Place
with_symbol os p parts = Objects os (Last (bodies.Component (component_of p (Some parts))))

-- what a row changes among objects
abbrev pub object_step : ℕ → List ObjectData → Mode Body → Row → Option Place
object_step most kept mode (Library p) =
    option_map at_level (push make_object most (bodies.Component (component_of p None)) kept mode)
object_step most kept mode (Embedding p) = option_map (await p) (room make_object most kept mode)
object_step most kept mode row =
    option_map at_level (level_step make_object bodies.Shape most kept mode row)

-- a component that awaits its symbol takes a `[` alone
abbrev pub waiting_step : List ObjectData → ComponentLineData → Row → Option Place
waiting_step os p OpenSymbol = Some (Inside os p [] Settled)
waiting_step os p row = None

-- in a symbol
abbrev pub inside_step : List ObjectData → ComponentLineData → List PartData → Mode Shape → Row →
    Option Place
inside_step os p kept mode CloseSymbol = option_map (with_symbol os p) (closed make_part kept mode)
inside_step os p kept mode row = option_map (in_symbol os p) (part_step kept mode row)

-- on a sheet
abbrev pub sheet_step : ℕ → Place → Row → Option Place
sheet_step most (Objects kept mode) row = object_step most kept mode row
sheet_step most (Waiting os p) row = waiting_step os p row
sheet_step most (Inside os p kept mode) row = inside_step os p kept mode row

-- the objects that are there when no row is left
abbrev pub sheet_end : Place → Option (List ObjectData)
sheet_end (Objects kept mode) = closed make_object kept mode
sheet_end place = None

-- the same of a symbol file
abbrev pub symbol_step : Level PartData Shape → Row → Option (Level PartData Shape)
symbol_step l row = part_step l.kept l.mode row

abbrev pub symbol_end : Level PartData Shape → Option (List PartData)
symbol_end l = closed make_part l.kept l.mode
