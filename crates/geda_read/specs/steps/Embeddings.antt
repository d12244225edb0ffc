-- Steps of the code; no public clause cites them.
-- A sheet that is being read, with the symbol that is to come or open behind its objects.
use Rattle.std.specs.Prelude.{◌≡◌, ◌<◌, [], length, Option, Some, None}
use Rattle.std.specs.Option.{option_map}
use Rattle.geda_model.specs.Limits.{most_objects}
use Rattle.geda_model.specs.Shapes.{PartData}
use Rattle.geda_model.specs.Sheets.{ObjectData}
use Rattle.geda_model.specs.declared.object.Body.{Body}
use Rattle.geda_model.specs.declared.shape.Shape.{Shape}
use Rattle.geda_grammar.specs.Components.{ComponentLineData}
use Rattle.geda_grammar.specs.declared.mode.Mode.TheVariants.{Settled}
use Rattle.geda_grammar.specs.declared.place.Place.{Place}
use Rattle.geda_grammar.specs.declared.place.Place.TheVariants.{Objects, Waiting, Inside}
use Rattle.geda_grammar.specs.declared.row.Row.{Row}
use Rattle.geda_grammar.specs.declared.row.Row.TheVariants.{OpenSymbol}
use Rattle.geda_grammar.specs.steps.Levels.{Level, closed}
use Rattle.geda_grammar.specs.steps.Sheets.{make_part, part_step, with_symbol}
use Rattle.geda_read.specs.declared.place.OpenSymbol as code

-- where the next row stands
abbrev pub place_of : Level ObjectData Body → Option code.OpenSymbol → Place
place_of objects None = Objects objects.kept objects.mode
place_of objects (Some symbol) = of_parts symbol.parts
  where
    of_parts : Option (Level PartData Shape) → Place
    of_parts None = Waiting objects.kept symbol.line
    of_parts (Some parts) = Inside objects.kept symbol.line parts.kept parts.mode

-- there is room for one more, and no block may come for the last one
abbrev pub IsEnded : Level ObjectData Body → Type 0
IsEnded objects = (length objects.kept < most_objects) × (objects.mode ≡ Settled)

-- so it is where the component of a symbol is to come
abbrev pub HasRoomFor : Level ObjectData Body → Option code.OpenSymbol → Type 0
HasRoomFor objects None = Unit {0}
HasRoomFor objects (Some symbol) = IsEnded objects

-- the same where no symbol is open
abbrev pub awaiting : Level ObjectData Body → Option ComponentLineData → Place
awaiting objects None = Objects objects.kept objects.mode
awaiting objects (Some line) = Waiting objects.kept line

abbrev pub IsEndedFor : Level ObjectData Body → Option ComponentLineData → Type 0
IsEndedFor objects None = Unit {0}
IsEndedFor objects (Some line) = IsEnded objects

-- a row that does not close the symbol
abbrev pub symbol_with : code.OpenSymbol → Level PartData Shape → code.OpenSymbol
symbol_with symbol parts = record { line = symbol.line; parts = Some parts }

abbrev pub embedding_step : code.OpenSymbol → Row → Option code.OpenSymbol
embedding_step symbol row = of_parts symbol.parts row
  where
    of_parts : Option (Level PartData Shape) → Row → Option code.OpenSymbol
    of_parts None OpenSymbol = Some (symbol_with symbol (record { kept = []; mode = Settled }))
    of_parts None row = None
    of_parts (Some parts) row =
        option_map (symbol_with symbol) (part_step parts.kept parts.mode row)

-- the row that closes it
abbrev pub close_step : Place → Option Place
close_step (Objects kept mode) = None
close_step (Waiting kept line) = None
close_step (Inside kept line parts mode) =
    option_map (with_symbol kept line) (closed make_part parts mode)
