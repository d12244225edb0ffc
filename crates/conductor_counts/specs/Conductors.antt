-- How many conductors a project has (own): net segments, buses, and the net pins of components.
use Rattle.std.specs.Prelude.{ℕ, if◌then◌else◌, List, Option, None, Some, length}
use Rattle.std.specs.FinMap as finite
use Rattle.std.specs.Ordering.{nat_cmp}
use Rattle.std.specs.Cmp.Lexicographic.{slice_cmp}
use Rattle.geda_model.specs.Names.{is_name}
use Rattle.geda_model.specs.declared.shape.Shape.{Shape}
use Rattle.geda_model.specs.declared.shape.Shape.TheVariants as shapes
use Rattle.geda_model.specs.declared.object.Body.{Body}
use Rattle.geda_model.specs.declared.object.Body.TheVariants as bodies
use Rattle.geda_model.specs.Shapes.{ComponentData, PartData}
use Rattle.geda_model.specs.Sheets.{SymbolData}
use Rattle.pin_place.specs.SymbolPins.{symbol_pins}
use Rattle.pin_place.specs.Plans.{library_parts}
use Rattle.project_model.specs.Projects.{ProjectData}
use Rattle.edit_rules.specs.Weights.{Weights, weigh}

-- symbols by name
abbrev pub Symbols : Type 0
Symbols = finite.FinMap (slice_cmp nat_cmp) SymbolData

-- the symbol of this name
abbrev pub named : Symbols → List ℕ → Option SymbolData
named symbols text = if is_name text then finite.get symbols text else None

-- a net segment and a bus are one, other shapes none
abbrev pub shape_conductors : Shape → ℕ
shape_conductors (shapes.Net x1 y1 x2 y2 color) = 1
shape_conductors (shapes.Bus x1 y1 x2 y2 color ripper) = 1
shape_conductors other = 0

-- the net pins among the parts of a symbol
abbrev pub net_pins : List PartData → ℕ
net_pins parts = length (symbol_pins parts)

-- a component has one for each net pin of its symbol: the embedded one, else that of its name
abbrev pub component_conductors : Symbols → ComponentData → ℕ
component_conductors symbols c = of_symbol c.embedded
  where
    of_symbol : Option (List PartData) → ℕ
    of_symbol None = net_pins (library_parts (named symbols c.basename))
    of_symbol (Some parts) = net_pins parts

-- those of an object
abbrev pub body_conductors : Symbols → Body → ℕ
body_conductors symbols (bodies.Shape s) = shape_conductors s
body_conductors symbols (bodies.Component c) = component_conductors symbols c

-- what each value of a project counts
abbrev pub conductor_weights : Symbols → Weights
conductor_weights symbols = record {
  object = λ placed. body_conductors symbols placed.object.body;
  head = λ head. 0;
  symbol = λ symbol. 0;
}

-- the conductors of a project
abbrev pub conductors : ProjectData → ℕ
conductors p = weigh (conductor_weights p.symbols) p
