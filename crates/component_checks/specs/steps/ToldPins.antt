-- Steps of the code; no public clause cites them.
-- What the check asks of the drawn pins of a component.
use Rattle.std.specs.Prelude.{◌≡◌, ℕ, Bool, ◌==◌, if◌then◌else◌, List, Option, Some, None, filter, length}
use Rattle.std.specs.List.{filter_map}
use Rattle.geda_model.specs.Sheets.{ObjectData, SymbolData}
use Rattle.attr_rules.specs.declared.kinds.PinKind.TheVariants as kinds
use Rattle.pin_matrix.specs.Matrices.{same_kind}
use Rattle.pin_place.specs.declared.pins.PlacedPin.{PlacedPin}
use Rattle.pin_place.specs.Pins.{is_drawn, pins_of}

-- the drawn pins of a component
abbrev pub drawn_of : ObjectData → Option SymbolData → List PlacedPin
drawn_of o library = filter is_drawn (pins_of o library)

-- the number of a pin of kind unknown
abbrev pub unknown_number : PlacedPin → Option (List ℕ)
unknown_number pin = if same_kind pin.kind kinds.Unknown then Some pin.number else None

-- whether there are no pins, and the numbers of those of kind unknown
pub record AreTold (pins : List PlacedPin) (has_none : Bool) (unknown : List (List ℕ))
    : Type 0 where
  pub none : has_none ≡ (length pins == 0)
  pub numbers : unknown ≡ filter_map unknown_number pins

-- the same is told of pins and of others
pub record AreAlike (pins others : List PlacedPin) : Type 0 where
  pub count : length pins ≡ length others
  pub unknown : filter_map unknown_number pins ≡ filter_map unknown_number others
