-- What the check asks of each net pin of a symbol (gEDA File Format Document, pins; gEDA master
-- attribute document; the grid is own).
use Rattle.std.specs.Prelude.{ℕ, ◌+◌, ◌%◌, ◌==◌, ◌&&◌, unsigned_abs, Bool, true, false, not, List, [], ◌∷◌, Option, codes, filter, is_some}
use Rattle.std.specs.List.{slice_get}
use Rattle.geda_model.specs.declared.shape.Shape.{Shape}
use Rattle.geda_model.specs.declared.shape.Shape.TheVariants as shapes
use Rattle.geda_model.specs.Shapes.{PartData}
use Rattle.attr_rules.specs.Attributes.{values_named}
use Rattle.attr_rules.specs.Kinds.{kind_of}
use Rattle.attr_rules.specs.declared.kinds.PinKind.{PinKind}
use Rattle.attr_rules.specs.declared.kinds.PinKind.TheVariants as kinds
use Rattle.sym_check.specs.declared.checked.CheckedPin.{CheckedPin}

-- it is a net pin: a bus pin is none, nor is any other shape
abbrev pub is_net_pin : PartData → Bool
is_net_pin p = of_shape p.shape
  where
    of_shape : Shape → Bool
    of_shape (shapes.Pin x1 y1 x2 y2 color false whichend) = true
    of_shape other = false

-- a pin's first attached attribute of a name
abbrev pub attached_value : PartData → List ℕ → Option (List ℕ)
attached_value p name = slice_get (values_named name p.attrs) 0

-- one of the ten kinds that a `pintype` gives
abbrev pub is_known : PinKind → Bool
is_known kinds.Unknown = false
is_known other = true

-- so far from an axis are the lines of the grid
abbrev pub is_on_grid : ℕ → Bool
is_on_grid distance = distance % 100 == 0

-- a coordinate of the pin is no multiple of 100
abbrev pub is_off_grid : PartData → Bool
is_off_grid p = of_shape p.shape
  where
    of_shape : Shape → Bool
    of_shape (shapes.Pin x1 y1 x2 y2 color bus whichend) =
        not ((is_on_grid (unsigned_abs x1) && is_on_grid (unsigned_abs y1))
        && (is_on_grid (unsigned_abs x2) && is_on_grid (unsigned_abs y2)))
    of_shape other = false

-- a net pin at a place
abbrev pub pin_at : ℕ → PartData → CheckedPin
pin_at place p = record {
  place = place;
  number = attached_value p (codes "pinnumber");
  seq = attached_value p (codes "pinseq");
  has_label = is_some (attached_value p (codes "pinlabel"));
  has_kind = is_known (kind_of (attached_value p (codes "pintype")));
  is_off_grid = is_off_grid p;
}

-- the same of net pins of which the first has this place
abbrev pub pins_from : ℕ → List PartData → List CheckedPin
pins_from place [] = []
pins_from place (p ∷ ps) = pin_at place p ∷ pins_from (place + 1) ps

-- the net pins of a symbol in file order: their places count from 0
abbrev pub checked_pins : List PartData → List CheckedPin
checked_pins parts = pins_from 0 (filter is_net_pin parts)
