-- The attributes that stand free in a symbol (gEDA master attribute document).
use Rattle.std.specs.Prelude.{ℕ, List, Option}
use Rattle.std.specs.List.{filter_map, slice_get}
use Rattle.geda_model.specs.Shapes.{PartData}
use Rattle.attr_rules.specs.Attributes.{free_text, values_named}

-- the values of all free attributes of a name, in file order
abbrev pub free_values : List ℕ → List PartData → List (List ℕ)
free_values name parts = values_named name (filter_map free_text parts)

-- the value of the first one
abbrev pub free_value : List ℕ → List PartData → Option (List ℕ)
free_value name parts = slice_get (free_values name parts) 0
