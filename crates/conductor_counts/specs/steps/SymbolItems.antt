-- The symbols among the things of a change.
use Rattle.std.specs.Prelude.{Bool, true, false}
use Rattle.project_model.specs.declared.change.Thing.{Thing}
use Rattle.project_model.specs.declared.change.Thing.TheVariants as things
use Rattle.project_model.specs.Items.{Item}

-- the thing is the name of a symbol
abbrev pub is_symbol_name : Thing → Bool
is_symbol_name (things.SymbolName name) = true
is_symbol_name other = false

-- the item gives a symbol its value
abbrev pub is_symbol : Item → Bool
is_symbol item = is_symbol_name item.0
