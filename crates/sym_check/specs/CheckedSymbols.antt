-- What the check asks of a symbol (gEDA master attribute document).
use Rattle.std.specs.Prelude.{List, codes, is_some}
use Rattle.geda_model.specs.Shapes.{PartData}
use Rattle.geda_model.specs.Sheets.{SymbolData}
use Rattle.attr_rules.specs.Components.{is_value}
use Rattle.sym_check.specs.declared.checked.CheckedSymbol.{CheckedSymbol}
use Rattle.sym_check.specs.FreeAttributes.{free_value, free_values}
use Rattle.sym_check.specs.CheckedPins.{checked_pins}

-- a symbol with these parts as the check sees it
abbrev pub checked_parts : List PartData → CheckedSymbol
checked_parts parts = record {
  has_device = is_some (free_value (codes "device") parts);
  has_refdes = is_some (free_value (codes "refdes") parts);
  is_graphical = is_value (codes "1") (free_value (codes "graphical") parts);
  numslots = free_value (codes "numslots") parts;
  slotdefs = free_values (codes "slotdef") parts;
  nets = free_values (codes "net") parts;
  pins = checked_pins parts;
}

-- the same of a symbol
abbrev pub checked_symbol : SymbolData → CheckedSymbol
checked_symbol symbol = checked_parts symbol.parts
