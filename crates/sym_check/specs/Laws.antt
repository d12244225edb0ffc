-- What follows where nothing is found on the slots of a symbol (own).
use Rattle.std.specs.Prelude.{◌≡◌, ◌≤◌, ◌<◌, ◌⊎◌, ℕ, Some, Contains, IsOk, codes}
use Rattle.std.specs.Fmt.{decimal}
use Rattle.geda_model.specs.Sheets.{SymbolData}
use Rattle.attr_rules.specs.Slots.{slot_count, slot_pins}
use Rattle.sym_check.specs.declared.finding.SymFinding.{SymFinding}
use Rattle.sym_check.specs.FreeAttributes.{free_value, free_values}
use Rattle.sym_check.specs.Findings.{found_in_symbol}

-- it is none of BadNumslots, MissingSlotdef, DuplicateSlotdef and BadSlotdef
abbrev pub IsOffSlots : SymFinding → Type 0
IsOffSlots f = (f.code < 11) ⊎ (14 < f.code)

-- where no finding on a symbol is one of these four, and its free `numslots` is 1 to 4 digits of
-- the value n, each number from 1 to n is that of a slot whose pin numbers its free attributes give
abbrev pub SlotsHold : SymbolData → Type 0
SlotsHold symbol =
    ((f : SymFinding) → Contains (found_in_symbol symbol) f → IsOffSlots f)
    → (n k : ℕ) → slot_count (free_value (codes "numslots") symbol.parts) ≡ Some n
    → 0 < k → k ≤ n
    → IsOk (slot_pins (decimal k) (free_value (codes "numslots") symbol.parts)
    (free_values (codes "slotdef") symbol.parts))
