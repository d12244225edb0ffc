-- A list of what is found in a symbol.
use Rattle.std.proofs.Common.{◌≡◌, ◌↔◌, List, Contains}
use Rattle.std.specs.List.Sorted.{IsStrictlySortedBy}
use Rattle.geda_model.specs.Sheets.{SymbolData}
use Rattle.sym_check.specs.declared.finding.SymFinding.{SymFinding}
use Rattle.sym_check.specs.CheckedSymbols.{checked_symbol}
use Rattle.sym_check.specs.Findings.{found_in_symbol, found_on_symbol}
use Rattle.sym_check.specs.Order.{by_symbol_finding}

-- the list has what the set has, which has what is found
pub contains_same : (symbol : SymbolData) (list keys found : List SymFinding) → list ≡ keys → ((f : SymFinding) → Contains keys f ↔ Contains found f)
    → found ≡ found_on_symbol (checked_symbol symbol) → (f : SymFinding) → Contains list f ↔ Contains (found_in_symbol symbol) f
unfolding found_in_symbol
contains_same symbol list keys found same has all f = rw same (rw all at has f)

-- and rises as it does
pub rises : (list keys : List SymFinding) → list ≡ keys → IsStrictlySortedBy by_symbol_finding keys → IsStrictlySortedBy by_symbol_finding list
rises list keys same sorted = rw same sorted
