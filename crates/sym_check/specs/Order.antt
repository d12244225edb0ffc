-- The order of findings (own): by code, then by the bytes of the words, then errors first.
use Rattle.std.specs.Prelude.{◌↔◌, ℕ, Bool, true, false, List, Contains}
use Rattle.std.specs.declared.cmp.Ordering.{Ordering}
use Rattle.std.specs.Cmp.{IsTotalOrder, on_total, then_total, nat_cmp_total}
use Rattle.std.specs.Cmp.Lexicographic.{slice_cmp, lists_total}
use Rattle.std.specs.List.Sorted.{IsStrictlySortedBy}
use Rattle.std.specs.Ordering.{nat_cmp, on, then_cmp}
use Rattle.sym_check.specs.declared.finding.SymFinding.{SymFinding}

-- the place of a level in the order
abbrev pub symbol_level_rank : Bool → ℕ
symbol_level_rank true = 0
symbol_level_rank false = 1

-- by code, then by words, then by level
abbrev pub by_symbol_finding : SymFinding → SymFinding → Ordering
by_symbol_finding =
    then_cmp (then_cmp (on (λ f. f.code) nat_cmp) (on (λ f. f.words) (slice_cmp nat_cmp)))
    (on (λ f. symbol_level_rank f.error) nat_cmp)

-- findings are in a total order
pub by_symbol_finding_total : IsTotalOrder by_symbol_finding
by_symbol_finding_total =
    then_total
    (then_total (on_total (λ f. f.code) nat_cmp_total)
    (on_total (λ f. f.words) (lists_total nat_cmp_total)))
    (on_total (λ f. symbol_level_rank f.error) nat_cmp_total)

-- a list has just these findings, in order and each once
pub record AreInOrder (found list : List SymFinding) : Type 0 where
  pub same : (f : SymFinding) → Contains list f ↔ Contains found f
  pub rising : IsStrictlySortedBy by_symbol_finding list
