-- The order of findings (own): by code, then by the bytes of the words, then errors first.
use Rattle.std.specs.Prelude.{ℕ, List, []}
use Rattle.std.specs.declared.cmp.Ordering.{Ordering}
use Rattle.std.specs.List.{fold}
use Rattle.std.specs.BTreeSet.{insert_key}
use Rattle.std.specs.Cmp.{IsTotalOrder, on_total, then_total, nat_cmp_total}
use Rattle.std.specs.Cmp.Lexicographic.{slice_cmp, lists_total}
use Rattle.std.specs.Ordering.{nat_cmp, on, then_cmp}
use Rattle.drc_findings.specs.declared.finding.Finding.{Finding}
use Rattle.pin_matrix.specs.declared.level.Level.{Level}
use Rattle.pin_matrix.specs.declared.level.Level.TheVariants as levels

-- the place of a level in the order
abbrev pub level_rank : Level → ℕ
level_rank levels.Error = 0
level_rank levels.Warning = 1
level_rank levels.Correct = 2

-- by code, then by words, then by level
abbrev pub by_finding : Finding → Finding → Ordering
by_finding =
    then_cmp (then_cmp (on (λ f. f.code) nat_cmp) (on (λ f. f.words) (slice_cmp nat_cmp)))
    (on (λ f. level_rank f.level) nat_cmp)

-- findings are in a total order
pub by_finding_total : IsTotalOrder by_finding
by_finding_total =
    then_total
    (then_total (on_total (λ f. f.code) nat_cmp_total)
    (on_total (λ f. f.words) (lists_total nat_cmp_total)))
    (on_total (λ f. level_rank f.level) nat_cmp_total)

-- findings in order, with more, equal ones once
abbrev pub with_findings : List Finding → List Finding → List Finding
with_findings found more = fold (insert_key by_finding) found more

-- findings in order, equal ones once
abbrev pub findings_in_order : List Finding → List Finding
findings_in_order found = with_findings [] found
