-- One more row of a keeper, as the history takes it (own).
use Rattle.std.specs.Prelude.{◌≡◌, ◌<◌, ◌+◌, ◌++◌, ◌∷◌, [], Bool, true, false, List, length, Option, None, Some, IfSome, Result, Ok, Err}
use mathlib.Core.List.{IsPrefix}
use Rattle.project_model.specs.declared.change.Change.{Change}
use Rattle.edit_entries.specs.Entries.{EntryData}
use Rattle.edit_rules.specs.Verdicts.{verdict}
use Rattle.edit_rules.specs.declared.verdict.Verdict.TheVariants.{Accept}
use Rattle.hall_core.specs.Rows.{IsRefusedAt}
use Rattle.hall_core.specs.declared.rows.OpenFault.{OpenFault}
use Rattle.hall_core.specs.declared.rows.OpenFault.TheVariants as faults

-- the next row with its change, which the rules accept after the history; or the history has all
abbrev pub FindsRow : Option (List EntryData) → List EntryData
    → Result (Option (EntryData × Change)) OpenFault → Type 0
FindsRow rows h (Ok (Some row)) =
    (verdict h row.0 ≡ Accept row.1)
    × IfSome rows (λ all. IsPrefix h all → IsPrefix (h ++ row.0 ∷ []) all)
FindsRow rows h (Ok None) = IfSome rows (λ all. IsPrefix h all → all ≡ h)
FindsRow rows h (Err (faults.RowRefused serial)) =
    IfSome rows (λ all. IsPrefix h all → IsRefusedAt all serial)
FindsRow rows h (Err _) = Unit {0}

-- the history takes one more row, or has them all
abbrev pub TakesRow : Option (List EntryData) → List EntryData → Result Bool OpenFault
    → List EntryData → Type 0
TakesRow rows old (Ok true) new =
    (length new ≡ length old + 1) × (length old < 200000)
    × IfSome rows (λ all. IsPrefix old all → IsPrefix new all)
TakesRow rows old (Ok false) new =
    (new ≡ old) × IfSome rows (λ all. IsPrefix old all → all ≡ old)
TakesRow rows old (Err (faults.RowRefused serial)) new =
    IfSome rows (λ all. IsPrefix old all → IsRefusedAt all serial)
TakesRow rows old (Err _) new = Unit {0}
