-- A hall that was just opened.
use Rattle.std.proofs.Common.{◌≡◌, ℕ, List, All, Option, Some, None, IfSome, sym, ◌∙◌, subst, arith}
use Rattle.std.proofs.lemmas.List.Elements.{All-weaker}
use Rattle.edit_entries.specs.Entries.{EntryData}
use Rattle.edit_rules.specs.Verdicts.{Legal}
use Rattle.hall_core.specs.Pens.{IsPen}
use Rattle.hall_core.specs.Seats.{SeatData, HasLostNothing, IsNew}

kept_at : (rows : Option (List EntryData)) (h h' : List EntryData) → IfSome rows (λ all. all ≡ h) → h' ≡ h → IfSome rows (λ all. all ≡ h')
kept_at None h h' kept same = tt
kept_at (Some all) h h' kept same = kept ∙ sym same

pub opens_pen : (rows rows' : Option (List EntryData)) (h h' : List EntryData) (total faults : ℕ) → rows' ≡ rows → IfSome rows (λ all. all ≡ h) → h' ≡ h → total ≡ 0 → IsPen h' rows' faults total
opens_pen rows rows' h h' total faults told kept same none =
    record { kept = subst (λ r. IfSome r (λ all. all ≡ h')) (sym told) (kept_at rows h h' kept same); bound = omega (arith, none) }

pub all_new : (rows : Option (List EntryData)) (h shown : List EntryData) (seats : List SeatData) → IfSome rows (λ all. all ≡ h) → Legal h → shown ≡ h → All (IsNew shown) seats
    → IfSome rows (λ all. All (IsNew all) seats × Legal all)
all_new None h shown seats kept legal same fresh = tt
all_new (Some all) h shown seats kept legal same fresh = (subst (λ l. All (IsNew l) seats) (same ∙ sym kept) fresh, subst Legal (sym kept) legal)

pub none_lost : (shown : List EntryData) (seats : List SeatData) → All (IsNew shown) seats → All HasLostNothing seats
none_lost shown seats fresh = All-weaker (IsNew shown) HasLostNothing (λ s is. (is.1, is.2)) seats fresh
