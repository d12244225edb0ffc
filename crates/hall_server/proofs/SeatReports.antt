-- What a report leaves of a seat.
use Rattle.std.proofs.Common.{◌≡◌, ◌∙◌, ◌≤◌, ℕ, nat_lt, false, List, [], length, Option, Some, Result, Ok, Err, arith, sym, subst, append-nil}
use Rattle.std.proofs.lemmas.Bool.Decides.{nat_tests}
use mathlib.Core.List.{IsPrefix}
use Rattle.edit_entries.specs.Entries.{EntryData}
use Rattle.edit_rules.specs.Histories.{project}
use Rattle.edit_rules.specs.Verdicts.{Legal}
use Rattle.geda_defs.specs.Causes.{HasRisen}
use Rattle.hall_log.specs.Histories.{IsHistory}
use Rattle.hall_core.specs.BoardSteps.{IsShown, IsShownFrom}
use Rattle.hall_core.specs.Seats.{SeatData}
use Rattle.pin_matrix.specs.Matrices.{usual}
use Rattle.reports.specs.declared.fault.ReportFault.{ReportFault}
use Rattle.reports.specs.declared.fault.ReportFault.TheVariants as faults
use Rattle.reports.specs.declared.what.What.{What}
use Rattle.reports.specs.Reports as reports
use Rattle.web_requests.specs.Answers.{is_behind}
use Rattle.hall_server.specs.declared.shown.Shown.{Shown}
use Rattle.hall_server.specs.declared.shown.Shown.TheVariants as shown
use Rattle.hall_server.specs.Services.{Grows, IsShownReport}
use Rattle.hall_server.specs.steps.Looks.{IsReported, IsWanted, shown_of}

-- what is seen is as before
stays : (old new : List EntryData) → new ≡ old → Grows old new
stays old new same = (([], same ∙ sym (append-nil old)), λ legal. subst Legal (sym same) legal)

-- what is seen has grown to a history
grows : (old new : List EntryData) → IsPrefix old new → IsHistory new → Grows old new
grows old new begins history = ((begins.0, sym begins.1), λ legal. history.legal)

-- a look that was refused
pub refused_look : (old new : SeatData) (least : Option ℕ) (what : What) → new.seen ≡ old.seen → new.losses ≡ old.losses → HasRisen old.refusals new.refusals → old.refusals ≤ new.refusals → IsReported old new least what shown.NoEntry
refused_look old new least what seen losses risen later = record {
  grown = stays old.seen new.seen seen;
  told = tt;
  losses = losses;
  refusals = later;
  refused = λ none. risen;
  kept = λ none. seen;
}

-- a look that was answered
pub answered_look : (old new : SeatData) (least : Option ℕ) (what : What) (result : Shown) → IsPrefix old.seen new.seen → IsHistory new.seen → IsShownReport new.seen least what result → new.losses ≡ old.losses → old.refusals ≤ new.refusals → (result ≡ shown.NoEntry → ⊥) → IsReported old new least what result
answered_look old new least what result begins history told losses later some = record {
  grown = grows old.seen new.seen begins history;
  told = told;
  losses = losses;
  refusals = later;
  refused = λ none. absurd (some none);
  kept = λ none. absurd (some none);
}

risen_later : (before between now : ℕ) → before ≤ between → HasRisen between now → HasRisen before now
risen_later before between now later risen = omega (arith, later, risen)

-- what is reported after a look, as what is reported before it
pub after_look : (old mid new : SeatData) (least : Option ℕ) (what : What) (result : Shown) → mid.seen ≡ old.seen → mid.losses ≡ old.losses → old.refusals ≤ mid.refusals → IsReported mid new least what result → IsReported old new least what result
after_look old mid new least what result seen losses later is = record {
  grown = subst (λ (h : List EntryData). Grows h new.seen) seen is.grown;
  told = is.told;
  losses = is.losses ∙ losses;
  refusals = omega (arith, later, is.refusals);
  refused = λ none. risen_later old.refusals mid.refusals new.refusals later (is.refused none);
  kept = λ none. is.kept none ∙ seen;
}

-- a look that was answered showed what is then seen, which are as many entries as were wanted
pub was_shown : {S A : Type 0} (list : S → List EntryData) (least : ℕ) (h : List EntryData) (P : A → S → Type 0) (answer : Option A) (a : A) → answer ≡ Some a → IsShownFrom list least h P answer → (least ≤ length h) × IsShown list h (P a)
was_shown list least h P answer a is look = subst (IsShownFrom list least h P) is look

enough : (least : Option ℕ) (wanted n : ℕ) → IsWanted least wanted → wanted ≤ n → is_behind least n ≡ false
enough least wanted n is le = let few : nat_lt n wanted ≡ false = grind (arith, nat_tests, le) in is n ∙ few

-- what is shown of a report
told_shown : (h : List EntryData) (least : Option ℕ) (what : What) (front : ℕ) (told : Result (List ℕ) ReportFault) → front ≡ length h → is_behind least (length h) ≡ false → reports.Reports (project h) usual what told → IsShownReport h least what (shown_of front told)
told_shown h least what front (Ok text) at few is = (at, few, is)
told_shown h least what front (Err faults.NoSheet) at few is = (at, few, is, λ e. cc e)
told_shown h least what front (Err faults.NoSymbol) at few is = (at, few, is, λ e. cc e)
told_shown h least what front (Err faults.TooManyInstances) at few is = (at, few, is, λ e. cc e)
told_shown h least what front (Err faults.NoMemory) at few is = tt

-- it is no refusal
told_some : (front : ℕ) (told : Result (List ℕ) ReportFault) → shown_of front told ≡ shown.NoEntry → ⊥
told_some front (Ok text) e = cc e
told_some front (Err faults.NoSheet) e = cc e
told_some front (Err faults.NoSymbol) e = cc e
told_some front (Err faults.TooManyInstances) e = cc e
told_some front (Err faults.NoMemory) e = cc e

-- a report on what a look showed
pub look_reported : (old new : SeatData) (least : Option ℕ) (what : What) (wanted front : ℕ) (told : Result (List ℕ) ReportFault) (result : Shown) → IsPrefix old.seen new.seen → IsHistory new.seen → new.losses ≡ old.losses → old.refusals ≤ new.refusals
    → IsWanted least wanted → wanted ≤ length new.seen → front ≡ length new.seen → reports.Reports (project new.seen) usual what told → result ≡ shown_of front told → IsReported old new least what result
look_reported old new least what wanted front told result begins history losses later is_wanted le at report is =
    let all = told_shown new.seen least what front told at (enough least wanted (length new.seen) is_wanted le) report in
    subst (λ (r : Shown). IsReported old new least what r) (sym is)
    (answered_look old new least what (shown_of front told) begins history all losses later (told_some front told))
