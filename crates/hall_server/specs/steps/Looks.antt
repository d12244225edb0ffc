-- What is shown of a report, and what it leaves of the seat (own).
use Rattle.std.specs.Prelude.{◌≡◌, ◌≤◌, ℕ, nat_lt, List, Option, Result, Ok, Err}
use Rattle.geda_defs.specs.Causes.{HasRisen}
use Rattle.hall_core.specs.Seats.{SeatData}
use Rattle.reports.specs.declared.what.What.{What}
use Rattle.reports.specs.declared.fault.ReportFault.{ReportFault}
use Rattle.reports.specs.declared.fault.ReportFault.TheVariants as faults
use Rattle.web_requests.specs.Answers.{is_behind}
use Rattle.hall_server.specs.declared.shown.Shown.{Shown}
use Rattle.hall_server.specs.declared.shown.Shown.TheVariants as shown
use Rattle.hall_server.specs.Services.{Grows, IsShownReport}

-- what is shown of a report on a history of so many entries
abbrev pub shown_of : ℕ → Result (List ℕ) ReportFault → Shown
shown_of front (Ok text) = shown.Text front text
shown_of front (Err faults.NoMemory) = shown.NoMemory
shown_of front (Err fault) = shown.Fault front fault

-- a history of fewer entries than these is too short for the report, and no other
abbrev pub IsWanted : Option ℕ → ℕ → Type 0
IsWanted least wanted = (front : ℕ) → is_behind least front ≡ nat_lt front wanted

-- what a seat is shown for a report, and what is seen and counted before and after it: what a
-- service promises of it
pub record IsReported (old new : SeatData) (least : Option ℕ) (what : What) (result : Shown)
    : Type 0 where
  pub grown : Grows old.seen new.seen
  pub told : IsShownReport new.seen least what result
  pub losses : new.losses ≡ old.losses
  pub refusals : old.refusals ≤ new.refusals
  pub refused : result ≡ shown.NoEntry → HasRisen old.refusals new.refusals
  pub kept : result ≡ shown.NoEntry → new.seen ≡ old.seen
