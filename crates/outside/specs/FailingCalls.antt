-- The calls of a form in memory that are to fail (own).
use Rattle.std.specs.Prelude.{ℕ, List, Contains}
use Rattle.outside.specs.Counts.{one_more}

-- the numbers of the calls that fail, and how many calls there were and failed
pub record FailingCallsData : Type 0 where
  pub failing : List ℕ
  pub calls : ℕ
  pub faults : ℕ

-- the next call is to fail
abbrev pub NextFails : FailingCallsData → Type 0
NextFails planned = Contains planned.failing (one_more planned.calls)

-- after a call that did not fail
abbrev pub after_call : FailingCallsData → FailingCallsData
after_call planned = record {
  failing = planned.failing;
  calls = one_more planned.calls;
  faults = planned.faults;
}

-- after a call that failed
abbrev pub after_fault : FailingCallsData → FailingCallsData
after_fault planned = record {
  failing = planned.failing;
  calls = one_more planned.calls;
  faults = one_more planned.faults;
}
