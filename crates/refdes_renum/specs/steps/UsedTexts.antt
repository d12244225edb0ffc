-- What is kept of the texts in use, and of the numbers that were given.
use Rattle.std.specs.Prelude.{◌≡◌, ℕ, ◌≤◌, ◌<◌, ◌-◌, Bool, true, cond, List, Option, None, Some}
use Rattle.std.specs.List.{list_all, list_any}
use Rattle.std.specs.Option.{unwrap_or}
use Rattle.std.specs.Str.{bytes_eq}
use Rattle.attr_rules.specs.Components.{is_no_feed}
use Rattle.refdes_renum.specs.Numbers.{first_free, greatest_u64, is_taken, stem_with_number}

-- all numbers from 1 on to another one are taken, that one left out
abbrev pub AllTaken : List (List ℕ) → List ℕ → ℕ → Type 0
AllTaken used stem next = (n : ℕ) → 1 ≤ n → n < next → is_taken used stem n ≡ true

-- a number of 64 bits from 1 on, below which all are taken
pub record IsNext (used : List (List ℕ)) (stem : List ℕ) (next : ℕ) : Type 0 where
  pub from_one : 1 ≤ next
  pub small : next ≤ greatest_u64
  pub taken : AllTaken used stem next

-- the set has these texts, and each next number is one
pub record Tracks (used : List (List ℕ)) (has : List ℕ → Bool) (next : List ℕ → Option ℕ)
    : Type 0 where
  pub same : (text : List ℕ) → has text ≡ list_any (bytes_eq text) used
  pub passed : (stem : List ℕ) (n : ℕ) → next stem ≡ Some n → IsNext used stem n

-- the first number that is free from the next one of the stem on, or from 1 on
abbrev pub given_number : (List ℕ → Bool) → (List ℕ → Option ℕ) → List ℕ → ℕ
given_number has next stem =
    let from = unwrap_or (next stem) 1 in
    first_free (λ n. has (stem_with_number stem n)) from (greatest_u64 - from)

-- no byte is an LF
abbrev pub IsFeedless : List ℕ → Type 0
IsFeedless text = list_all is_no_feed text ≡ true

-- the same of a text that may be there
abbrev pub HasNoFeed : Option (List ℕ) → Type 0
HasNoFeed None = Unit {0}
HasNoFeed (Some text) = IsFeedless text

-- a text comes to those of a set
abbrev pub AddsText : List ℕ → (List ℕ → Bool) → (List ℕ → Bool) → Type 0
AddsText text old new = (q : List ℕ) → new q ≡ cond (bytes_eq text q) true (old q)

-- a stem gets a next number
abbrev pub SetsNext : List ℕ → ℕ → (List ℕ → Option ℕ) → (List ℕ → Option ℕ) → Type 0
SetsNext stem n old new = (q : List ℕ) → new q ≡ cond (bytes_eq stem q) (Some n) (old q)

-- a text that may be there comes to those of a set, and the next numbers stay
abbrev pub TakesRefdes : Option (List ℕ) → (List ℕ → Bool) → (List ℕ → Option ℕ)
    → (List ℕ → Bool) → (List ℕ → Option ℕ) → Type 0
TakesRefdes None has next new later = (new ≡ has) × (later ≡ next)
TakesRefdes (Some text) has next new later = AddsText text has new × (later ≡ next)
