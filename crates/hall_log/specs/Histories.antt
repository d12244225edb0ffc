-- Histories as a hall keeps them, and the entries that may follow one (own).
use Rattle.std.specs.Prelude.{◌≡◌, List, All}
use Rattle.edit_entries.specs.Entries.{EntryData, EntryIsInRange}
use Rattle.edit_rules.specs.Histories.{changes}
use Rattle.edit_rules.specs.Verdicts.{Legal, verdict}
use Rattle.edit_rules.specs.declared.verdict.Verdict.TheVariants as verdicts

-- a legal history, of entries that are in range
pub record IsHistory (h : List EntryData) : Type 0 where
  pub legal : Legal h
  pub in_range : All EntryIsInRange h

-- the rules accept the entry after this history, with what it changes
pub record MayFollow (h : List EntryData) (e : EntryData) : Type 0 where
  pub is : verdict h e ≡ verdicts.Accept (record { items = changes h e.edit })
