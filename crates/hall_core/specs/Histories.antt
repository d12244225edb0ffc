-- The verdict on one more entry of a hall's history, and what it changes (own).
use Rattle.std.specs.Prelude.{◌≡◌, ℕ, List, [], ◌∷◌, ◌++◌, take}
use Rattle.project_model.specs.Items.{Item}
use Rattle.edit_entries.specs.Entries.{EntryData}
use Rattle.edit_rules.specs.Histories.{changes, project}
use Rattle.edit_rules.specs.Verdicts.{verdict}
use Rattle.edit_rules.specs.declared.verdict.Verdict.{Verdict}

-- the rules say this of the entry after this history
pub record IsJudged (h : List EntryData) (e : EntryData) (v : Verdict) : Type 0 where
  pub is : verdict h e ≡ v

-- the items are what the next entry changes, by which the history goes on
pub record IsNextChange (before after : List EntryData) (items : List Item) : Type 0 where
  pub entry : EntryData
  pub grown : after ≡ before ++ entry ∷ []
  pub made : items ≡ changes before entry.edit

-- the id that was free first before the entry at a serial
abbrev pub first_id_at : List EntryData → ℕ → ℕ
first_id_at h serial = (project (take serial h)).next_id
