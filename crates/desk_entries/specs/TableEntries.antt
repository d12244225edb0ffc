-- What comes of it that the entries of a table are put into a history (own).
use Rattle.std.specs.Prelude.{◌≡◌, ◌⊎◌, ℕ, ◌+◌, List, [], ◌∷◌, ◌++◌, length, Some}
use Rattle.std.specs.List.{slice_get}
use Rattle.geda_grammar.specs.declared.kind.ReadKind.TheVariants.{TooLarge}
use Rattle.project_model.specs.Projects.{ProjectData}
use Rattle.edit_entries.specs.Entries.{EntryData}
use Rattle.edit_entries.specs.declared.fault.EditFault.{EditFault}
use Rattle.edit_entries.specs.declared.fault.EditFault.TheVariants as faults
use Rattle.edit_rules.specs.Histories.{project}
use Rattle.edit_rules.specs.Verdicts.{verdict}
use Rattle.edit_rules.specs.declared.verdict.Verdict.{Verdict}
use Rattle.edit_rules.specs.declared.verdict.Verdict.TheVariants as verdicts

-- the history or the project is full, or a text is longer than a file may be
abbrev pub IsLimit : EditFault → Type 0
IsLimit faults.HistoryFull = Unit {0}
IsLimit faults.ProjectFull = Unit {0}
IsLimit (faults.BadText TooLarge line) = Unit {0}
IsLimit _ = ⊥

-- an entry may follow
abbrev pub IsAccepted : Verdict → Type 0
IsAccepted (verdicts.Accept change) = Unit {0}
IsAccepted _ = ⊥

-- an entry may not follow, for one of these limits
abbrev pub IsLimited : Verdict → Type 0
IsLimited (verdicts.Refused fault) = IsLimit fault
IsLimited _ = ⊥

-- entries in order are all accepted
abbrev pub AreAccepted : List EntryData → List EntryData → Type 0
AreAccepted h [] = Unit {0}
AreAccepted h (e ∷ es) = IsAccepted (verdict h e) × AreAccepted (h ++ e ∷ []) es

-- so they are, or the first that is not is refused for a limit
abbrev pub AreAcceptedToLimit : List EntryData → List EntryData → Type 0
AreAcceptedToLimit h [] = Unit {0}
AreAcceptedToLimit h (e ∷ es) =
    (IsAccepted (verdict h e) × AreAcceptedToLimit (h ++ e ∷ []) es) ⊎ IsLimited (verdict h e)

-- entries that are meant to make this project act once
pub record ActOnce (h es : List EntryData) (meant : ProjectData) : Type 0 where
  -- they are accepted, up to a limit
  pub accepted : AreAcceptedToLimit h es
  -- where all are, the project is the one that is meant
  pub made : AreAccepted h es → project (h ++ es) ≡ meant
  -- and each of them that comes again changes nothing
  pub again : AreAccepted h es → (k : ℕ) (e : EntryData) → slice_get es k ≡ Some e →
      verdict (h ++ es) e ≡ verdicts.Repeat (length h + k)
