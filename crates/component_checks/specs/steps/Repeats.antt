-- Steps of the code; no public clause cites them.
-- Which refdes and which slots are given more than once.
use Rattle.std.specs.Prelude.{ℕ, Bool, ◌&&◌, if◌then◌else◌, List, Option, Some, None}
use Rattle.std.specs.BTreeSet.{BTreeSet}
use Rattle.std.specs.List.{filter_map, list_any}
use Rattle.std.specs.Str.{bytes_eq}
use Rattle.text_tallies.specs.NameSets.{HasNames, set_has_name}
use Rattle.text_tallies.specs.PairSets.{HasPairs, PairData, same_pair}
use Rattle.text_tallies.specs.TwoOfAList.{two_pass}
use Rattle.component_checks.specs.CheckedComponents.{CheckedData}
use Rattle.component_checks.specs.OnComponents.{is_listed_part, is_numbered_component, is_whole}
use Rattle.component_checks.specs.declared.repeats.Repeats.{Repeats}

-- the refdes of a numbered component
abbrev pub numbered_name : CheckedData → Option (List ℕ)
numbered_name c = if is_numbered_component c then c.refdes else None

-- the refdes of a numbered component that is whole
abbrev pub whole_name : CheckedData → Option (List ℕ)
whole_name c = if is_whole c then numbered_name c else None

-- a name, where it passes a test
abbrev pub passing_name : (List ℕ → Bool) → Option (List ℕ) → Option (List ℕ)
passing_name test None = None
passing_name test (Some name) = if test name then Some name else None

-- the same, where it is among these
abbrev pub clashing_name : BTreeSet (List ℕ) → CheckedData → Option (List ℕ)
clashing_name names c = passing_name (set_has_name names) (whole_name c)

-- a refdes, where there is one, and a slot
abbrev pub pair_of : Option (List ℕ) → List ℕ → Option PairData
pair_of None slot = None
pair_of (Some refdes) slot = Some (record { first = refdes; second = slot })

-- the same, where there is a slot too
abbrev pub pair_if : Option (List ℕ) → Option (List ℕ) → Option PairData
pair_if refdes None = None
pair_if refdes (Some slot) = pair_of refdes slot

-- the refdes and the slot of a listed part that has one
abbrev pub slotted_pair : CheckedData → Option PairData
slotted_pair c = if is_listed_part c then pair_if c.refdes c.slot else None

-- the sets have what these components have in common
pub record AreRepeats (cs : List CheckedData) (repeats : Repeats) : Type 0 where
  pub clashing : HasNames
      (λ q. two_pass (bytes_eq q) (filter_map numbered_name cs)
      && list_any (bytes_eq q) (filter_map whole_name cs)) repeats.clashing
  pub slotted :
      HasPairs (λ q. two_pass (same_pair q) (filter_map slotted_pair cs)) repeats.slotted
