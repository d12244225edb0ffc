-- Steps of the code; no public clause cites them.
-- Sets of the pins of nets and of their names, and what is found by them.
use Rattle.std.specs.Prelude.{◌≡◌, ℕ, Bool, false, ◌&&◌, ◌||◌, List}
use Rattle.std.specs.BTreeSet.{BTreeSet}
use Rattle.std.specs.HashSet.{HashSet, contains}
use Rattle.std.specs.List.{flat_map, list_any}
use Rattle.std.specs.Ordering.{eq_by_cmp}
use Rattle.net_list.specs.declared.member.Member.{Member}
use Rattle.net_list.specs.declared.nets.Net.{Net}
use Rattle.printed_texts.specs.PrintedTexts.{pin_words}
use Rattle.text_tallies.specs.LookAlike.{look_alike}
use Rattle.text_tallies.specs.NameSets.{HasNames}
use Rattle.text_tallies.specs.PairSets.{HasPairs, PairData, by_pair, has_pair, same_pair}
use Rattle.text_tallies.specs.TwoOfAList.{two_pass}
use Rattle.text_tallies.specs.Levels.{found_if}
use Rattle.drc_findings.specs.declared.rule.Rule.TheVariants as drc
use Rattle.drc_findings.specs.declared.finding.Finding.{Finding}
use Rattle.drc_findings.specs.Findings.{an_error}
use Rattle.drc_rules.specs.OnNets.{has_pair_in, names_of_nets, pair_of}

-- a member with this refdes and this number
abbrev pub is_pair : PairData → Member → Bool
is_pair q m = same_pair q (pair_of m)

module _ {S : Type 0} where
  -- the pair is in the set of those that were seen
  abbrev pub is_seen : HashSet PairData S → PairData → Bool
  is_seen seen q = contains (eq_by_cmp by_pair) seen q

  -- one more pair
  abbrev pub AddsPair : PairData → HashSet PairData S → HashSet PairData S → Type 0
  AddsPair pair old new = (q : PairData) → is_seen new q ≡ (is_seen old q || same_pair q pair)

  -- one more pair, if it was seen
  abbrev pub AddsPairIfSeen :
      PairData → HashSet PairData S → BTreeSet PairData → BTreeSet PairData → Type 0
  AddsPairIfSeen pair seen old new = (q : PairData)
      → has_pair new q ≡ (has_pair old q || (is_seen seen q && same_pair q pair))

  -- the pairs of members
  abbrev pub AddsPairs : List Member → HashSet PairData S → HashSet PairData S → Type 0
  AddsPairs members old new = (q : PairData)
      → is_seen new q ≡ (is_seen old q || list_any (is_pair q) members)

  -- those that were seen
  abbrev pub AddsPairsIfSeen :
      List Member → HashSet PairData S → BTreeSet PairData → BTreeSet PairData → Type 0
  AddsPairsIfSeen members seen old new = (q : PairData)
      → has_pair new q ≡ (has_pair old q || (is_seen seen q && list_any (is_pair q) members))

  -- no member was seen
  abbrev pub AreUnseen : List Member → HashSet PairData S → Type 0
  AreUnseen members seen = (q : PairData)
      → (is_seen seen q && list_any (is_pair q) members) ≡ false

-- the set has the pins that are members of two of these nets
abbrev pub HasPinsOnTwo : List Net → BTreeSet PairData → Type 0
HasPinsOnTwo nets on_two = HasPairs (λ q. two_pass (has_pair_in q) nets) on_two

-- the set has the printed texts of names of these nets that differ and print alike
abbrev pub HasAlikeNames : List Net → BTreeSet (List ℕ) → Type 0
HasAlikeNames nets alike = HasNames (look_alike (names_of_nets nets)) alike

-- what is found on a member, by the set of the pins on two nets
abbrev pub member_on_two_by : BTreeSet PairData → Member → List Finding
member_on_two_by on_two m =
    found_if (has_pair on_two (pair_of m)) (an_error drc.PinOnTwoNets (pin_words m.refdes m.pin))

-- on members
abbrev pub pins_on_two_by : BTreeSet PairData → List Member → List Finding
pins_on_two_by on_two members = flat_map (member_on_two_by on_two) members
