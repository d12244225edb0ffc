-- Steps of the code; no public clause cites them.
-- One more name or pair in a set, and in that of those that stand twice.
use Rattle.std.specs.Prelude.{◌≡◌, ℕ, Bool, ◌&&◌, ◌||◌, List, []}
use Rattle.std.specs.BTreeSet.{BTreeSet}
use Rattle.std.specs.HashSet.{HashSet, contains}
use Rattle.std.specs.Ordering.{eq_by_cmp}
use Rattle.std.specs.Str.{bytes_eq}
use Rattle.text_tallies.specs.NameSets.{set_has_name}
use Rattle.text_tallies.specs.PairSets.{PairData, by_pair, has_pair, same_pair}

-- a name as a pair, with nothing behind it
unfoldable pub name_key : List ℕ → PairData
name_key name = record { first = name; second = [] }

module _ {S : Type 0} where
  -- the pair is in the set of those that were seen
  abbrev pub is_seen : HashSet PairData S → PairData → Bool
  is_seen seen q = contains (eq_by_cmp by_pair) seen q

  -- one more pair
  abbrev pub AddsPair : PairData → HashSet PairData S → HashSet PairData S → Type 0
  AddsPair pair old new = (q : PairData) → is_seen new q ≡ (is_seen old q || same_pair q pair)

  -- one more pair, if it was seen
  abbrev pub AddsPairIfSeen :
      PairData → HashSet PairData S → BTreeSet PairData → BTreeSet PairData → Type 0
  AddsPairIfSeen pair seen old new = (q : PairData)
      → has_pair new q ≡ (has_pair old q || (is_seen seen q && same_pair q pair))

  -- one more name
  abbrev pub AddsName : List ℕ → HashSet PairData S → HashSet PairData S → Type 0
  AddsName name old new = (q : List ℕ)
      → is_seen new (name_key q) ≡ (is_seen old (name_key q) || bytes_eq q name)

  -- one more name, if it was seen
  abbrev pub AddsNameIfSeen :
      List ℕ → HashSet PairData S → BTreeSet (List ℕ) → BTreeSet (List ℕ) → Type 0
  AddsNameIfSeen name seen old new = (q : List ℕ)
      → set_has_name new q ≡ (set_has_name old q || (is_seen seen (name_key q) && bytes_eq q name))
