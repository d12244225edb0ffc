-- Sets of pins, as what they have, and what is found by them.
use Rattle.std.proofs.Common.{◌≡◌, ◌∙◌, List, [], ◌∷◌, ◌++◌, Bool, true, false, ◌&&◌, ◌||◌, ap, append-nil, append_assoc, arith, cond, length, refl, sym}
use Rattle.std.specs.BTreeSet as sorted
use Rattle.std.specs.Cmp.{eq_by_cmp_equiv}
use Rattle.std.specs.HashSet as hash
use Rattle.std.specs.List.{flat_map}
use Rattle.std.specs.Ordering.{eq_by_cmp}
use Rattle.net_list.specs.declared.member.Member.{Member}
use Rattle.net_list.specs.declared.nets.Net.{Net}
use Rattle.text_tallies.specs.PairSets.{PairData, by_pair, has_pair, same_pair}
use Rattle.text_tallies.proofs.PairLemmas.{and_false}
use Rattle.text_tallies.proofs.SetLemmas.{adds, by_pair_total, pair_equal, pair_exact}
use Rattle.drc_findings.specs.declared.finding.Finding.{Finding}
use Rattle.drc_rules.specs.OnNets.{member_on_two, pair_of}
use Rattle.drc_rules.specs.steps.Pins.{AddsPair, AddsPairIfSeen, HasPinsOnTwo, is_seen, pins_on_two_by}

-- one more pair among those that were seen
pub seen_more : (twice seen here more : Bool) → ((twice || (seen && here)) || (seen && more)) ≡ (twice || (seen && (here || more)))
seen_more true seen here more = refl
seen_more false true here more = refl
seen_more false false here more = refl

module _ {S : Type 0} where
  -- an insertion adds
  pub pair_adds : (pair : PairData) (old new : hash.HashSet PairData S)
      → hash.Updates (eq_by_cmp by_pair) old new pair true → AddsPair pair old new
  pair_adds pair old new updates q =
      updates.0 q ∙ rw ((eq_by_cmp_equiv by_pair_total).symm pair q, pair_equal q pair) (by (is_seen old q) (same_pair q pair))
    where
      by : (a b : Bool) → cond b true a ≡ (a || b)
      by true true = refl
      by true false = refl
      by false true = refl
      by false false = refl

  -- a pair that was seen is added
  pub pair_seen : (pair : PairData) (seen : hash.HashSet PairData S) (old new : sorted.BTreeSet PairData)
      → is_seen seen pair ≡ true → sorted.Updates by_pair old new pair true → AddsPairIfSeen pair seen old new
  pair_seen pair seen old new met updates q =
      adds by_pair_total pair old new updates q ∙ rw (pair_equal q pair) (by (same_pair q pair) refl)
    where
      by : (b : Bool) → same_pair q pair ≡ b → (has_pair old q || b) ≡ (has_pair old q || (is_seen seen q && b))
      by true e = rw (pair_exact q pair e, met) refl
      by false e = rw (and_false (is_seen seen q)) refl

  -- a pair that is new is none that was seen
  pub new_apart : (pair : PairData) (seen : hash.HashSet PairData S) → is_seen seen pair ≡ false
      → (q : PairData) → (is_seen seen q && same_pair q pair) ≡ false
  new_apart pair seen new q = by (same_pair q pair) refl
    where
      by : (b : Bool) → same_pair q pair ≡ b → (is_seen seen q && b) ≡ false
      by true e = rw (pair_exact q pair e, new) refl
      by false e = and_false (is_seen seen q)

-- one more pair in front of others
pub or_moved : (seen here more : Bool) → ((seen || here) || more) ≡ (seen || (here || more))
or_moved true here more = refl
or_moved false here more = refl

-- none was seen before: neither it nor the others
pub apart_moved : (seen here more : Bool) → (seen && here) ≡ false → ((seen || here) && more) ≡ false → (seen && (here || more)) ≡ false
apart_moved true true more e f = e
apart_moved true false more e f = f
apart_moved false here more e f = refl

no_pairs : {A : Type 0} (xs : List A) → length xs ≡ 0 → xs ≡ []
no_pairs [] e = refl
no_pairs (x ∷ xs) e = absurd (omega (arith, e))

-- where no pin is on two nets, nothing is found on members
pub none_on_two : (found : List Finding) (on_two : sorted.BTreeSet PairData) (members : List Member) → length on_two.keys ≡ 0
    → found ≡ found ++ pins_on_two_by on_two members
none_on_two found on_two members empty = sym (ap (λ (more : List Finding). found ++ more) (none members) ∙ append-nil found)
  where
    none : (members : List Member) → pins_on_two_by on_two members ≡ []
    none [] = refl
    none (m ∷ ms) = rw (no_pairs on_two.keys empty, none ms) refl

-- what is found by the set of the pins on two nets is what is found
pub on_two_are : (nets : List Net) (on_two : sorted.BTreeSet PairData) → HasPinsOnTwo nets on_two → (members : List Member)
    → pins_on_two_by on_two members ≡ flat_map (member_on_two nets) members
on_two_are nets on_two has [] = refl
on_two_are nets on_two has (m ∷ ms) = rw (has (pair_of m), on_two_are nets on_two has ms) refl

-- six lists behind another, added one by one
pub six_behind : {A : Type 0} (found a b c d e f : List A)
    → found ++ a ++ b ++ c ++ d ++ e ++ f ≡ found ++ (a ++ (b ++ (c ++ (d ++ (e ++ f)))))
six_behind found a b c d e f =
    append_assoc (found ++ a ++ b ++ c ++ d) e f
    ∙ append_assoc (found ++ a ++ b ++ c) d (e ++ f)
    ∙ append_assoc (found ++ a ++ b) c (d ++ (e ++ f))
    ∙ append_assoc (found ++ a) b (c ++ (d ++ (e ++ f)))
    ∙ append_assoc found a (b ++ (c ++ (d ++ (e ++ f))))
