-- One more key in a set, as what the set has; and two pairs of texts.
use Rattle.std.proofs.Common.{◌≡◌, ◌∙◌, Bool, true, false, ◌&&◌, ◌||◌, cond, refl, sym}
use Rattle.std.specs.BTreeSet.{BTreeSet, Updates, contains}
use Rattle.std.specs.Cmp.{IsTotalOrder, eq_by_cmp_equiv, nat_cmp_total, on_total, then_total}
use Rattle.std.specs.Cmp.Lexicographic.{lists_total, slice_cmp}
use Rattle.std.specs.Ordering.{eq_by_cmp, is_eq, nat_cmp, ordering_then}
use Rattle.std.specs.Str.{bytes_eq}
use Rattle.std.specs.declared.cmp.Ordering.{Ordering}
use Rattle.std.specs.declared.cmp.Ordering.TheVariants.{Less, Equal, Greater}
use Rattle.std.proofs.lemmas.Map.Text.{is_eq-slice_cmp}
use Rattle.std.proofs.lemmas.Bool.{and_parts}
use Rattle.geda_defs.proofs.Bytes.{bytes_same}
use Rattle.text_tallies.specs.PairSets.{PairData, by_pair, same_pair}
use Rattle.text_tallies.specs.steps.SetSteps.{Adds}
use Rattle.text_tallies.proofs.PairLemmas.{or_false}

or_true : (b : Bool) → (b || true) ≡ true
or_true true = refl
or_true false = refl

module _ {K : Type 0} {cmp : K → K → Ordering} (o : IsTotalOrder cmp) where
  -- an insertion adds
  pub adds : (key : K) (old new : BTreeSet K) → Updates cmp old new key true → Adds cmp key old new
  adds key old new updates q = updates.0 q ∙ rw ((eq_by_cmp_equiv o).symm key q) (by (eq_by_cmp cmp q key))
    where
      by : (b : Bool) → cond b true (contains cmp old q) ≡ (contains cmp old q || b)
      by true = sym (or_true (contains cmp old q))
      by false = sym (or_false (contains cmp old q))

eq_then : (a b : Ordering) → is_eq (ordering_then a b) ≡ (is_eq a && is_eq b)
eq_then Less b = refl
eq_then Equal b = refl
eq_then Greater b = refl

-- two pairs compare as equal exactly where they are the same two texts
pub pair_equal : (q k : PairData) → eq_by_cmp by_pair q k ≡ same_pair q k
pair_equal q k =
    eq_then (slice_cmp nat_cmp q.first k.first) (slice_cmp nat_cmp q.second k.second)
    ∙ rw (is_eq-slice_cmp q.first k.first, is_eq-slice_cmp q.second k.second) refl

-- the same two texts are one pair
pub pair_exact : (q k : PairData) → same_pair q k ≡ true → q ≡ k
pair_exact q k e =
    let f = bytes_same q.first k.first ((and_parts (bytes_eq q.first k.first) (bytes_eq q.second k.second) e).0) in
    let s = bytes_same q.second k.second ((and_parts (bytes_eq q.first k.first) (bytes_eq q.second k.second) e).1) in
    λ i. record { first = f i; second = s i }

-- pairs are in a total order
pub by_pair_total : IsTotalOrder by_pair
by_pair_total =
    then_total (on_total (λ (p : PairData). p.first) (lists_total nat_cmp_total)) (on_total (λ (p : PairData). p.second) (lists_total nat_cmp_total))
