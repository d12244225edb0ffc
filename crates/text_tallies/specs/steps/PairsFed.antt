-- Steps of the code; no public clause cites them.
-- Pairs of texts that compare as equal are fed to a hash function alike: the law that `Hash` wants.
use Rattle.std.proofs.Common.{◌≡◌, ℕ, true, List, IsTrue, ◌∙◌, refl, sym, ◌++◌}
use Rattle.std.specs.Hash as fed
use Rattle.std.specs.Cmp.Lexicographic.{slice_cmp}
use Rattle.std.specs.Ordering.{eq_by_cmp, is_eq, nat_cmp, ordering_then}
use Rattle.std.specs.declared.cmp.Ordering.{Ordering}
use Rattle.std.specs.declared.cmp.Ordering.TheVariants.{Less, Equal, Greater}
use Rattle.std.proofs.lemmas.Map.Text.{is_eq-slice_cmp}
use Rattle.std.proofs.lemmas.Slice.Eq.{bytes_eq-Decides}
use Rattle.text_tallies.specs.PairHash.{pair_writes}
use Rattle.text_tallies.specs.PairSets.{PairData, by_pair}

both_equal : (a b : Ordering) → is_eq (ordering_then a b) ≡ true
    → (is_eq a ≡ true) × (is_eq b ≡ true)
both_equal Less b e = absurd (let h = e in cc)
both_equal Equal b e = (refl, e)
both_equal Greater b e = absurd (let h = e in cc)

same_text : (x y : List ℕ) → is_eq (slice_cmp nat_cmp x y) ≡ true → x ≡ y
same_text x y e = (bytes_eq-Decides x y).0 (sym (is_eq-slice_cmp x y) ∙ e)

pub pairs_fed : (p q : PairData) → IsTrue (eq_by_cmp by_pair p q) → pair_writes p ≡ pair_writes q
pairs_fed p q e =
    let a = slice_cmp nat_cmp p.first q.first in
    let b = slice_cmp nat_cmp p.second q.second in
    let both = both_equal a b e in
    let first = same_text p.first q.first both.0 in
    let second = same_text p.second q.second both.1 in
    λ i. fed.str (first i) ++ fed.str (second i)
