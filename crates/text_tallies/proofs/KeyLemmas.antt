-- One more name or pair in a set, as what the set has.
use Rattle.std.proofs.Common.{◌≡◌, ◌∙◌, ℕ, zero, suc, ◌+◌, ◌<◌, List, [], ◌∷◌, ◌&&◌, ◌||◌, Bool, true, false, cond, length, get_or, drop, ap, sym, refl, arith}
use Rattle.std.specs.BTreeSet as sorted
use Rattle.std.specs.Cmp.{eq_by_cmp_equiv, nat_cmp_total}
use Rattle.std.specs.Cmp.Lexicographic.{lists_total, slice_cmp}
use Rattle.std.specs.HashSet as hash
use Rattle.std.specs.Ordering.{eq_by_cmp, nat_cmp}
use Rattle.std.specs.Str.{bytes_eq}
use Rattle.std.proofs.lemmas.Map.Text.{is_eq-slice_cmp}
use Rattle.geda_defs.proofs.Bytes.{bytes_same}
use Rattle.text_tallies.specs.NameSets.{set_has_name}
use Rattle.text_tallies.specs.PairSets.{PairData, by_pair, has_pair, same_pair}
use Rattle.text_tallies.specs.steps.KeySteps.{AddsName, AddsNameIfSeen, AddsPair, AddsPairIfSeen, is_seen, name_key}
use Rattle.text_tallies.proofs.PairLemmas.{and_false}
use Rattle.text_tallies.proofs.SetLemmas.{adds, by_pair_total, pair_equal, pair_exact}

-- the rest of a list from a member on
pub drop_next : {X : Type 0} (xs : List X) (k : ℕ) (x : X) → k < length xs → x ≡ get_or xs k x → drop k xs ≡ x ∷ drop (k + 1) xs
drop_next [] k x h e = absurd (omega arith)
drop_next {X} (z ∷ zs) zero x h e = ap (λ (y : X). y ∷ zs) (sym e)
drop_next {X} (z ∷ zs) (suc k) x h e =
    let n : suc k + 1 ≡ suc (k + 1) = omega arith in
    drop_next zs k x (omega arith) e ∙ sym (ap (λ (m : ℕ). x ∷ drop m (z ∷ zs)) n)

or_cond : (a b : Bool) → cond b true a ≡ (a || b)
or_cond true true = refl
or_cond true false = refl
or_cond false true = refl
or_cond false false = refl

and_true : (b : Bool) → (b && true) ≡ b
and_true true = refl
and_true false = refl

-- two names are one exactly where their pairs are
same_name : (q name : List ℕ) → same_pair (name_key q) (name_key name) ≡ bytes_eq q name
unfolding name_key
same_name q name = and_true (bytes_eq q name)

module _ {S : Type 0} where
  -- an insertion adds
  pub pair_adds : (pair : PairData) (old new : hash.HashSet PairData S)
      → hash.Updates (eq_by_cmp by_pair) old new pair true → AddsPair pair old new
  pair_adds pair old new updates q =
      updates.0 q ∙ rw ((eq_by_cmp_equiv by_pair_total).symm pair q, pair_equal q pair) (or_cond (is_seen old q) (same_pair q pair))

  pub name_adds : (name : List ℕ) (old new : hash.HashSet PairData S)
      → hash.Updates (eq_by_cmp by_pair) old new (name_key name) true → AddsName name old new
  name_adds name old new updates q =
      pair_adds (name_key name) old new updates (name_key q) ∙ ap (λ (b : Bool). is_seen old (name_key q) || b) (same_name q name)

  -- a pair that was seen is added
  pub pair_seen : (pair : PairData) (seen : hash.HashSet PairData S) (old new : sorted.BTreeSet PairData)
      → is_seen seen pair ≡ true → sorted.Updates by_pair old new pair true → AddsPairIfSeen pair seen old new
  pair_seen pair seen old new met updates q =
      adds by_pair_total pair old new updates q ∙ rw (pair_equal q pair) (by (same_pair q pair) refl)
    where
      by : (b : Bool) → same_pair q pair ≡ b → (has_pair old q || b) ≡ (has_pair old q || (is_seen seen q && b))
      by true e = rw (pair_exact q pair e, met) refl
      by false e = rw (and_false (is_seen seen q)) refl

  -- a name that was seen is added
  pub name_seen : (name : List ℕ) (seen : hash.HashSet PairData S) (old new : sorted.BTreeSet (List ℕ))
      → is_seen seen (name_key name) ≡ true → sorted.Updates (slice_cmp nat_cmp) old new name true → AddsNameIfSeen name seen old new
  name_seen name seen old new met updates q =
      adds (lists_total nat_cmp_total) name old new updates q ∙ rw (is_eq-slice_cmp q name) (by (bytes_eq q name) refl)
    where
      by : (b : Bool) → bytes_eq q name ≡ b → (set_has_name old q || b) ≡ (set_has_name old q || (is_seen seen (name_key q) && b))
      by true e = rw (bytes_same q name e, met) refl
      by false e = rw (and_false (is_seen seen (name_key q))) refl
