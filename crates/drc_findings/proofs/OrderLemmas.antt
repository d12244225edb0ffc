-- Findings in order are those that were found, and rise.
use Rattle.std.proofs.Common.{◌≡◌, ◌∙◌, List, [], ◌∷◌, Bool, true, false, ◌||◌, refl, ap, sym, arith}
use Rattle.std.specs.Prelude.{Contains, ◌↔◌}
use Rattle.std.specs.List.{list_any}
use Rattle.std.specs.List.Sorted.{IsStrictlySortedBy}
use Rattle.std.specs.BTreeSet.{insert_key}
use Rattle.std.specs.Cmp.{eq_by_cmp_equiv}
use Rattle.std.specs.Ordering.{eq_by_cmp, match_ordering, nat_cmp, ordering_then, then_cmp, on}
use Rattle.std.specs.declared.cmp.Ordering.{Ordering}
use Rattle.std.specs.declared.cmp.Ordering.TheVariants.{Less, Equal, Greater}
use Rattle.std.specs.Cmp.Lexicographic.{slice_cmp}
use Rattle.std.proofs.lemmas.Map.Lookups.{CmpEqualImpliesEq, exact_bytes, exact_unsigned}
use Rattle.std.proofs.lemmas.Map.Views.{Contains-from_any, list_any-from_Contains, tells_apart}
use Rattle.geda_defs.proofs.OnceLaws.{is_once_in_order}
use Rattle.drc_findings.specs.declared.finding.Finding.{Finding}
use Rattle.pin_matrix.specs.declared.level.Level.{Level}
use Rattle.pin_matrix.specs.declared.level.Level.TheVariants as levels
use Rattle.drc_findings.specs.Order.{by_finding, by_finding_total, findings_in_order, level_rank, with_findings}

or_turn : (a b c : Bool) → (a || (b || c)) ≡ (b || (a || c))
or_turn true true c = refl
or_turn true false c = refl
or_turn false true c = refl
or_turn false false c = refl

or_again : (a c : Bool) → (a || c) ≡ (a || (a || c))
or_again true c = refl
or_again false c = refl

same_level : (a b : Level) → level_rank a ≡ level_rank b → a ≡ b
same_level levels.Correct levels.Correct e = refl
same_level levels.Correct levels.Warning e = absurd (omega (arith, e))
same_level levels.Correct levels.Error e = absurd (omega (arith, e))
same_level levels.Warning levels.Correct e = absurd (omega (arith, e))
same_level levels.Warning levels.Warning e = refl
same_level levels.Warning levels.Error e = absurd (omega (arith, e))
same_level levels.Error levels.Correct e = absurd (omega (arith, e))
same_level levels.Error levels.Warning e = absurd (omega (arith, e))
same_level levels.Error levels.Error e = refl

both_equal : (a b : Ordering) → ordering_then a b ≡ Equal → (a ≡ Equal) × (b ≡ Equal)
both_equal Less b e = absurd (let h = e in cc)
both_equal Equal b e = (refl, e)
both_equal Greater b e = absurd (let h = e in cc)

same_finding : (f g : Finding) → f.code ≡ g.code → f.words ≡ g.words → f.level ≡ g.level → f ≡ g
same_finding f g c w l = λ i. record { code = c i; level = l i; words = w i }

-- findings that compare as equal are equal
pub exact_findings : CmpEqualImpliesEq by_finding
exact_findings f g e =
    let outer = both_equal (then_cmp (on (λ (h : Finding). h.code) nat_cmp) (on (λ (h : Finding). h.words) (slice_cmp nat_cmp)) f g) (nat_cmp (level_rank f.level) (level_rank g.level)) e in
    let inner = both_equal (nat_cmp f.code g.code) (slice_cmp nat_cmp f.words g.words) outer.0 in
    same_finding f g (exact_unsigned f.code g.code inner.0) (exact_bytes f.words g.words inner.1)
    (same_level f.level g.level (exact_unsigned (level_rank f.level) (level_rank g.level) outer.1))

-- it is this finding
abbrev is_it : Finding → Finding → Bool
is_it f g = eq_by_cmp by_finding f g

insert_more : (f new x : Finding) (xs : List Finding)
    → list_any (is_it f) (insert_key by_finding xs new) ≡ (is_it f new || list_any (is_it f) xs)
    → (r : Ordering) → by_finding new x ≡ r
    → list_any (is_it f) (match_ordering r (new ∷ x ∷ xs) (x ∷ xs) (x ∷ insert_key by_finding xs new)) ≡ (is_it f new || (is_it f x || list_any (is_it f) xs))
insert_more f new x xs ih Less e = refl
insert_more f new x xs ih Equal e =
    or_again (is_it f x) (list_any (is_it f) xs)
    ∙ ap (λ (g : Finding). is_it f g || (is_it f x || list_any (is_it f) xs)) (sym (exact_findings new x e))
insert_more f new x xs ih Greater e = ap (λ (b : Bool). is_it f x || b) ih ∙ or_turn (is_it f x) (is_it f new) (list_any (is_it f) xs)

insert_has : (f new : Finding) (xs : List Finding) → list_any (is_it f) (insert_key by_finding xs new) ≡ (is_it f new || list_any (is_it f) xs)
insert_has f new [] = refl
insert_has f new (x ∷ xs) = insert_more f new x xs (insert_has f new xs) (by_finding new x) refl

with_has : (f : Finding) (found more : List Finding) → list_any (is_it f) (with_findings found more) ≡ (list_any (is_it f) more || list_any (is_it f) found)
with_has f found [] = refl
with_has f found (x ∷ xs) =
    with_has f (insert_key by_finding found x) xs
    ∙ (ap (λ (b : Bool). list_any (is_it f) xs || b) (insert_has f x found)
    ∙ or_turned (list_any (is_it f) xs) (is_it f x) (list_any (is_it f) found))
  where
    or_turned : (a b c : Bool) → (a || (b || c)) ≡ ((b || a) || c)
    or_turned true true c = refl
    or_turned true false c = refl
    or_turned false true c = refl
    or_turned false false c = refl

or_false : (b : Bool) → (b || false) ≡ b
or_false true = refl
or_false false = refl

order_has : (f : Finding) (found : List Finding) → list_any (is_it f) (findings_in_order found) ≡ list_any (is_it f) found
order_has f found = with_has f [] found ∙ or_false (list_any (is_it f) found)

-- findings in order have just the findings
pub order_keeps : (found : List Finding) (f : Finding) → Contains (findings_in_order found) f ↔ Contains found f
order_keeps found f = (
  λ k. Contains-from_any (tells_apart exact_findings) f found (sym (order_has f found) ∙ list_any-from_Contains (eq_by_cmp_equiv by_finding_total) f (findings_in_order found) k),
  λ k. Contains-from_any (tells_apart exact_findings) f (findings_in_order found) (order_has f found ∙ list_any-from_Contains (eq_by_cmp_equiv by_finding_total) f found k),
)

-- findings in order rise
pub order_rises : (found : List Finding) → IsStrictlySortedBy by_finding (findings_in_order found)
order_rises found = (is_once_in_order by_finding_total found).rising
