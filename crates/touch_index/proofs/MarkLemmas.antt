-- The order of marks, and the marks that lie between two.
use Rattle.std.proofs.Common.{arith, ◌≡◌, ℕ, ◌≤◌, ◌-◌, Bool, true, false, cond, ◌≢◌, ◌⊎◌, inl, inr, ◌∙◌, sym, IsTrue, ap, refl}
use Rattle.std.proofs.lemmas.Grind.{common_steps}
use Rattle.std.specs.BTreeSet.{BTreeSet, contains, Updates}
use Rattle.std.specs.BTreeMap.{is_at}
use Rattle.std.specs.BTreeMap.Range.{IsLeBy, range_contains}
use Rattle.std.specs.declared.ops.Bound.TheVariants.{Included, Unbounded}
use Rattle.std.specs.Cmp.{IsTotalOrder, eq_by_cmp_equiv}
use Rattle.std.specs.Ordering.{nat_cmp, ordering_then}
use Rattle.std.proofs.lemmas.Cmp.{nat_cmp_total, then_total, on_total}
use Rattle.std.proofs.lemmas.Map.Lookups.{CmpEqualImpliesEq, exact_unsigned, exact_pairs}
use Rattle.std.proofs.lemmas.Map.Views.{range_contains-from_IsInRange, tells_apart}
use Rattle.geda_geom.specs.declared.conductor.Key.{Key}
use Rattle.touch_index.specs.declared.spans.Mark.{Mark}
use Rattle.touch_index.specs.declared.spans.Span.{Span}
use Rattle.geda_geom.specs.Keys.{by_key}
use Rattle.geda_geom.proofs.KeyLemmas.{by_key_total, exact_keys}
use Rattle.touch_index.specs.steps.Marks.{by_mark}
use Rattle.touch_index.specs.steps.Spans.{mark_at, mark_of, span_of}

pub exact_marks : CmpEqualImpliesEq by_mark
exact_marks a b h =
    let last = exact_pairs nat_cmp by_key exact_unsigned exact_keys in
    let then_by = λ (x y : ℕ × Key). ordering_then (nat_cmp x.0 y.0) (by_key x.1 y.1) in
    let third = exact_pairs nat_cmp then_by exact_unsigned last in
    let then_from = λ (x y : ℕ × (ℕ × Key)). ordering_then (nat_cmp x.0 y.0) (then_by x.1 y.1) in
    let second = exact_pairs nat_cmp then_from exact_unsigned third in
    let all = exact_pairs nat_cmp (λ (x y : ℕ × (ℕ × (ℕ × Key))). ordering_then (nat_cmp x.0 y.0) (then_from x.1 y.1)) exact_unsigned second in
    ap (λ (p : ℕ × (ℕ × (ℕ × (ℕ × Key)))). record { line = p.0; width = p.1.0; from = p.1.1.0; beyond = p.1.1.1.0; key = p.1.1.1.1 })
    (all (a.line, (a.width, (a.from, (a.beyond, a.key)))) (b.line, (b.width, (b.from, (b.beyond, b.key)))) h)

pub by_mark_total : IsTotalOrder by_mark
by_mark_total = then_total (on_total (λ m. m.line) nat_cmp_total)
    (then_total (on_total (λ m. m.width) nat_cmp_total) (then_total (on_total (λ m. m.from) nat_cmp_total)
    (then_total (on_total (λ m. m.beyond) nat_cmp_total) (on_total (λ m. m.key) by_key_total))))

first_low : (span : Span) (width from : ℕ) (m : Mark) → span.line ≡ m.line → width ≡ m.width → from ≤ m.from → IsLeBy by_mark (mark_at span width from) m
first_low span width from m together wide low = grind (arith, common_steps, together, wide, low)

-- a mark that begins no earlier stands among those from a place on
pub is_later : (span : Span) (width from : ℕ) (m : Mark) → span.line ≡ m.line → width ≡ m.width → from ≤ m.from
    → range_contains by_mark (Included (mark_at span width from)) Unbounded m ≡ true
is_later span width from m together wide low =
    range_contains-from_IsInRange by_mark_total (Included (mark_at span width from)) Unbounded m (first_low span width from m together wide low, tt)

-- the span of the mark of a span
pub span_of-mark_of : (s : Span) (k : Key) → s.to ≤ 4294967295 → span_of (mark_of s k) ≡ s
span_of-mark_of s k fits =
    let e : 4294967295 - (4294967295 - s.to) ≡ s.to = omega (arith, fits) in
    ap (λ (to : ℕ). record { line = s.line; from = s.from; to = to }) e

-- a mark more leaves the others
pub more_marked : (old new : BTreeSet Mark) (m q : Mark) → Updates by_mark old new m true → IsTrue (contains by_mark old q) → IsTrue (contains by_mark new q)
more_marked old new m q updates h = updates.0 q ∙ either (is_at (by_mark m) q) (contains by_mark old q) h
  where
    either : (b c : Bool) → c ≡ true → cond b true c ≡ true
    either true c h = refl
    either false c h = h

differs : (m q : Mark) → m ≢ q → is_at (by_mark m) q ≡ false
differs m q apart = go (is_at (by_mark m) q) refl
  where
    go : (b : Bool) → is_at (by_mark m) q ≡ b → b ≡ false
    go true e = absurd (apart (tells_apart exact_marks m q e))
    go false e = refl

-- so does a mark less
pub less_marked : (old new : BTreeSet Mark) (m q : Mark) → Updates by_mark old new m false → m ≢ q → IsTrue (contains by_mark old q) → IsTrue (contains by_mark new q)
less_marked old new m q updates apart h = updates.2 q (differs m q apart) ∙ h

-- a mark more is the only one
pub only_marked : (old new : BTreeSet Mark) (m q : Mark) → Updates by_mark old new m true → IsTrue (contains by_mark new q) → IsTrue (contains by_mark old q) ⊎ (q ≡ m)
only_marked old new m q updates h = go (is_at (by_mark m) q) refl (sym (updates.0 q) ∙ h)
  where
    go : (b : Bool) → is_at (by_mark m) q ≡ b → cond b true (contains by_mark old q) ≡ true → IsTrue (contains by_mark old q) ⊎ (q ≡ m)
    go true e p = inr (sym (tells_apart exact_marks m q e))
    go false e p = inl p

-- a mark that was taken out is gone
pub gone_marked : (old new : BTreeSet Mark) (m q : Mark) → Updates by_mark old new m false → IsTrue (contains by_mark new q) → IsTrue (contains by_mark old q) × (q ≢ m)
gone_marked old new m q updates h = go (is_at (by_mark m) q) refl (sym (updates.0 q) ∙ h)
  where
    ties : (a b : Mark) → a ≡ b → is_at (by_mark a) b ≡ true
    ties a b same = ap (λ (x : Mark). is_at (by_mark a) x) (sym same) ∙ (eq_by_cmp_equiv by_mark_total).refl a

    go : (b : Bool) → is_at (by_mark m) q ≡ b → cond b false (contains by_mark old q) ≡ true → IsTrue (contains by_mark old q) × (q ≢ m)
    go true e p = absurd (cc)
    go false e p = (p, λ same. let t = sym (ties m q (sym same)) ∙ e in absurd (cc))
