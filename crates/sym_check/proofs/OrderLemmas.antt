-- Findings that compare as equal are equal.
use Rattle.std.proofs.Common.{◌≡◌, Bool, true, false, refl, arith}
use Rattle.std.specs.Ordering.{nat_cmp, ordering_then, then_cmp, on}
use Rattle.std.specs.declared.cmp.Ordering.{Ordering}
use Rattle.std.specs.declared.cmp.Ordering.TheVariants.{Less, Equal, Greater}
use Rattle.std.specs.Cmp.Lexicographic.{slice_cmp}
use Rattle.std.proofs.lemmas.Map.Lookups.{CmpEqualImpliesEq, exact_bytes, exact_unsigned}
use Rattle.sym_check.specs.declared.finding.SymFinding.{SymFinding}
use Rattle.sym_check.specs.Order.{by_symbol_finding, symbol_level_rank}

same_level : (a b : Bool) → symbol_level_rank a ≡ symbol_level_rank b → a ≡ b
same_level true true e = refl
same_level true false e = absurd (omega (arith, e))
same_level false true e = absurd (omega (arith, e))
same_level false false e = refl

both_equal : (a b : Ordering) → ordering_then a b ≡ Equal → (a ≡ Equal) × (b ≡ Equal)
both_equal Less b e = absurd (let h = e in cc)
both_equal Equal b e = (refl, e)
both_equal Greater b e = absurd (let h = e in cc)

same_finding : (f g : SymFinding) → f.code ≡ g.code → f.words ≡ g.words → f.error ≡ g.error → f ≡ g
same_finding f g c w l = λ i. record { code = c i; error = l i; words = w i }

pub exact_findings : CmpEqualImpliesEq by_symbol_finding
exact_findings f g e =
    let outer = both_equal (then_cmp (on (λ (h : SymFinding). h.code) nat_cmp) (on (λ (h : SymFinding). h.words) (slice_cmp nat_cmp)) f g) (nat_cmp (symbol_level_rank f.error) (symbol_level_rank g.error)) e in
    let inner = both_equal (nat_cmp f.code g.code) (slice_cmp nat_cmp f.words g.words) outer.0 in
    same_finding f g (exact_unsigned f.code g.code inner.0) (exact_bytes f.words g.words inner.1)
    (same_level f.error g.error (exact_unsigned (symbol_level_rank f.error) (symbol_level_rank g.error) outer.1))
