use Rattle.std.proofs.Common.{◌≡◌, ◌+◌, ◌<◌, suc, List, length, refl, sym, ap, subst, ◌∙◌, inl, inr, arith}
use Rattle.std.specs.Prelude.{Any, flat_map}
use Rattle.std.proofs.lemmas.Bool.{false≢true}
use Rattle.std.proofs.lemmas.Result.{err_from_is_err_and}
use Rattle.hierarchy.specs.Crowded.{AreTooMany, IsDeep}
use Rattle.hierarchy.specs.Ways.{WayData, ways_within}
use Rattle.hierarchy.specs.steps.Widening.{widened}
use Rattle.hierarchy.proofs.WideningLemmas.{ways_next, ways_none}
use Rattle.hierarchy.proofs.WayLemmas.{all_at, crowded_at}
use Rattle.hierarchy.proofs.elaboration.all_ways.Goals as goal

pub loop-depth-init : goal.loop-depth-init
loop-depth-init c = c.in_ok-ways.ensures ∙ sym (ways_none c.args.sheets.now)

pub returns-then-are_too_many-clause-crowded : goal.returns-then-are_too_many-clause-crowded
returns-then-are_too_many-clause-crowded c = λ _.
    let ws = c.as_slice.ensures.value ∙ c.loop-depth.invariant in
    crowded_at c.args.sheets.now c.requires c.loop-depth.depth (subst (AreTooMany c.args.sheets.now) ws (c.if-are_too_many.ensures.0 refl))

pub returns-in_err-ways-2-clause-crowded : goal.returns-in_err-ways-2-clause-crowded
returns-in_err-ways-2-clause-crowded c =
    let sheets = c.args.sheets.now in
    let depth = c.loop-depth.depth in
    let p = err_from_is_err_and c.from_residual-in_err-ways-2.result c.from_residual-in_err-ways-2.ensures.1 in
    let wide : flat_map (widened sheets depth) c.loop-depth.ways.items ≡ ways_within sheets (suc depth) = ap (flat_map (widened sheets depth)) c.loop-depth.invariant ∙ sym (ways_next sheets depth) in
    rw (p.1, p.2) (λ many. crowded_at sheets c.requires (suc depth) (inl (subst (λ (ws : List WayData). 4096 < length ws) wide (c.in_err-ways-2.ensures.many many))))

pub loop-depth-preserved : goal.loop-depth-preserved
loop-depth-preserved c =
    let sheets = c.args.sheets.now in
    let depth = c.loop-depth.depth in
    let e : suc depth ≡ depth + 1 = omega arith in
    c.in_ok-ways-2.ensures.wide ∙ ap (flat_map (widened sheets depth)) c.loop-depth.invariant ∙ sym (ways_next sheets depth) ∙ ap (ways_within sheets) e

pub returns-then-are_too_many-2-clause-crowded : goal.returns-then-are_too_many-2-clause-crowded
returns-then-are_too_many-2-clause-crowded c = λ _.
    let ws = c.as_slice-2.ensures.value ∙ c.loop-depth.invariant in
    crowded_at c.args.sheets.now c.requires c.loop-depth.depth (subst (AreTooMany c.args.sheets.now) ws (c.if-are_too_many-2.ensures.0 refl))

pub returns-clause-all : goal.returns-clause-all
returns-clause-all c =
    let sheets = c.args.sheets.now in
    let e : c.loop-depth.depth ≡ 17 = omega arith in
    let at : c.loop-depth.ways.items ≡ ways_within sheets 17 = c.loop-depth.invariant ∙ ap (ways_within sheets) e in
    let same : ways_within sheets 17 ≡ c.as_slice-2.result.now = sym (c.as_slice-2.ensures.value ∙ at) in
    at ∙ all_at sheets c.requires (λ any. false≢true (c.if-are_too_many-2.ensures.1 (inr (inl (subst (Any IsDeep) same any)))))

pub returns-clause-few : goal.returns-clause-few
returns-clause-few c = λ crowded.
    let sheets = c.args.sheets.now in
    let e : c.loop-depth.depth ≡ 17 = omega arith in
    let at : c.loop-depth.ways.items ≡ ways_within sheets 17 = c.loop-depth.invariant ∙ ap (ways_within sheets) e in
    let same : ways_within sheets 17 ≡ c.as_slice-2.result.now = sym (c.as_slice-2.ensures.value ∙ at) in
    let none : Any IsDeep (ways_within sheets 17) → ⊥ = λ any. false≢true (c.if-are_too_many-2.ensures.1 (inr (inl (subst (Any IsDeep) same any)))) in
    false≢true (c.if-are_too_many-2.ensures.1 (subst (AreTooMany sheets) (sym (all_at sheets c.requires none) ∙ same) crowded))
