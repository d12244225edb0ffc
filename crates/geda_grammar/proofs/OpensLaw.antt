-- Things go on to some end exactly where the machine takes each of them.
use Rattle.std.proofs.Common.{◌≡◌, List, [], ◌∷◌, ◌++◌, Option, Some, None, refl, sym, ap, subst, ◌∙◌, ◌↔◌}
use Rattle.std.specs.Prelude.{IsSome}
use Rattle.std.specs.List.{AllByRecursion}
use Rattle.geda_grammar.specs.steps.Running.{run, outcome, ◌>>=◌}

-- one list behind the other
pub run-append : {S X : Type 0} (step : S → X → Option S) (xs ys : List X) (s : S) → run step s (xs ++ ys) ≡ (run step s xs >>= λ t. run step t ys)
run-append step [] ys s = refl
run-append {S = S} step (x ∷ xs) ys s = go (step s x) (λ t. run-append step xs ys t)
  where
    go : (o : Option S) → ((t : S) → run step t (xs ++ ys) ≡ (run step t xs >>= λ u. run step u ys)) → (o >>= λ t. run step t (xs ++ ys)) ≡ ((o >>= λ t. run step t xs) >>= λ u. run step u ys)
    go None same = refl
    go (Some t) same = same t

-- what stands behind a state that is reached
pub outcome-behind : {S X V : Type 0} (step : S → X → Option S) (finish : S → Option V) (xs ys : List X) (s t : S) → run step s xs ≡ Some t → outcome step finish s (xs ++ ys) ≡ outcome step finish t ys
outcome-behind {S = S} step finish xs ys s t e = ap (λ (o : Option S). o >>= finish) (run-append step xs ys s) ∙ ap (λ (o : Option S). (o >>= λ t. run step t ys) >>= finish) e

module _ (S X V : Type 0) (step : S → X → Option S) (finish : S → Option V) (Valid : S → Type 0) (Good : X → Type 0)
    (keeps : (s t : S) (x : X) → Valid s → step s x ≡ Some t → Valid t)
    (closing : (s : S) → Valid s → (more : List X) × AllByRecursion Good more × (v : V) × (outcome step finish s more ≡ Some v))
  where
    -- each state that is reached is valid
    pub run_keeps : (xs : List X) (s t : S) → Valid s → run step s xs ≡ Some t → Valid t
    run_keeps [] s t h e = let same : s ≡ t = cc in subst Valid same h
    run_keeps (x ∷ xs) s t h e = go (step s x) refl e (λ u g. run_keeps xs u t g)
      where
        go : (o : Option S) → step s x ≡ o → (o >>= λ u. run step u xs) ≡ Some t → ((u : S) → Valid u → run step u xs ≡ Some t → Valid t) → Valid t
        go None f e later = absurd cc
        go (Some u) f e later = later u (keeps s u x h f) e

    abbrev pub GoOn : S → List X → Type 0
    GoOn s xs = (more : List X) × AllByRecursion Good more × (v : V) × (outcome step finish s (xs ++ more) ≡ Some v)

    taken : (xs : List X) (s : S) (o : Option S) → Valid s → run step s xs ≡ o → GoOn s xs → IsSome o
    taken xs s None h e (more, good, v, end) = absurd (let f = sym (ap (λ (o : Option S). o >>= finish) (run-append step xs more s)) ∙ end in let g = ap (λ (o : Option S). (o >>= λ t. run step t more) >>= finish) (sym e) ∙ f in cc)
    taken xs s (Some t) h e g = refl

    goes_on : (xs : List X) (s : S) (o : Option S) → Valid s → run step s xs ≡ o → IsSome o → GoOn s xs
    goes_on xs s None h e some = absurd cc
    goes_on xs s (Some t) h e some =
        let end = closing t (run_keeps xs s t h e) in
        (end.0, end.1, end.2, outcome-behind step finish xs end.0 s t e ∙ end.3)

    pub opens_law : (xs : List X) (s : S) → Valid s → GoOn s xs ↔ IsSome (run step s xs)
    opens_law xs s h = (taken xs s (run step s xs) h refl, goes_on xs s (run step s xs) h refl)
