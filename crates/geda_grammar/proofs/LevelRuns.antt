-- What spells a list is read, row by row.
use Rattle.std.proofs.Common.{◌≡◌, ℕ, ◌+◌, ◌<◌, ◌≤◌, List, [], ◌∷◌, ◌++◌, length, sym, subst, append_assoc, inl, inr, arith}
use Rattle.std.proofs.lemmas.List.{append-nil, length-append}
use Rattle.geda_model.specs.Data.{TextData}
use Rattle.geda_model.specs.declared.shape.Shape.TheVariants.{Text}
use Rattle.geda_grammar.specs.declared.row.Row.{Row}
use Rattle.geda_grammar.specs.declared.row.Row.TheVariants.{Drawn, OpenBlock, CloseBlock}
use Rattle.geda_grammar.specs.Grammar.{ThenRow, ThenEach, ThenText, ThenBlock, ThenAttached}
use Rattle.geda_grammar.specs.declared.mode.Mode.{Mode}
use Rattle.geda_grammar.specs.declared.mode.Mode.TheVariants.{Settled, Last, Block}

module _ (A B : Type 0) (make : B → List TextData → A) (body : A → B) (attrs : A → List TextData)
    (ThenA : A → (List Row → Type 0) → List Row → Type 0)
    (ThenB : B → (List Row → Type 0) → List Row → Type 0)
    (parted : (a : A) (rest : List Row → Type 0) (rows : List Row) → ThenA a rest rows → ThenB (body a) (ThenAttached (attrs a) rest) rows)
    (same : (a : A) → make (body a) (attrs a) ≡ a)
    (most : ℕ)
    (Runs : List A → Mode B → List Row → Type 0)
    (on_open : (b : B) (kept : List A) (rows : List Row) → Runs kept (Block b []) rows → Runs kept (Last b) (OpenBlock ∷ rows))
    (on_text : (b : B) (us : List TextData) (t : TextData) (kept : List A) (rows : List Row) → Runs kept (Block b (us ++ t ∷ [])) rows → Runs kept (Block b us) (Drawn (Text t) ∷ rows))
    (on_close : (b : B) (us : List TextData) (kept : List A) (rows : List Row) → Runs (kept ++ make b us ∷ []) Settled rows → Runs kept (Block b us) (CloseBlock ∷ rows))
    (on_none : (b : B) (kept : List A) (rows : List Row) → Runs (kept ++ make b [] ∷ []) Settled rows → Runs kept (Last b) rows)
    (on_body : (b : B) (kept : List A) (rest : List Row → Type 0) (rows : List Row) → length kept < most → ((next : List Row) → rest next → Runs kept (Last b) next) → ThenB b rest rows → Runs kept Settled rows)
  where
    -- the texts of a block and its end
    texts_run : (ts : List TextData) (b : B) (us : List TextData) (kept : List A) (rest : List Row → Type 0) (rows : List Row) → ((next : List Row) → rest next → Runs (kept ++ make b (us ++ ts) ∷ []) Settled next) → ThenEach ThenText ts (ThenRow CloseBlock rest) rows → Runs kept (Block b us) rows
    texts_run [] b us kept rest [] k h = absurd h
    texts_run [] b us kept rest (r ∷ rs) k h =
        let last = subst (λ (vs : List TextData). Runs (kept ++ make b vs ∷ []) Settled rs) (append-nil us) (k rs h.1) in
        subst (λ (row : Row). Runs kept (Block b us) (row ∷ rs)) (sym h.0) (on_close b us kept rs last)
    texts_run (t ∷ ts) b us kept rest [] k h = absurd h
    texts_run (t ∷ ts) b us kept rest (r ∷ rs) k h =
        let more = texts_run ts b (us ++ t ∷ []) kept rest rs (λ next g. subst (λ (vs : List TextData). Runs (kept ++ make b vs ∷ []) Settled next) (sym (append_assoc us (t ∷ []) ts)) (k next g)) h.1 in
        subst (λ (row : Row). Runs kept (Block b us) (row ∷ rs)) (sym h.0) (on_text b us t kept rs more)

    block_run : (ts : List TextData) (b : B) (kept : List A) (rest : List Row → Type 0) (rows : List Row) → ((next : List Row) → rest next → Runs (kept ++ make b ts ∷ []) Settled next) → ThenBlock ts rest rows → Runs kept (Last b) rows
    block_run ts b kept rest [] k h = absurd h
    block_run ts b kept rest (r ∷ rs) k h = subst (λ (row : Row). Runs kept (Last b) (row ∷ rs)) (sym h.0) (on_open b kept rs (texts_run ts b [] kept rest rs k h.1))

    -- attached texts
    attached_run : (ts : List TextData) (b : B) (kept : List A) (rest : List Row → Type 0) (rows : List Row) → ((next : List Row) → rest next → Runs (kept ++ make b ts ∷ []) Settled next) → ThenAttached ts rest rows → Runs kept (Last b) rows
    attached_run [] b kept rest rows k (inl h) = on_none b kept rows (k rows h)
    attached_run [] b kept rest rows k (inr h) = block_run [] b kept rest rows k h
    attached_run (t ∷ ts) b kept rest rows k h = block_run (t ∷ ts) b kept rest rows k h

    -- all of them
    pub each_run : (more kept : List A) (rest : List Row → Type 0) (rows : List Row) → length kept + length more ≤ most → ((next : List Row) → rest next → Runs (kept ++ more) Settled next) → ThenEach ThenA more rest rows → Runs kept Settled rows
    each_run [] kept rest rows few k h = subst (λ (is : List A). Runs is Settled rows) (append-nil kept) (k rows h)
    each_run (a ∷ more) kept rest rows few k h =
        let room : length kept < most = omega (arith, few) in
        let fewer : length (kept ++ a ∷ []) + length more ≤ most = omega (arith, few, length-append kept (a ∷ [])) in
        let others : (next : List Row) → ThenEach ThenA more rest next → Runs (kept ++ a ∷ []) Settled next = λ next g. each_run more (kept ++ a ∷ []) rest next fewer (λ last f. subst (λ (is : List A). Runs is Settled last) (sym (append_assoc kept (a ∷ []) more)) (k last f)) g in
        on_body (body a) kept (ThenAttached (attrs a) (ThenEach ThenA more rest)) rows room
        (λ next g. attached_run (attrs a) (body a) kept (ThenEach ThenA more rest) next (λ last f. subst (λ (b : A). Runs (kept ++ b ∷ []) Settled last) (sym (same a)) (others last f)) g)
        (parted a (ThenEach ThenA more rest) rows h)
