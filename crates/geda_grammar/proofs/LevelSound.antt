-- What a list that is being read can still become, row by row.
use Rattle.std.proofs.Common.{◌≡◌, ℕ, ◌<◌, ◌≤◌, arith, Bool, true, false, cond, ltb, List, [], ◌∷◌, ◌++◌, length, Option, Some, None, refl, sym, ap, subst, ◌∙◌, append_assoc, inl, inr}
use Rattle.std.specs.Option.{option_map}
use Rattle.std.proofs.lemmas.List.{append-nil, length-append}
use Rattle.std.proofs.lemmas.Bool.{ltb-true}
use Rattle.geda_model.specs.Data.{TextData}
use Rattle.geda_model.specs.declared.shape.Shape.{Shape}
use Rattle.geda_model.specs.declared.shape.Shape.TheVariants.{Straight, Picture, Rect, Circle, Arc, Text, Net, Bus, Pin, Path}
use Rattle.geda_grammar.specs.declared.row.Row.{Row}
use Rattle.geda_grammar.specs.declared.row.Row.TheVariants.{Drawn, Library, Embedding, OpenBlock, CloseBlock, OpenSymbol, CloseSymbol}
use Rattle.geda_grammar.specs.Grammar.{ThenRow, ThenEach, ThenText, ThenAttached}
use Rattle.geda_grammar.specs.declared.mode.Mode.{Mode}
use Rattle.geda_grammar.specs.declared.mode.Mode.TheVariants.{Settled, Last, Block}
use Rattle.geda_grammar.specs.steps.Levels.{Level, room, push, begun, put, with_text, text_in, open_block, close_block, closed, level_step}

-- what was mapped was there
pub mapped : {X Y : Type 0} (f : X → Y) (o : Option X) (y : Y) → option_map f o ≡ Some y → (x : X) × (o ≡ Some x) × (f x ≡ y)
mapped f None y e = absurd cc
mapped f (Some x) y e = (x, refl, cc)

-- what a test lets through
pub let_through : {X : Type 0} (b : Bool) (x y : X) → cond b (Some x) None ≡ Some y → (b ≡ true) × (x ≡ y)
let_through true x y e = (refl, cc)
let_through false x y e = absurd cc

-- a `{` behind what may take a block
opened : (ts : List TextData) (next : List Row → Type 0) (rows : List Row) → ThenEach ThenText ts (ThenRow CloseBlock next) rows → ThenAttached ts next (OpenBlock ∷ rows)
opened [] next rows h = inr (refl, h)
opened (t ∷ ts) next rows h = (refl, h)

module _ (A B : Type 0) (make : B → List TextData → A) (wrap : Shape → B)
    (ThenA : A → (List Row → Type 0) → List Row → Type 0)
    (ThenB : B → (List Row → Type 0) → List Row → Type 0)
    (made : (b : B) (ts : List TextData) (rest : List Row → Type 0) (rows : List Row) → ThenB b (ThenAttached ts rest) rows → ThenA (make b ts) rest rows)
    (drawn_line : (s : Shape) (rest : List Row → Type 0) (rows : List Row) → rest rows → ThenB (wrap s) rest (Drawn s ∷ rows))
  where
    -- the rows complete what was read to all of these, and then comes the rest
    abbrev pub Completes : List A → Mode B → List A → (List Row → Type 0) → List Row → Type 0
    Completes kept Settled all rest rows = (more : List A) × (all ≡ kept ++ more) × ThenEach ThenA more rest rows
    Completes kept (Last b) all rest rows = (ts : List TextData) × (more : List A) × (all ≡ kept ++ make b ts ∷ more) × ThenAttached ts (ThenEach ThenA more rest) rows
    Completes kept (Block b us) all rest rows = (ts : List TextData) × (more : List A) × (all ≡ kept ++ make b (us ++ ts) ∷ more) × ThenEach ThenText ts (ThenRow CloseBlock (ThenEach ThenA more rest)) rows

    -- one more begins
    begins : (b : B) (kept all : List A) (rest : List Row → Type 0) (rows before : List Row) → ((next : List Row → Type 0) → next rows → ThenB b next before) → Completes kept (Last b) all rest rows → Completes kept Settled all rest before
    begins b kept all rest rows before h p = (make b p.0 ∷ p.1, p.2, made b p.0 (ThenEach ThenA p.1 rest) before (h (ThenAttached p.0 (ThenEach ThenA p.1 rest)) p.3))

    -- the last one has no block
    settles : (b : B) (kept all : List A) (rest : List Row → Type 0) (rows : List Row) → Completes (kept ++ make b [] ∷ []) Settled all rest rows → Completes kept (Last b) all rest rows
    settles b kept all rest rows p = ([], p.0, p.1 ∙ append_assoc kept (make b [] ∷ []) p.0, inl p.2)

    -- where there is room the last one has no block
    pub in_room : (most : ℕ) (kept : List A) (mode : Mode B) (items all : List A) (rest : List Row → Type 0) (rows : List Row) → room make most kept mode ≡ Some items → Completes items Settled all rest rows → Completes kept mode all rest rows
    in_room most kept Settled items all rest rows e p =
        let same = (let_through (ltb (length kept) most) kept items e).1 in
        subst (λ (is : List A). Completes is Settled all rest rows) (sym same) p
    in_room most kept (Last c) items all rest rows e p =
        let same = (let_through (ltb (length (kept ++ make c [] ∷ [])) most) (kept ++ make c [] ∷ []) items e).1 in
        settles c kept all rest rows (subst (λ (is : List A). Completes is Settled all rest rows) (sym same) p)
    in_room most kept (Block c us) items all rest rows e p = absurd cc

    -- what completes a level
    abbrev pub Finishes : Level A B → List A → (List Row → Type 0) → List Row → Type 0
    Finishes l all rest rows = Completes l.kept l.mode all rest rows

    -- one more
    pub pushes : (most : ℕ) (b : B) (kept : List A) (mode : Mode B) (l : Level A B) (all : List A) (rest : List Row → Type 0) (rows before : List Row) → push make most b kept mode ≡ Some l → ((next : List Row → Type 0) → next rows → ThenB b next before) → Finishes l all rest rows → Completes kept mode all rest before
    pushes most b kept mode l all rest rows before e h p =
        let m = mapped (begun b) (room make most kept mode) l e in
        in_room most kept mode m.0 all rest before m.1 (begins b m.0 all rest rows before h (subst (λ (k : Level A B). Finishes k all rest rows) (sym m.2) p))

    -- a text of the block
    adds : (b : B) (us : List TextData) (t : TextData) (kept all : List A) (rest : List Row → Type 0) (rows : List Row) → Completes kept (Block b (us ++ t ∷ [])) all rest rows → Completes kept (Block b us) all rest (Drawn (Text t) ∷ rows)
    adds b us t kept all rest rows p = (t ∷ p.0, p.1, p.2 ∙ ap (λ (vs : List TextData). kept ++ make b vs ∷ p.1) (append_assoc us (t ∷ []) p.0), (refl, p.3))

    texts : (b : B) (us : List TextData) (s : Shape) (kept : List A) (l : Level A B) (all : List A) (rest : List Row → Type 0) (rows : List Row) → with_text kept b us (text_in s) ≡ Some l → Finishes l all rest rows → Completes kept (Block b us) all rest (Drawn s ∷ rows)
    texts b us (Text t) kept l all rest rows e p =
        let same : record { kept = kept; mode = Block b (us ++ t ∷ []) } ≡ l = cc in
        adds b us t kept all rest rows (subst (λ (k : Level A B). Finishes k all rest rows) (sym same) p)
    texts b us (Straight x1 y1 x2 y2 color stroke) kept l all rest rows e p = absurd cc
    texts b us (Picture x y width height angle mirrored file embedded) kept l all rest rows e p = absurd cc
    texts b us (Rect x y width height color stroke fill) kept l all rest rows e p = absurd cc
    texts b us (Circle x y radius color stroke fill) kept l all rest rows e p = absurd cc
    texts b us (Arc x y radius start sweep color stroke) kept l all rest rows e p = absurd cc
    texts b us (Net x1 y1 x2 y2 color) kept l all rest rows e p = absurd cc
    texts b us (Bus x1 y1 x2 y2 color ripper) kept l all rest rows e p = absurd cc
    texts b us (Pin x1 y1 x2 y2 color bus whichend) kept l all rest rows e p = absurd cc
    texts b us (Path color stroke fill content) kept l all rest rows e p = absurd cc

    -- a shape
    puts : (most : ℕ) (s : Shape) (kept : List A) (mode : Mode B) (l : Level A B) (all : List A) (rest : List Row → Type 0) (rows : List Row) → put make wrap most s kept mode ≡ Some l → Finishes l all rest rows → Completes kept mode all rest (Drawn s ∷ rows)
    puts most s kept Settled l all rest rows e p = pushes most (wrap s) kept Settled l all rest rows (Drawn s ∷ rows) e (λ next h. drawn_line s next rows h) p
    puts most s kept (Last c) l all rest rows e p = pushes most (wrap s) kept (Last c) l all rest rows (Drawn s ∷ rows) e (λ next h. drawn_line s next rows h) p
    puts most s kept (Block c us) l all rest rows e p = texts c us s kept l all rest rows e p

    -- a block begins
    opens : (kept : List A) (mode : Mode B) (l : Level A B) (all : List A) (rest : List Row → Type 0) (rows : List Row) → open_block kept mode ≡ Some l → Finishes l all rest rows → Completes kept mode all rest (OpenBlock ∷ rows)
    opens kept Settled l all rest rows e p = absurd cc
    opens kept (Last b) l all rest rows e p =
        let same : record { kept = kept; mode = Block b [] } ≡ l = cc in
        let q : Completes kept (Block b []) all rest rows = subst (λ (k : Level A B). Finishes k all rest rows) (sym same) p in
        (q.0, q.1, q.2, opened q.0 (ThenEach ThenA q.1 rest) rows q.3)
    opens kept (Block b us) l all rest rows e p = absurd cc

    -- a block ends
    closes : (kept : List A) (mode : Mode B) (l : Level A B) (all : List A) (rest : List Row → Type 0) (rows : List Row) → close_block make kept mode ≡ Some l → Finishes l all rest rows → Completes kept mode all rest (CloseBlock ∷ rows)
    closes kept Settled l all rest rows e p = absurd cc
    closes kept (Last b) l all rest rows e p = absurd cc
    closes kept (Block b us) l all rest rows e p =
        let same : record { kept = kept ++ make b us ∷ []; mode = Settled } ≡ l = cc in
        let q : Completes (kept ++ make b us ∷ []) Settled all rest rows = subst (λ (k : Level A B). Finishes k all rest rows) (sym same) p in
        ([], q.0, q.1 ∙ append_assoc kept (make b us ∷ []) q.0 ∙ ap (λ (vs : List TextData). kept ++ make b vs ∷ q.0) (sym (append-nil us)), (refl, q.2))

    -- any row
    pub level_sound : (most : ℕ) (row : Row) (kept : List A) (mode : Mode B) (l : Level A B) (all : List A) (rest : List Row → Type 0) (rows : List Row) → level_step make wrap most kept mode row ≡ Some l → Finishes l all rest rows → Completes kept mode all rest (row ∷ rows)
    level_sound most (Drawn s) kept mode l all rest rows e p = puts most s kept mode l all rest rows e p
    level_sound most (Library q) kept mode l all rest rows e p = absurd cc
    level_sound most (Embedding q) kept mode l all rest rows e p = absurd cc
    level_sound most OpenBlock kept mode l all rest rows e p = opens kept mode l all rest rows e p
    level_sound most CloseBlock kept mode l all rest rows e p = closes kept mode l all rest rows e p
    level_sound most OpenSymbol kept mode l all rest rows e p = absurd cc
    level_sound most CloseSymbol kept mode l all rest rows e p = absurd cc

    -- no row is left of those that are read
    pub ends : (kept : List A) (mode : Mode B) (all : List A) (rest : List Row → Type 0) (rows : List Row) → closed make kept mode ≡ Some all → rest rows → Completes kept mode all rest rows
    ends kept Settled all rest rows e h = ([], (let same : kept ≡ all = cc in sym same) ∙ sym (append-nil kept), h)
    ends kept (Last b) all rest rows e h =
        let same : kept ++ make b [] ∷ [] ≡ all = cc in
        settles b kept all rest rows ([], sym same ∙ sym (append-nil (kept ++ make b [] ∷ [])), h)
    ends kept (Block b us) all rest rows e h = absurd cc

module _ (A B : Type 0) (make : B → List TextData → A) (wrap : Shape → B) where
  -- no more than so many are there
  abbrev pub Fits : ℕ → List A → Mode B → Type 0
  Fits most kept Settled = length kept ≤ most
  Fits most kept (Last b) = length kept < most
  Fits most kept (Block b us) = length kept < most

  pub room_fits : (most : ℕ) (kept : List A) (mode : Mode B) (items : List A) → room make most kept mode ≡ Some items → length items < most
  room_fits most kept Settled items e =
      let t = let_through (ltb (length kept) most) kept items e in
      subst (λ (is : List A). length is < most) t.1 (ltb-true _ _ t.0)
  room_fits most kept (Last c) items e =
      let t = let_through (ltb (length (kept ++ make c [] ∷ [])) most) (kept ++ make c [] ∷ []) items e in
      subst (λ (is : List A). length is < most) t.1 (ltb-true _ _ t.0)
  room_fits most kept (Block c us) items e = absurd cc

  abbrev pub LevelFits : ℕ → Level A B → Type 0
  LevelFits most l = Fits most l.kept l.mode

  pub push_fits : (most : ℕ) (b : B) (kept : List A) (mode : Mode B) (l : Level A B) → push make most b kept mode ≡ Some l → LevelFits most l
  push_fits most b kept mode l e =
      let m = mapped (begun b) (room make most kept mode) l e in
      subst (λ (k : Level A B). LevelFits most k) m.2 (room_fits most kept mode m.0 m.1)

  text_fits : (most : ℕ) (b : B) (us : List TextData) (o : Option TextData) (kept : List A) (l : Level A B) → length kept < most → with_text kept b us o ≡ Some l → LevelFits most l
  text_fits most b us None kept l h e = absurd cc
  text_fits most b us (Some t) kept l h e =
      let same : record { kept = kept; mode = Block b (us ++ t ∷ []) } ≡ l = cc in
      subst (λ (k : Level A B). LevelFits most k) same h

  pub level_fits : (most : ℕ) (row : Row) (kept : List A) (mode : Mode B) (l : Level A B) → Fits most kept mode → level_step make wrap most kept mode row ≡ Some l → LevelFits most l
  level_fits most (Drawn s) kept Settled l h e = push_fits most (wrap s) kept Settled l e
  level_fits most (Drawn s) kept (Last c) l h e = push_fits most (wrap s) kept (Last c) l e
  level_fits most (Drawn s) kept (Block c us) l h e = text_fits most c us (text_in s) kept l h e
  level_fits most (Library q) kept mode l h e = absurd cc
  level_fits most (Embedding q) kept mode l h e = absurd cc
  level_fits most OpenBlock kept Settled l h e = absurd cc
  level_fits most OpenBlock kept (Last c) l h e =
      let same : record { kept = kept; mode = Block c [] } ≡ l = cc in
      subst (λ (k : Level A B). LevelFits most k) same h
  level_fits most OpenBlock kept (Block c us) l h e = absurd cc
  level_fits most CloseBlock kept Settled l h e = absurd cc
  level_fits most CloseBlock kept (Last c) l h e = absurd cc
  level_fits most CloseBlock kept (Block c us) l h e =
      let same : record { kept = kept ++ make c us ∷ []; mode = Settled } ≡ l = cc in
      subst (λ (k : Level A B). LevelFits most k) same (omega (arith, length-append kept (make c us ∷ [])))
  level_fits most OpenSymbol kept mode l h e = absurd cc
  level_fits most CloseSymbol kept mode l h e = absurd cc

  pub closed_fits : (most : ℕ) (kept : List A) (mode : Mode B) (all : List A) → Fits most kept mode → closed make kept mode ≡ Some all → length all ≤ most
  closed_fits most kept Settled all h e = let same : kept ≡ all = cc in subst (λ (is : List A). length is ≤ most) same h
  closed_fits most kept (Last b) all h e =
      let same : kept ++ make b [] ∷ [] ≡ all = cc in
      subst (λ (is : List A). length is ≤ most) same (omega (arith, length-append kept (make b [] ∷ [])))
  closed_fits most kept (Block b us) all h e = absurd cc
