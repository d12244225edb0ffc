-- The rows that spell objects are those that the machine takes to them.
use Rattle.std.proofs.Common.{◌≡◌, ℕ, ◌<◌, ◌≤◌, List, [], ◌∷◌, ◌++◌, length, Option, Some, None, refl, sym, subst, ◌↔◌, arith}
use Rattle.std.specs.Option.{option_map}
use Rattle.std.proofs.lemmas.Bool.{lt-ltb}
use Rattle.geda_model.specs.Data.{TextData}
use Rattle.geda_model.specs.Shapes.{PartData, ComponentData}
use Rattle.geda_model.specs.Sheets.{ObjectData}
use Rattle.geda_model.specs.declared.shape.Shape.{Shape}
use Rattle.geda_model.specs.declared.object.Body.{Body}
use Rattle.geda_model.specs.declared.object.Body.TheVariants as bodies
use Rattle.geda_grammar.specs.declared.row.Row.{Row}
use Rattle.geda_grammar.specs.Components.{ComponentLineData}
use Rattle.geda_grammar.specs.Rows.{component_line_of}
use Rattle.geda_grammar.specs.declared.row.Row.TheVariants.{Drawn, Library, Embedding, OpenBlock, CloseBlock, OpenSymbol, CloseSymbol}
use Rattle.geda_grammar.specs.Grammar.{End, ThenRow, ThenEach, ThenAttached, ThenPart, ThenSymbol, ThenComponent, ThenBody, ThenObject, SpellObjects, SpellParts}
use Rattle.geda_grammar.specs.steps.Running.{outcome, ◌>>=◌, run}
use Rattle.geda_grammar.specs.declared.mode.Mode.{Mode}
use Rattle.geda_grammar.specs.declared.mode.Mode.TheVariants.{Settled, Last}
use Rattle.geda_grammar.specs.steps.Levels.{Level, room, push, closed, level_step}
use Rattle.geda_grammar.specs.declared.place.Place.{Place}
use Rattle.geda_grammar.specs.declared.place.Place.TheVariants.{Objects, Waiting, Inside}
use Rattle.geda_grammar.specs.steps.Sheets.{component_of, make_part, make_object, part_step, at_level, in_symbol, await, with_symbol, object_step, waiting_step, inside_step, sheet_step, sheet_end, symbol_step, symbol_end}
use Rattle.geda_grammar.proofs.LevelSound as sound
use Rattle.geda_grammar.proofs.LevelRuns as runs

-- the row of a shape in a symbol
abbrev ThenDrawn : Shape → (List Row → Type 0) → List Row → Type 0
ThenDrawn s rest rows = ThenRow (Drawn s) rest rows

abbrev self : Shape → Shape
self s = s

-- what completes a symbol
abbrev Parts : List PartData → Mode Shape → List PartData → (List Row → Type 0) → List Row → Type 0
Parts = sound.Completes PartData Shape make_part self ThenPart ThenDrawn (λ b ts rest rows h. h) (λ s rest rows h. (refl, h))

-- what completes a sheet
abbrev Sheet : List ObjectData → Mode Body → List ObjectData → (List Row → Type 0) → List Row → Type 0
Sheet = sound.Completes ObjectData Body make_object bodies.Shape ThenObject ThenBody (λ b ts rest rows h. h) (λ s rest rows h. (refl, h))

-- a component with its symbol
abbrev embedded : ComponentLineData → List PartData → Body
embedded p parts = bodies.Component (component_of p (Some parts))

-- what completes a state
abbrev Completes : Place → List ObjectData → List Row → Type 0
Completes (Objects kept mode) v rows = Sheet kept mode v End rows
Completes (Waiting os p) v rows = (parts : List PartData) × (ts : List TextData) × (more : List ObjectData) × (v ≡ os ++ make_object (embedded p parts) ts ∷ more) × ThenSymbol parts (ThenAttached ts (ThenEach ThenObject more End)) rows
Completes (Inside os p kept mode) v rows = (parts : List PartData) × (ts : List TextData) × (more : List ObjectData) × (v ≡ os ++ make_object (embedded p parts) ts ∷ more) × (length parts ≤ 100000) × Parts kept mode parts (ThenRow CloseSymbol (ThenAttached ts (ThenEach ThenObject more End))) rows

-- no list is too long
abbrev pub Fits : ℕ → Place → Type 0
Fits most (Objects kept mode) = sound.Fits ObjectData Body make_object bodies.Shape most kept mode
Fits most (Waiting os p) = length os < most
Fits most (Inside os p kept mode) = (length os < most) × sound.Fits PartData Shape make_part self 100000 kept mode

-- what completes the state behind a level's row completes the state before it
level_completes : (most : ℕ) (row : Row) (kept : List ObjectData) (mode : Mode Body) (s : Place) (v : List ObjectData) (rows : List Row) → option_map at_level (level_step make_object bodies.Shape most kept mode row) ≡ Some s → Completes s v rows → Sheet kept mode v End (row ∷ rows)
level_completes most row kept mode s v rows e h =
    let m = sound.mapped at_level (level_step make_object bodies.Shape most kept mode row) s e in
    sound.level_sound ObjectData Body make_object bodies.Shape ThenObject ThenBody (λ b ts rest rows h. h) (λ s rest rows h. (refl, h)) most row kept mode m.0 v End rows m.1 (subst (λ (t : Place). Completes t v rows) (sym m.2) h)

object_completes : (most : ℕ) (row : Row) (kept : List ObjectData) (mode : Mode Body) (s : Place) (v : List ObjectData) (rows : List Row) → object_step most kept mode row ≡ Some s → Completes s v rows → Sheet kept mode v End (row ∷ rows)
object_completes most (Drawn s) kept mode t v rows e h = level_completes most (Drawn s) kept mode t v rows e h
object_completes most (Library p) kept mode t v rows e h =
    let b = bodies.Component (component_of p None) in
    let m = sound.mapped at_level (push make_object most b kept mode) t e in
    sound.pushes ObjectData Body make_object bodies.Shape ThenObject ThenBody (λ b ts rest rows h. h) (λ s rest rows h. (refl, h)) most b kept mode m.0 v End rows (Library p ∷ rows) m.1 (λ next g. (refl, g)) (subst (λ (t : Place). Completes t v rows) (sym m.2) h)
object_completes most (Embedding p) kept mode t v rows e h =
    let m = sound.mapped (await p) (room make_object most kept mode) t e in
    let w : Completes (Waiting m.0 p) v rows = subst (λ (t : Place). Completes t v rows) (sym m.2) h in
    let o = make_object (embedded p w.0) w.1 in
    sound.in_room ObjectData Body make_object bodies.Shape ThenObject ThenBody (λ b ts rest rows h. h) (λ s rest rows h. (refl, h)) most kept mode m.0 v End (Embedding p ∷ rows) m.1 (o ∷ w.2, w.3, (refl, w.4))
object_completes most OpenBlock kept mode t v rows e h = level_completes most OpenBlock kept mode t v rows e h
object_completes most CloseBlock kept mode t v rows e h = level_completes most CloseBlock kept mode t v rows e h
object_completes most OpenSymbol kept mode t v rows e h = absurd cc
object_completes most CloseSymbol kept mode t v rows e h = absurd cc

waiting_completes : (row : Row) (os : List ObjectData) (p : ComponentLineData) (s : Place) (v : List ObjectData) (rows : List Row) → waiting_step os p row ≡ Some s → Completes s v rows → Completes (Waiting os p) v (row ∷ rows)
waiting_completes (Drawn s) os p t v rows e h = absurd cc
waiting_completes (Library q) os p t v rows e h = absurd cc
waiting_completes (Embedding q) os p t v rows e h = absurd cc
waiting_completes OpenBlock os p t v rows e h = absurd cc
waiting_completes CloseBlock os p t v rows e h = absurd cc
waiting_completes OpenSymbol os p t v rows e h =
    let same : Inside os p [] Settled ≡ t = cc in
    let w : Completes (Inside os p [] Settled) v rows = subst (λ (t : Place). Completes t v rows) (sym same) h in
    let next = ThenRow CloseSymbol (ThenAttached w.1 (ThenEach ThenObject w.2 End)) in
    (w.0, w.1, w.2, w.3, (w.4, (refl, subst (λ (parts : List PartData). ThenEach ThenPart parts next rows) (sym w.5.1) w.5.2)))
waiting_completes CloseSymbol os p t v rows e h = absurd cc

part_completes : (row : Row) (os : List ObjectData) (p : ComponentLineData) (kept : List PartData) (mode : Mode Shape) (s : Place) (v : List ObjectData) (rows : List Row) → option_map (in_symbol os p) (part_step kept mode row) ≡ Some s → Completes s v rows → Completes (Inside os p kept mode) v (row ∷ rows)
part_completes row os p kept mode s v rows e h =
    let m = sound.mapped (in_symbol os p) (part_step kept mode row) s e in
    let w : Completes (in_symbol os p m.0) v rows = subst (λ (t : Place). Completes t v rows) (sym m.2) h in
    let next = ThenRow CloseSymbol (ThenAttached w.1 (ThenEach ThenObject w.2 End)) in
    (w.0, w.1, w.2, w.3, w.4, sound.level_sound PartData Shape make_part self ThenPart ThenDrawn (λ b ts rest rows h. h) (λ s rest rows h. (refl, h)) 100000 row kept mode m.0 w.0 next rows m.1 w.5)

inside_completes : (row : Row) (os : List ObjectData) (p : ComponentLineData) (kept : List PartData) (mode : Mode Shape) (s : Place) (v : List ObjectData) (rows : List Row) → sound.Fits PartData Shape make_part self 100000 kept mode → inside_step os p kept mode row ≡ Some s → Completes s v rows → Completes (Inside os p kept mode) v (row ∷ rows)
inside_completes (Drawn s) os p kept mode t v rows f e h = part_completes (Drawn s) os p kept mode t v rows e h
inside_completes (Library q) os p kept mode t v rows f e h = absurd cc
inside_completes (Embedding q) os p kept mode t v rows f e h = absurd cc
inside_completes OpenBlock os p kept mode t v rows f e h = part_completes OpenBlock os p kept mode t v rows e h
inside_completes CloseBlock os p kept mode t v rows f e h = part_completes CloseBlock os p kept mode t v rows e h
inside_completes OpenSymbol os p kept mode t v rows f e h = absurd cc
inside_completes CloseSymbol os p kept mode t v rows f e h =
    let m = sound.mapped (with_symbol os p) (closed make_part kept mode) t e in
    let w : Completes (with_symbol os p m.0) v rows = subst (λ (t : Place). Completes t v rows) (sym m.2) h in
    let next = ThenRow CloseSymbol (ThenAttached w.0 (ThenEach ThenObject w.1 End)) in
    (m.0, w.0, w.1, w.2, sound.closed_fits PartData Shape make_part self 100000 kept mode m.0 f m.1, sound.ends PartData Shape make_part self ThenPart ThenDrawn (λ b ts rest rows h. h) (λ s rest rows h. (refl, h)) kept mode m.0 next (CloseSymbol ∷ rows) m.1 (refl, w.3))

step_completes : (most : ℕ) (row : Row) (s t : Place) (v : List ObjectData) (rows : List Row) → Fits most s → sheet_step most s row ≡ Some t → Completes t v rows → Completes s v (row ∷ rows)
step_completes most row (Objects kept mode) t v rows f e h = object_completes most row kept mode t v rows e h
step_completes most row (Waiting os p) t v rows f e h = waiting_completes row os p t v rows e h
step_completes most row (Inside os p kept mode) t v rows f e h = inside_completes row os p kept mode t v rows f.1 e h

-- the lists stay short enough
level_stays : (most : ℕ) (row : Row) (kept : List ObjectData) (mode : Mode Body) (t : Place) → Fits most (Objects kept mode) → option_map at_level (level_step make_object bodies.Shape most kept mode row) ≡ Some t → Fits most t
level_stays most row kept mode t f e =
    let m = sound.mapped at_level (level_step make_object bodies.Shape most kept mode row) t e in
    subst (λ (u : Place). Fits most u) m.2 (sound.level_fits ObjectData Body make_object bodies.Shape most row kept mode m.0 f m.1)

object_stays : (most : ℕ) (row : Row) (kept : List ObjectData) (mode : Mode Body) (t : Place) → Fits most (Objects kept mode) → object_step most kept mode row ≡ Some t → Fits most t
object_stays most (Drawn s) kept mode t f e = level_stays most (Drawn s) kept mode t f e
object_stays most (Library p) kept mode t f e =
    let b = bodies.Component (component_of p None) in
    let m = sound.mapped at_level (push make_object most b kept mode) t e in
    subst (λ (u : Place). Fits most u) m.2 (sound.push_fits ObjectData Body make_object bodies.Shape most b kept mode m.0 m.1)
object_stays most (Embedding p) kept mode t f e =
    let m = sound.mapped (await p) (room make_object most kept mode) t e in
    subst (λ (u : Place). Fits most u) m.2 (sound.room_fits ObjectData Body make_object bodies.Shape most kept mode m.0 m.1)
object_stays most OpenBlock kept mode t f e = level_stays most OpenBlock kept mode t f e
object_stays most CloseBlock kept mode t f e = level_stays most CloseBlock kept mode t f e
object_stays most OpenSymbol kept mode t f e = absurd cc
object_stays most CloseSymbol kept mode t f e = absurd cc

part_stays : (most : ℕ) (row : Row) (os : List ObjectData) (p : ComponentLineData) (kept : List PartData) (mode : Mode Shape) (t : Place) → Fits most (Inside os p kept mode) → option_map (in_symbol os p) (part_step kept mode row) ≡ Some t → Fits most t
part_stays most row os p kept mode t f e =
    let m = sound.mapped (in_symbol os p) (part_step kept mode row) t e in
    subst (λ (u : Place). Fits most u) m.2 (f.0, sound.level_fits PartData Shape make_part self 100000 row kept mode m.0 f.1 m.1)

inside_stays : (most : ℕ) (row : Row) (os : List ObjectData) (p : ComponentLineData) (kept : List PartData) (mode : Mode Shape) (t : Place) → Fits most (Inside os p kept mode) → inside_step os p kept mode row ≡ Some t → Fits most t
inside_stays most (Drawn s) os p kept mode t f e = part_stays most (Drawn s) os p kept mode t f e
inside_stays most (Library q) os p kept mode t f e = absurd cc
inside_stays most (Embedding q) os p kept mode t f e = absurd cc
inside_stays most OpenBlock os p kept mode t f e = part_stays most OpenBlock os p kept mode t f e
inside_stays most CloseBlock os p kept mode t f e = part_stays most CloseBlock os p kept mode t f e
inside_stays most OpenSymbol os p kept mode t f e = absurd cc
inside_stays most CloseSymbol os p kept mode t f e =
    let m = sound.mapped (with_symbol os p) (closed make_part kept mode) t e in
    subst (λ (u : Place). Fits most u) m.2 f.0

waiting_stays : (most : ℕ) (row : Row) (os : List ObjectData) (p : ComponentLineData) (t : Place) → Fits most (Waiting os p) → waiting_step os p row ≡ Some t → Fits most t
waiting_stays most (Drawn s) os p t f e = absurd cc
waiting_stays most (Library q) os p t f e = absurd cc
waiting_stays most (Embedding q) os p t f e = absurd cc
waiting_stays most OpenBlock os p t f e = absurd cc
waiting_stays most CloseBlock os p t f e = absurd cc
waiting_stays most OpenSymbol os p t f e =
    let same : Inside os p [] Settled ≡ t = cc in
    subst (λ (u : Place). Fits most u) same (f, omega arith)
waiting_stays most CloseSymbol os p t f e = absurd cc

pub step_stays : (most : ℕ) (row : Row) (s t : Place) → Fits most s → sheet_step most s row ≡ Some t → Fits most t
step_stays most row (Objects kept mode) t f e = object_stays most row kept mode t f e
step_stays most row (Waiting os p) t f e = waiting_stays most row os p t f e
step_stays most row (Inside os p kept mode) t f e = inside_stays most row os p kept mode t f e

-- what a state ends with completes it, and is short enough
pub sheet_sound : (most : ℕ) (rows : List Row) (s : Place) (v : List ObjectData) → Fits most s → outcome (sheet_step most) sheet_end s rows ≡ Some v → (length v ≤ most) × Completes s v rows
sheet_sound most [] (Objects kept mode) v f e = (sound.closed_fits ObjectData Body make_object bodies.Shape most kept mode v f e, sound.ends ObjectData Body make_object bodies.Shape ThenObject ThenBody (λ b ts rest rows h. h) (λ s rest rows h. (refl, h)) kept mode v End [] e refl)
sheet_sound most [] (Waiting os p) v f e = absurd cc
sheet_sound most [] (Inside os p kept mode) v f e = absurd cc
sheet_sound most (row ∷ rows) s v f e = go (sheet_step most s row) refl e (λ t g. sheet_sound most rows t v g)
  where
    go : (o : Option Place) → sheet_step most s row ≡ o → ((o >>= λ t. run (sheet_step most) t rows) >>= sheet_end) ≡ Some v → ((t : Place) → Fits most t → outcome (sheet_step most) sheet_end t rows ≡ Some v → (length v ≤ most) × Completes t v rows) → (length v ≤ most) × Completes s v (row ∷ rows)
    go None same e later = absurd cc
    go (Some t) same e later =
        let rest = later t (step_stays most row s t f same) e in
        (rest.0, step_completes most row s t v rows f same rest.1)

-- what a symbol that is open leads to
abbrev InsideEnds : ℕ → List ObjectData → List ObjectData → ComponentLineData → List PartData → Mode Shape → List Row → Type 0
InsideEnds most v os p kept mode rows = outcome (sheet_step most) sheet_end (Inside os p kept mode) rows ≡ Some v

abbrev SheetEnds : ℕ → List ObjectData → List ObjectData → Mode Body → List Row → Type 0
SheetEnds most v kept mode rows = outcome (sheet_step most) sheet_end (Objects kept mode) rows ≡ Some v

-- where nothing may be attached any more, nothing was
inside_none : (most : ℕ) (v os : List ObjectData) (p : ComponentLineData) (s : Shape) (kept : List PartData) (rows : List Row) → InsideEnds most v os p (kept ++ make_part s [] ∷ []) Settled rows → InsideEnds most v os p kept (Last s) rows
inside_none most v os p s kept [] h = h
inside_none most v os p s kept (Drawn t ∷ rows) h = h
inside_none most v os p s kept (Library q ∷ rows) h = h
inside_none most v os p s kept (Embedding q ∷ rows) h = h
inside_none most v os p s kept (OpenBlock ∷ rows) h = absurd cc
inside_none most v os p s kept (CloseBlock ∷ rows) h = h
inside_none most v os p s kept (OpenSymbol ∷ rows) h = h
inside_none most v os p s kept (CloseSymbol ∷ rows) h = h

sheet_none : (most : ℕ) (v : List ObjectData) (b : Body) (kept : List ObjectData) (rows : List Row) → SheetEnds most v (kept ++ make_object b [] ∷ []) Settled rows → SheetEnds most v kept (Last b) rows
sheet_none most v b kept [] h = h
sheet_none most v b kept (Drawn t ∷ rows) h = h
sheet_none most v b kept (Library q ∷ rows) h = h
sheet_none most v b kept (Embedding q ∷ rows) h = h
sheet_none most v b kept (OpenBlock ∷ rows) h = absurd cc
sheet_none most v b kept (CloseBlock ∷ rows) h = h
sheet_none most v b kept (OpenSymbol ∷ rows) h = h
sheet_none most v b kept (CloseSymbol ∷ rows) h = h

-- a shape of a symbol
part_runs : (most : ℕ) (v os : List ObjectData) (p : ComponentLineData) (s : Shape) (kept : List PartData) (rest : List Row → Type 0) (rows : List Row) → length kept < 100000 → ((next : List Row) → rest next → InsideEnds most v os p kept (Last s) next) → ThenDrawn s rest rows → InsideEnds most v os p kept Settled rows
part_runs most v os p s kept rest [] few k h = absurd h
part_runs most v os p s kept rest (r ∷ rs) few k h =
    subst (λ (row : Row). InsideEnds most v os p kept Settled (row ∷ rs)) (sym h.0) (rw (lt-ltb (length kept) 100000 few) (k rs h.1))

-- the parts of a symbol and its end
parts_run : (most : ℕ) (v os : List ObjectData) (p : ComponentLineData) (parts : List PartData) (rest : List Row → Type 0) (rows : List Row) → length parts ≤ 100000 → ((next : List Row) → rest next → SheetEnds most v os (Last (embedded p parts)) next) → ThenEach ThenPart parts (ThenRow CloseSymbol rest) rows → InsideEnds most v os p [] Settled rows
parts_run most v os p parts rest rows few k h =
    runs.each_run PartData Shape make_part (λ a. a.shape) (λ a. a.attrs) ThenPart ThenDrawn (λ a rest rows h. h) (λ a. refl) 100000 (InsideEnds most v os p)
    (λ b kept rows h. h) (λ b us t kept rows h. h) (λ b us kept rows h. h) (inside_none most v os p) (part_runs most v os p)
    parts [] (ThenRow CloseSymbol rest) rows (omega (arith, few)) last h
  where
    last : (next : List Row) → ThenRow CloseSymbol rest next → InsideEnds most v os p parts Settled next
    last [] h = absurd h
    last (r ∷ rs) h = subst (λ (row : Row). InsideEnds most v os p parts Settled (row ∷ rs)) (sym h.0) (k rs h.1)

-- a component
component_runs : (most : ℕ) (v : List ObjectData) (c : ComponentData) (e : Option (List PartData)) (kept : List ObjectData) (rest : List Row → Type 0) (rows : List Row) → length kept < most → ((next : List Row) → rest next → SheetEnds most v kept (Last (bodies.Component (component_of (component_line_of c) e))) next) → ThenComponent c e rest rows → SheetEnds most v kept Settled rows
component_runs most v c None kept rest [] few k h = absurd h
component_runs most v c None kept rest (r ∷ rs) few k h =
    subst (λ (row : Row). SheetEnds most v kept Settled (row ∷ rs)) (sym h.0) (rw (lt-ltb (length kept) most few) (k rs h.1))
component_runs most v c (Some parts) kept rest [] few k h = absurd h
component_runs most v c (Some parts) kept rest (r ∷ []) few k h = absurd h.1.1
component_runs most v c (Some parts) kept rest (r ∷ q ∷ rs) few k h =
    subst (λ (row : Row). SheetEnds most v kept Settled (row ∷ q ∷ rs)) (sym h.0)
    (subst (λ (row : Row). SheetEnds most v kept Settled (Embedding (component_line_of c) ∷ row ∷ rs)) (sym h.1.1.0)
    (rw (lt-ltb (length kept) most few) (parts_run most v kept (component_line_of c) parts rest rs h.1.0 k h.1.1.1)))

-- what an object is
body_runs : (most : ℕ) (v : List ObjectData) (b : Body) (kept : List ObjectData) (rest : List Row → Type 0) (rows : List Row) → length kept < most → ((next : List Row) → rest next → SheetEnds most v kept (Last b) next) → ThenBody b rest rows → SheetEnds most v kept Settled rows
body_runs most v (bodies.Shape s) kept rest [] few k h = absurd h
body_runs most v (bodies.Shape s) kept rest (r ∷ rs) few k h =
    subst (λ (row : Row). SheetEnds most v kept Settled (row ∷ rs)) (sym h.0) (rw (lt-ltb (length kept) most few) (k rs h.1))
body_runs most v (bodies.Component c) kept rest rows few k h = component_runs most v c c.embedded kept rest rows few k h

-- the objects of a sheet
sheet_complete : (most : ℕ) (v : List ObjectData) (rows : List Row) → SpellObjects most v rows → SheetEnds most v [] Settled rows
sheet_complete most v rows h =
    runs.each_run ObjectData Body make_object (λ o. o.body) (λ o. o.attrs) ThenObject ThenBody (λ a rest rows h. h) (λ a. refl) most (SheetEnds most v)
    (λ b kept rows h. h) (λ b us t kept rows h. h) (λ b us kept rows h. h) (sheet_none most v) (body_runs most v)
    v [] End rows (let few = h.few in omega (arith, few)) last h.each
  where
    last : (next : List Row) → End next → SheetEnds most v v Settled next
    last next e = subst (λ (rs : List Row). SheetEnds most v v Settled rs) (sym e) refl

-- rows spell objects exactly where the machine takes them to these objects
pub objects_law : (most : ℕ) (v : List ObjectData) (rows : List Row) → SpellObjects most v rows ↔ (outcome (sheet_step most) sheet_end (Objects [] Settled) rows ≡ Some v)
objects_law most v rows = (sheet_complete most v rows, back)
  where
    back : outcome (sheet_step most) sheet_end (Objects [] Settled) rows ≡ Some v → SpellObjects most v rows
    back e =
        let h = sheet_sound most rows (Objects [] Settled) v (omega arith) e in
        record { few = h.0; each = subst (λ (os : List ObjectData). ThenEach ThenObject os End rows) (sym h.1.1) h.1.2 }

-- the same of a symbol file
abbrev SymbolEnds : List PartData → List PartData → Mode Shape → List Row → Type 0
SymbolEnds v kept mode rows = outcome symbol_step symbol_end (record { kept = kept; mode = mode }) rows ≡ Some v

symbol_none : (v : List PartData) (s : Shape) (kept : List PartData) (rows : List Row) → SymbolEnds v (kept ++ make_part s [] ∷ []) Settled rows → SymbolEnds v kept (Last s) rows
symbol_none v s kept [] h = h
symbol_none v s kept (Drawn t ∷ rows) h = h
symbol_none v s kept (Library q ∷ rows) h = h
symbol_none v s kept (Embedding q ∷ rows) h = h
symbol_none v s kept (OpenBlock ∷ rows) h = absurd cc
symbol_none v s kept (CloseBlock ∷ rows) h = h
symbol_none v s kept (OpenSymbol ∷ rows) h = h
symbol_none v s kept (CloseSymbol ∷ rows) h = h

symbol_shape : (v : List PartData) (s : Shape) (kept : List PartData) (rest : List Row → Type 0) (rows : List Row) → length kept < 100000 → ((next : List Row) → rest next → SymbolEnds v kept (Last s) next) → ThenDrawn s rest rows → SymbolEnds v kept Settled rows
symbol_shape v s kept rest [] few k h = absurd h
symbol_shape v s kept rest (r ∷ rs) few k h =
    subst (λ (row : Row). SymbolEnds v kept Settled (row ∷ rs)) (sym h.0) (rw (lt-ltb (length kept) 100000 few) (k rs h.1))

symbol_complete : (v : List PartData) (rows : List Row) → SpellParts v rows → SymbolEnds v [] Settled rows
symbol_complete v rows h =
    runs.each_run PartData Shape make_part (λ a. a.shape) (λ a. a.attrs) ThenPart ThenDrawn (λ a rest rows h. h) (λ a. refl) 100000 (SymbolEnds v)
    (λ b kept rows h. h) (λ b us t kept rows h. h) (λ b us kept rows h. h) (symbol_none v) (symbol_shape v)
    v [] End rows (let few = h.few in omega (arith, few)) last h.each
  where
    last : (next : List Row) → End next → SymbolEnds v v Settled next
    last next e = subst (λ (rs : List Row). SymbolEnds v v Settled rs) (sym e) refl

abbrev pub LevelFits : Level PartData Shape → Type 0
LevelFits l = sound.Fits PartData Shape make_part self 100000 l.kept l.mode

symbol_sound : (rows : List Row) (l : Level PartData Shape) (v : List PartData) → LevelFits l → outcome symbol_step symbol_end l rows ≡ Some v → (length v ≤ 100000) × Parts l.kept l.mode v End rows
symbol_sound [] l v f e = (sound.closed_fits PartData Shape make_part self 100000 l.kept l.mode v f e, sound.ends PartData Shape make_part self ThenPart ThenDrawn (λ b ts rest rows h. h) (λ s rest rows h. (refl, h)) l.kept l.mode v End [] e refl)
symbol_sound (row ∷ rows) l v f e = go (symbol_step l row) refl e (λ t g. symbol_sound rows t v g)
  where
    go : (o : Option (Level PartData Shape)) → symbol_step l row ≡ o → ((o >>= λ t. run symbol_step t rows) >>= symbol_end) ≡ Some v → ((t : Level PartData Shape) → LevelFits t → outcome symbol_step symbol_end t rows ≡ Some v → (length v ≤ 100000) × Parts t.kept t.mode v End rows) → (length v ≤ 100000) × Parts l.kept l.mode v End (row ∷ rows)
    go None same e later = absurd cc
    go (Some t) same e later =
        let rest = later t (sound.level_fits PartData Shape make_part self 100000 row l.kept l.mode t f same) e in
        (rest.0, sound.level_sound PartData Shape make_part self ThenPart ThenDrawn (λ b ts rest rows h. h) (λ s rest rows h. (refl, h)) 100000 row l.kept l.mode t v End rows same rest.1)

pub parts_law : (v : List PartData) (rows : List Row) → SpellParts v rows ↔ (outcome symbol_step symbol_end (record { kept = []; mode = Settled }) rows ≡ Some v)
parts_law v rows = (symbol_complete v rows, back)
  where
    back : outcome symbol_step symbol_end (record { kept = []; mode = Settled }) rows ≡ Some v → SpellParts v rows
    back e =
        let h = symbol_sound rows (record { kept = []; mode = Settled }) v (omega arith) e in
        record { few = h.0; each = subst (λ (ps : List PartData). ThenEach ThenPart ps End rows) (sym h.1.1) h.1.2 }
