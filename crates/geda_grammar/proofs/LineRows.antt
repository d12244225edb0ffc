-- The lines that spell rows are those that the machine takes to these rows.
use Rattle.std.proofs.Common.{◌≡◌, ℕ, Bool, true, false, cond, List, [], ◌∷◌, ◌++◌, Option, Some, None, refl, sym, ap, subst, inl, inr, ◌⊎◌}
use Rattle.std.specs.List.{AllByRecursion}
use Rattle.std.proofs.lemmas.List.{append-nil}
use Rattle.std.specs.Option.{option_map}
use Rattle.geda_model.specs.declared.shape.Shape.{Shape}
use Rattle.geda_grammar.specs.declared.row.Row.{Row}
use Rattle.geda_grammar.specs.declared.row.Row.TheVariants.{Drawn}
use Rattle.geda_grammar.specs.Rows.{IsRow}
use Rattle.geda_grammar.specs.Spelling.{IsBlankLine, SpellRows}
use Rattle.geda_grammar.specs.steps.Running.{outcome, run, ◌>>=◌}
use Rattle.geda_grammar.specs.steps.Reading.{Progress, Still, Whole, SheetLine, Blank, Complete, Begins, Faulty, ReaderState, Ready, Amid, take_line, take_progress, reader_step, reader_end}

-- lines that complete a shape
abbrev pub Follows : {P : Type 0} → (P → List ℕ → Option (Progress P)) → P → Shape → List (List ℕ) → Type 0
Follows more p shape [] = ⊥
Follows {P = P} more p shape (line ∷ lines) = ((more p line ≡ Some (Whole shape)) × (lines ≡ [])) ⊎ ((q : P) × (more p line ≡ Some (Still q)) × Follows more q shape lines)

module _ (S P V : Type 0) (sheet_line : List ℕ → SheetLine P) (more : P → List ℕ → Option (Progress P)) (row_step : S → Row → Option S) (finish : S → Option V) (admits : S → P → Bool) where
  -- what lines make of a state
  abbrev EndsIn : V → ReaderState S P → List (List ℕ) → Type 0
  EndsIn v r lines = outcome (reader_step sheet_line more row_step admits) (reader_end finish) r lines ≡ Some v

  -- the lines of a shape
  pub follows_run : (following : List (List ℕ)) (p : P) (shape : Shape) (s t : S) (v : V) (lines : List (List ℕ)) → Follows more p shape following → row_step s (Drawn shape) ≡ Some t → EndsIn v (Ready t) lines → EndsIn v (Amid s p) (following ++ lines)
  follows_run [] p shape s t v lines f e h = absurd f
  follows_run (line ∷ following) p shape s t v lines (inl f) e h =
      let one : EndsIn v (Amid s p) (line ∷ lines) = rw (f.0, e) h in
      subst (λ (ls : List (List ℕ)). EndsIn v (Amid s p) (line ∷ (ls ++ lines))) (sym f.1) one
  follows_run (line ∷ following) p shape s t v lines (inr f) e h = rw f.1 (follows_run following f.0 shape s t v lines f.2 e h)

module _ (S P V : Type 0) (sheet_line : List ℕ → SheetLine P) (more : P → List ℕ → Option (Progress P)) (row_step : S → Row → Option S) (finish : S → Option V) (admits : S → P → Bool)
    (blank_said : (line : List ℕ) → IsBlankLine line → sheet_line line ≡ Blank)
    (said_blank : (line : List ℕ) → sheet_line line ≡ Blank → IsBlankLine line)
    (said_row : (line : List ℕ) (row : Row) → sheet_line line ≡ Complete row → IsRow row line [])
    (said_begins : (line : List ℕ) (p : P) (shape : Shape) (following : List (List ℕ)) → sheet_line line ≡ Begins p → Follows more p shape following → IsRow (Drawn shape) line following)
    (row_said : (row : Row) (line : List ℕ) (following : List (List ℕ)) → IsRow row line following → ((sheet_line line ≡ Complete row) × (following ≡ [])) ⊎ ((p : P) × (shape : Shape) × (row ≡ Drawn shape) × (sheet_line line ≡ Begins p) × Follows more p shape following))
    (admitted : (s t : S) (line : List ℕ) (p : P) (shape : Shape) (following : List (List ℕ)) → sheet_line line ≡ Begins p → Follows more p shape following → row_step s (Drawn shape) ≡ Some t → admits s p ≡ true)
  where
    abbrev step : ReaderState S P → List ℕ → Option (ReaderState S P)
    step = reader_step sheet_line more row_step admits

    -- what lines make of a state
    abbrev pub Ends : V → ReaderState S P → List (List ℕ) → Type 0
    Ends v r lines = outcome step (reader_end finish) r lines ≡ Some v

    -- what rows make of a state
    abbrev pub RowsEnd : V → S → List Row → Type 0
    RowsEnd v s rows = outcome row_step finish s rows ≡ Some v

    -- blank lines change nothing
    blanks_run : (blank : List (List ℕ)) (s : S) (v : V) (lines : List (List ℕ)) → AllByRecursion IsBlankLine blank → Ends v (Ready s) lines → Ends v (Ready s) (blank ++ lines)
    blanks_run [] s v lines b h = h
    blanks_run (line ∷ blank) s v lines b h = rw (blank_said line b.0) (blanks_run blank s v lines b.1 h)

    -- the state behind a row
    stepped : (s : S) (row : Row) (rows : List Row) (v : V) → RowsEnd v s (row ∷ rows) → (t : S) × (row_step s row ≡ Some t) × RowsEnd v t rows
    stepped s row rows v h = go (row_step s row) refl h
      where
        go : (o : Option S) → row_step s row ≡ o → ((o >>= λ t. run row_step t rows) >>= finish) ≡ Some v → (t : S) × (row_step s row ≡ Some t) × RowsEnd v t rows
        go None e h = absurd cc
        go (Some t) e h = (t, e, h)

    -- a row
    row_run : (row : Row) (line : List ℕ) (following lines : List (List ℕ)) (s t : S) (v : V) → IsRow row line following → row_step s row ≡ Some t → Ends v (Ready t) lines → Ends v (Ready s) (line ∷ (following ++ lines))
    row_run row line following lines s t v is e h = go (row_said row line following is)
      where
        go : ((sheet_line line ≡ Complete row) × (following ≡ [])) ⊎ ((p : P) × (shape : Shape) × (row ≡ Drawn shape) × (sheet_line line ≡ Begins p) × Follows more p shape following) → Ends v (Ready s) (line ∷ (following ++ lines))
        go (inl f) =
            let one : Ends v (Ready s) (line ∷ lines) = rw (f.0, e) h in
            subst (λ (ls : List (List ℕ)). Ends v (Ready s) (line ∷ (ls ++ lines))) (sym f.1) one
        go (inr f) =
            let taken = subst (λ (r : Row). row_step s r ≡ Some t) f.2 e in
            rw (f.3, admitted s t line f.0 f.1 following f.3 f.4 taken) (follows_run S P V sheet_line more row_step finish admits following f.0 f.1 s t v lines f.4 taken h)

    -- rows that are spelled are taken
    pub complete : (rows : List Row) (lines : List (List ℕ)) (s : S) (v : V) → SpellRows rows lines → RowsEnd v s rows → Ends v (Ready s) lines
    complete [] lines s v spelled h =
        subst (λ (ls : List (List ℕ)). Ends v (Ready s) ls) (append-nil lines) (blanks_run lines s v [] spelled h)
    complete (row ∷ rows) lines s v spelled h =
        let (blank, line, following, rest, same, blanks, is, others) = spelled in
        let t = stepped s row rows v h in
        let tail = row_run row line following rest s t.0 v is t.1 (complete rows rest t.0 v others t.2) in
        subst (λ (ls : List (List ℕ)). Ends v (Ready s) ls) (sym same) (blanks_run blank s v (line ∷ (following ++ rest)) blanks tail)

    -- what the lines are, by the state before them
    abbrev Spelled : V → ReaderState S P → List (List ℕ) → Type 0
    Spelled v (Ready s) lines = (rows : List Row) × SpellRows rows lines × RowsEnd v s rows
    Spelled v (Amid s p) lines = (shape : Shape) × (following : List (List ℕ)) × (rest : List (List ℕ)) × (rows : List Row) × (lines ≡ following ++ rest) × Follows more p shape following × SpellRows rows rest × RowsEnd v s (Drawn shape ∷ rows)

    -- a blank line in front
    blank_first : (rows : List Row) (line : List ℕ) (lines : List (List ℕ)) → IsBlankLine line → SpellRows rows lines → SpellRows rows (line ∷ lines)
    blank_first [] line lines b h = (b, h)
    blank_first (row ∷ rows) line lines b (blank, first, following, rest, same, blanks, is, others) = (line ∷ blank, first, following, rest, ap (λ (ls : List (List ℕ)). line ∷ ls) same, (b, blanks), is, others)

    -- a row in front of rows
    rows_step : (s t : S) (row : Row) (rows : List Row) (v : V) → row_step s row ≡ Some t → RowsEnd v t rows → RowsEnd v s (row ∷ rows)
    rows_step s t row rows v e h = rw e h

    -- what the step between rows shows
    said_spelled : (what : SheetLine P) (line : List ℕ) (lines : List (List ℕ)) (s : S) (r : ReaderState S P) (v : V) → sheet_line line ≡ what → take_line row_step admits s what ≡ Some r → Spelled v r lines → Spelled v (Ready s) (line ∷ lines)
    said_spelled Blank line lines s r v w e h =
        let same : Ready s ≡ r = cc in
        let g : Spelled v (Ready s) lines = subst (λ (q : ReaderState S P). Spelled v q lines) (sym same) h in
        (g.0, blank_first g.0 line lines (said_blank line w) g.1, g.2)
    said_spelled (Complete row) line lines s r v w e h = go (row_step s row) refl e
      where
        go : (o : Option S) → row_step s row ≡ o → option_map Ready o ≡ Some r → Spelled v (Ready s) (line ∷ lines)
        go None f e = absurd cc
        go (Some t) f e =
            let same : Ready t ≡ r = cc in
            let g : Spelled v (Ready t) lines = subst (λ (q : ReaderState S P). Spelled v q lines) (sym same) h in
            (row ∷ g.0, ([], line, [], lines, refl, tt, said_row line row w, g.1), rows_step s t row g.0 v f g.2)
    said_spelled (Begins p) line lines s r v w e h = go (admits s p) e
      where
        go : (b : Bool) → cond b (Some (Amid s p)) None ≡ Some r → Spelled v (Ready s) (line ∷ lines)
        go false e = absurd cc
        go true e =
            let same : Amid s p ≡ r = cc in
            let g : Spelled v (Amid s p) lines = subst (λ (q : ReaderState S P). Spelled v q lines) (sym same) h in
            (Drawn g.0 ∷ g.3, ([], line, g.1, g.2, ap (λ (ls : List (List ℕ)). line ∷ ls) g.4, tt, said_begins line p g.0 g.1 w g.5, g.6), g.7)
    said_spelled Faulty line lines s r v w e h = absurd cc

    -- what the step amid a shape shows
    progress_spelled : (o : Option (Progress P)) (line : List ℕ) (lines : List (List ℕ)) (s : S) (p : P) (r : ReaderState S P) (v : V) → more p line ≡ o → take_progress row_step s o ≡ Some r → Spelled v r lines → Spelled v (Amid s p) (line ∷ lines)
    progress_spelled None line lines s p r v w e h = absurd cc
    progress_spelled (Some (Still q)) line lines s p r v w e h =
        let same : Amid s q ≡ r = cc in
        let g : Spelled v (Amid s q) lines = subst (λ (q : ReaderState S P). Spelled v q lines) (sym same) h in
        (g.0, line ∷ g.1, g.2, g.3, ap (λ (ls : List (List ℕ)). line ∷ ls) g.4, inr (q, w, g.5), g.6, g.7)
    progress_spelled (Some (Whole shape)) line lines s p r v w e h = go (row_step s (Drawn shape)) refl e
      where
        go : (o : Option S) → row_step s (Drawn shape) ≡ o → option_map Ready o ≡ Some r → Spelled v (Amid s p) (line ∷ lines)
        go None f e = absurd cc
        go (Some t) f e =
            let same : Ready t ≡ r = cc in
            let g : Spelled v (Ready t) lines = subst (λ (q : ReaderState S P). Spelled v q lines) (sym same) h in
            (shape, line ∷ [], lines, g.0, refl, inl (w, refl), g.1, rows_step s t (Drawn shape) g.0 v f g.2)

    step_spelled : (line : List ℕ) (lines : List (List ℕ)) (q r : ReaderState S P) (v : V) → step q line ≡ Some r → Spelled v r lines → Spelled v q (line ∷ lines)
    step_spelled line lines (Ready s) r v e h = said_spelled (sheet_line line) line lines s r v refl e h
    step_spelled line lines (Amid s p) r v e h = progress_spelled (more p line) line lines s p r v refl e h

    pub sound : (lines : List (List ℕ)) (q : ReaderState S P) (v : V) → Ends v q lines → Spelled v q lines
    sound [] (Ready s) v h = ([], tt, h)
    sound [] (Amid s p) v h = absurd cc
    sound (line ∷ lines) q v h = go (step q line) refl h (λ r g. sound lines r v g)
      where
        go : (o : Option (ReaderState S P)) → step q line ≡ o → ((o >>= λ r. run step r lines) >>= reader_end finish) ≡ Some v → ((r : ReaderState S P) → Ends v r lines → Spelled v r lines) → Spelled v q (line ∷ lines)
        go None e h later = absurd cc
        go (Some r) e h later = step_spelled line lines q r v e (later r h)
