-- A kind of file, its machine over rows, and what the machine over lines reads.
use Rattle.std.proofs.Common.{◌≡◌, ℕ, Bool, true, false, List, [], ◌∷◌, ◌++◌, Option, Some, None, refl, sym, ap, subst, ◌∙◌, ◌↔◌, inl, inr, ◌⊎◌, Ok, Err, codes}
use Rattle.std.specs.Prelude.{IsSome}
use Rattle.std.specs.List.{AllByRecursion}
use Rattle.std.specs.Option.{option_map}
use Rattle.geda_model.specs.Sheets.{HeadData}
use Rattle.geda_model.specs.declared.shape.Shape.{Shape}
use Rattle.geda_grammar.specs.declared.kind.ReadKind.{ReadKind}
use Rattle.geda_grammar.specs.Letters.{is_bracket}
use Rattle.geda_grammar.specs.declared.row.Row.TheVariants as rows
use Rattle.geda_grammar.specs.declared.row.Row.{Row}
use Rattle.geda_grammar.specs.declared.row.Row.TheVariants.{Drawn}
use Rattle.geda_grammar.specs.Rows.{letter_of_shape, letter_of_row}
use Rattle.geda_grammar.specs.steps.Reading.{Progress, Still, Whole, ReaderState, Ready, Amid, reader_step, reader_end, take_progress}
use Rattle.geda_grammar.specs.steps.Following.{Pending, more}
use Rattle.geda_grammar.specs.steps.SheetLines.{sheet_line}
use Rattle.geda_grammar.specs.steps.Running.{run, outcome, ◌>>=◌}
use Rattle.geda_grammar.specs.Faults.{FileKind, Opens, HasNoRoom, AwaitsVersion, IsFaultOfLines, kinds}
use Rattle.geda_grammar.specs.steps.Tests.{test, first_true, read_from}
use Rattle.geda_grammar.specs.steps.Files.{RowMachine, admits, FileState, Unbegun, Begun, begun_at, file_step, file_end, file_start, file_machine, file_has_no_room, is_unbegun, version_of}
use Rattle.geda_text.specs.Lines.{IsCutLine, fields_of}
use Rattle.geda_grammar.proofs.LevelSound.{mapped}
use Rattle.geda_grammar.proofs.OpensLaw as opening
use Rattle.geda_grammar.proofs.FaultLaw as faults
use Rattle.geda_grammar.proofs.FileLaws as files
use Rattle.geda_grammar.proofs.FileLaws.{MayStand, close_symbol_line}
use Rattle.geda_grammar.proofs.RowFacts.{IsAtMost}
use Rattle.geda_grammar.proofs.VersionLaws.{version_law}

-- `]` is no version line
no_version : version_of (codes "]") ≡ None
unfolding fields_of
no_version = refl

-- the version line comes first, if at all
module _ (S W : Type 0) (m : RowMachine S W) where
  step_begun : (t u : FileState S) (line : List ℕ) → file_step m t line ≡ Some u → is_unbegun u ≡ false
  step_begun Unbegun u line e =
      let b = mapped (begun_at m.start) (version_of line) u e in
      ap is_unbegun (sym b.2)
  step_begun (Begun head r) u line e =
      let b = mapped (Begun head) (reader_step sheet_line more m.step (admits m) r line) u e in
      ap is_unbegun (sym b.2)

  run_begun : (xs : List (List ℕ)) (t u : FileState S) → is_unbegun t ≡ false → run (file_step m) t xs ≡ Some u → is_unbegun u ≡ false
  run_begun [] t u f e = let same : t ≡ u = cc in ap is_unbegun (sym same) ∙ f
  run_begun (x ∷ xs) t u f e = go (file_step m t x) refl e (λ w g h. run_begun xs w u g h)
    where
      go : (o : Option (FileState S)) → file_step m t x ≡ o → (o >>= λ w. run (file_step m) w xs) ≡ Some u → ((w : FileState S) → is_unbegun w ≡ false → run (file_step m) w xs ≡ Some u → is_unbegun u ≡ false) → is_unbegun u ≡ false
      go None g e later = absurd cc
      go (Some w) g e later = later w (step_begun t w x g) e

  some_begun : (x : List ℕ) (xs : List (List ℕ)) (t u : FileState S) → run (file_step m) t (x ∷ xs) ≡ Some u → is_unbegun u ≡ false
  some_begun x xs t u e = go (file_step m t x) refl e
    where
      go : (o : Option (FileState S)) → file_step m t x ≡ o → (o >>= λ w. run (file_step m) w xs) ≡ Some u → is_unbegun u ≡ false
      go None g e = absurd cc
      go (Some w) g e = run_begun xs w u (step_begun t w x g) e

  pub awaits_by : (b : Bool) (before : List (List ℕ)) (t : FileState S) → run (file_step m) (file_start m b) before ≡ Some t → ((b ≡ true) × (before ≡ [])) ↔ (is_unbegun t ≡ true)
  awaits_by true [] t e = ((λ h. let same : Unbegun ≡ t = cc in ap is_unbegun (sym same)), (λ h. (refl, refl)))
  awaits_by true (x ∷ xs) t e = ((λ h. absurd (let f = h.1 in cc)), (λ h. absurd (let f = some_begun x xs Unbegun t e in cc)))
  awaits_by false before t e = ((λ h. absurd (let f = h.0 in cc)), (λ h. absurd (let f = run_begun before (file_start m false) t refl e in cc)))

module _ (S W V : Type 0) (m : RowMachine S W) (make : HeadData → W → V) (versioned : Bool) (file : FileKind V) (Valid : S → Type 0)
    (valid_start : Valid m.start)
    (valid_step : (s t : S) (row : Row) → Valid s → m.step s row ≡ Some t → Valid t)
    (as_letter : (s : S) (a b : Shape) → letter_of_shape a ≡ letter_of_shape b → IsSome (m.step s (Drawn a)) → IsSome (m.step s (Drawn b)))
    (accepts : (s : S) (row : Row) → Valid s → is_bracket (letter_of_row row) ≡ false → MayStand m s (letter_of_row row) → IsSome (m.step s row))
    (closing : (s : S) → Valid s → (lines : List (List ℕ)) × AllByRecursion IsCutLine lines × (w : W) × (outcome (reader_step sheet_line more m.step (admits m)) (reader_end m.finish) (Ready s) lines ≡ Some w))
    (spells : (lines : List (List ℕ)) (v : V) → file.Spell v lines ↔ (outcome (file_step m) (file_end m make) (file_start m versioned) lines ≡ Some v))
    (same_version : file.versioned ≡ versioned)
    (same_sort : file.is_symbol ≡ m.is_symbol)
    (IsFull HasFull : W → Type 0)
    (full_is : (head : HeadData) (w : W) → file.IsFull (make head w) ↔ IsFull w)
    (has_full_is : (head : HeadData) (w : W) → file.HasFullSymbol (make head w) ↔ HasFull w)
    (not_full : (s t : S) (shape : Shape) (w : W) → m.step s (Drawn shape) ≡ Some t → m.finish t ≡ Some w → ¬ (HasFull w))
    (full_law : (s : S) → Valid s → IsAtMost S W m.step m.finish IsFull HasFull s ↔ (m.has_no_room s ≡ true))
  where
    abbrev start : FileState S
    start = file_start m versioned

    abbrev ValidFile : FileState S → Type 0
    ValidFile = files.ValidFile S W m Valid valid_start valid_step as_letter accepts closing

    start_valid : ValidFile start
    start_valid = files.start_valid S W m Valid valid_start valid_step as_letter accepts closing versioned

    keeps : (t u : FileState S) (line : List ℕ) → ValidFile t → file_step m t line ≡ Some u → ValidFile u
    keeps = files.file_keeps S W m Valid valid_start valid_step as_letter accepts closing

    ends : (t : FileState S) → ValidFile t → (lines : List (List ℕ)) × AllByRecursion IsCutLine lines × (v : V) × (outcome (file_step m) (file_end m make) t lines ≡ Some v)
    ends t v = files.file_closing S W m Valid valid_start valid_step as_letter accepts closing V make t v

    reached : (before : List (List ℕ)) (t : FileState S) → run (file_step m) start before ≡ Some t → ValidFile t
    reached before t e = opening.run_keeps (FileState S) (List ℕ) V (file_step m) (file_end m make) ValidFile IsCutLine keeps ends before start t start_valid e

    -- lines open a file exactly where the machine takes them
    pub opens : (lines : List (List ℕ)) → Opens file lines ↔ IsSome (run (file_step m) start lines)
    opens lines =
        let law = opening.opens_law (FileState S) (List ℕ) V (file_step m) (file_end m make) ValidFile IsCutLine keeps ends lines start start_valid in
        ((λ h. law.0 (h.0, h.1, h.2, (spells (lines ++ h.0) h.2).0 h.3)), (λ some. let h = law.1 some in (h.0, h.1, h.2, (spells (lines ++ h.0) h.2).1 h.3)))

    -- what lines end with, by the state that they reach
    ends_now : (before : List (List ℕ)) (t : FileState S) → run (file_step m) start before ≡ Some t → outcome (file_step m) (file_end m make) start before ≡ file_end m make t
    ends_now before t e = ap (λ (o : Option (FileState S)). o >>= file_end m make) e

    ends_behind : (before : List (List ℕ)) (t : FileState S) → run (file_step m) start before ≡ Some t → outcome (file_step m) (file_end m make) start (before ++ codes "]" ∷ []) ≡ outcome (file_step m) (file_end m make) t (codes "]" ∷ [])
    ends_behind before t e = opening.outcome-behind (file_step m) (file_end m make) before (codes "]" ∷ []) start t e

    -- what stands there, now or behind a `]`
    abbrev AtMost : FileState S → Type 0
    AtMost t = ((v : V) × (file_end m make t ≡ Some v) × file.IsFull v) ⊎ ((v : V) × (outcome (file_step m) (file_end m make) t (codes "]" ∷ []) ≡ Some v) × file.HasFullSymbol v)

    lifted : (head : HeadData) (r : ReaderState S Pending) → outcome (file_step m) (file_end m make) (Begun head r) (codes "]" ∷ []) ≡ option_map (make head) (outcome (reader_step sheet_line more m.step (admits m)) (reader_end m.finish) r (codes "]" ∷ []))
    lifted head r = files.lifted S W m Valid valid_start valid_step as_letter accepts closing V make (codes "]" ∷ []) head r

    abbrev as_ready : S → ReaderState S Pending
    as_ready t = Ready t

    -- behind a `]`, between rows
    behind : (s : S) → outcome (reader_step sheet_line more m.step (admits m)) (reader_end m.finish) (Ready s) (codes "]" ∷ []) ≡ (m.step s rows.CloseSymbol >>= m.finish)
    behind s = rw close_symbol_line (go (m.step s rows.CloseSymbol))
      where
        go : (o : Option S) → ((option_map as_ready o >>= λ r. Some r) >>= reader_end m.finish) ≡ (o >>= m.finish)
        go None = refl
        go (Some t) = refl

    -- amid a shape nothing is full
    amid_not_full : (s : S) (p : Pending) (w : W) (o : Option (Progress Pending)) → ((take_progress m.step s o >>= λ r. Some r) >>= reader_end m.finish) ≡ Some w → ¬ (HasFull w)
    amid_not_full s p w None e = absurd cc
    amid_not_full s p w (Some (Still q)) e = absurd cc
    amid_not_full s p w (Some (Whole shape)) e = go (m.step s (Drawn shape)) refl e
      where
        go : (o : Option S) → m.step s (Drawn shape) ≡ o → ((option_map as_ready o >>= λ r. Some r) >>= reader_end m.finish) ≡ Some w → ¬ (HasFull w)
        go None f e = absurd cc
        go (Some t) f e = not_full s t shape w f e

    full_there : (t : FileState S) → ValidFile t → AtMost t → file_has_no_room m t ≡ true
    full_there Unbegun v (inl h) = absurd (let e = h.1 in cc)
    full_there Unbegun v (inr h) = absurd (let e : None ≡ Some h.0 = rw no_version at h.1 in cc)
    full_there (Begun head (Ready s)) v (inl h) =
        let w = mapped (make head) (m.finish s) h.0 h.1 in
        (full_law s v).0 (inl (w.0, w.1, (full_is head w.0).0 (subst file.IsFull (sym w.2) h.2)))
    full_there (Begun head (Ready s)) v (inr h) =
        let w = mapped (make head) (m.step s rows.CloseSymbol >>= m.finish) h.0 (ap (option_map (make head)) (sym (behind s)) ∙ sym (lifted head (Ready s)) ∙ h.1) in
        (full_law s v).0 (inr (w.0, w.1, (has_full_is head w.0).0 (subst file.HasFullSymbol (sym w.2) h.2)))
    full_there (Begun head (Amid s p)) v (inl h) = absurd (let e = h.1 in cc)
    full_there (Begun head (Amid s p)) v (inr h) =
        let w = mapped (make head) (outcome (reader_step sheet_line more m.step (admits m)) (reader_end m.finish) (Amid s p) (codes "]" ∷ [])) h.0 (sym (lifted head (Amid s p)) ∙ h.1) in
        absurd (amid_not_full s p w.0 (more p (codes "]")) w.1 ((has_full_is head w.0).0 (subst file.HasFullSymbol (sym w.2) h.2)))

    full_back : (t : FileState S) → ValidFile t → file_has_no_room m t ≡ true → AtMost t
    full_back Unbegun v e = absurd cc
    full_back (Begun head (Ready s)) v e = go ((full_law s v).1 e)
      where
        go : IsAtMost S W m.step m.finish IsFull HasFull s → AtMost (Begun head (Ready s))
        go (inl h) = inl (make head h.0, ap (option_map (make head)) h.1, (full_is head h.0).1 h.2)
        go (inr h) = inr (make head h.0, lifted head (Ready s) ∙ ap (option_map (make head)) (behind s ∙ h.1), (has_full_is head h.0).1 h.2)
    full_back (Begun head (Amid s p)) v e = absurd cc

    no_room : (before : List (List ℕ)) (t : FileState S) → run (file_step m) start before ≡ Some t → HasNoRoom file before ↔ (file_has_no_room m t ≡ true)
    no_room before t e = (there, back)
      where
        there : HasNoRoom file before → file_has_no_room m t ≡ true
        there (inl h) = full_there t (reached before t e) (inl (h.0, sym (ends_now before t e) ∙ (spells before h.0).0 h.1, h.2))
        there (inr h) = full_there t (reached before t e) (inr (h.0, sym (ends_behind before t e) ∙ (spells (before ++ codes "]" ∷ []) h.0).0 h.1, h.2))

        back_from : AtMost t → HasNoRoom file before
        back_from (inl h) = inl (h.0, (spells before h.0).1 (ends_now before t e ∙ h.1), h.2)
        back_from (inr h) = inr (h.0, (spells (before ++ codes "]" ∷ []) h.0).1 (ends_behind before t e ∙ h.1), h.2)

        back : file_has_no_room m t ≡ true → HasNoRoom file before
        back f = back_from (full_back t (reached before t e) f)

    awaits : (before : List (List ℕ)) (t : FileState S) → run (file_step m) start before ≡ Some t → AwaitsVersion file before ↔ (is_unbegun t ≡ true)
    awaits before t e =
        let law = awaits_by S W m versioned before t e in
        ((λ h. law.0 (sym same_version ∙ h.0, h.1)), (λ f. let h = law.1 f in (same_version ∙ h.0, h.1)))

    total : (before : List (List ℕ)) (t : FileState S) (line : List ℕ) → run (file_step m) start before ≡ Some t → file_step m t line ≡ None → IsSome (first_true (test (file_machine m) t line) kinds)
    total before t line e stop = files.file_total S W m Valid valid_start valid_step as_letter accepts closing t line (reached before t e) stop

    -- lines spell exactly what is read
    pub spelling_law : (lines : List (List ℕ)) (v : V) → file.Spell v lines ↔ (read_from (file_machine m) (file_end m make) start 0 lines ≡ Ok v)
    spelling_law = faults.spelling_law V (FileState S) file (file_machine m) (file_end m make) start spells opens same_sort no_room awaits version_law total

    -- lines have exactly the fault that is found
    pub fault_law : (lines : List (List ℕ)) (kind : ReadKind) (number : ℕ) → IsFaultOfLines file lines kind number ↔ (read_from (file_machine m) (file_end m make) start 0 lines ≡ Err (kind, number))
    fault_law = faults.fault_law V (FileState S) file (file_machine m) (file_end m make) start spells opens same_sort no_room awaits version_law total
