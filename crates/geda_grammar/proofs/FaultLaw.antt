-- What the machine reads is what the lines spell, and its fault is theirs.
use Rattle.std.proofs.Common.{◌≡◌, ℕ, ◌+◌, Bool, true, false, List, [], ◌∷◌, ◌++◌, length, Option, Some, None, refl, sym, ap, subst, ◌∙◌, ◌↔◌, inl, inr, append_assoc, arith, Result, Ok, Err}
use Rattle.std.specs.Prelude.{is_some, IsSome}
use Rattle.std.proofs.lemmas.List.{append-nil, length-append}
use Rattle.geda_model.specs.Sheets.{HeadData}
use Rattle.geda_grammar.specs.declared.kind.ReadKind.{ReadKind}
use Rattle.geda_grammar.specs.declared.kind.ReadKind.TheVariants.{CutShort}
use Rattle.geda_grammar.specs.Spelling.{IsVersionLine}
use Rattle.geda_grammar.specs.Faults.{FileKind, Opens, HasNoRoom, AwaitsVersion, Holds, kinds, FirstOf, EndsShort, IsFaultOfLines, end_kind}
use Rattle.geda_grammar.specs.steps.Running.{run, outcome, ◌>>=◌}
use Rattle.geda_grammar.specs.steps.Tests.{LineMachine, test, first_true, kind_of, early_end, ended_with, read_from}
use Rattle.geda_grammar.proofs.Deciding as deciding

-- there is one first kind
one_first : (P : ReadKind → Type 0) (ks : List ReadKind) (a b : ReadKind) → FirstOf P ks a → FirstOf P ks b → a ≡ b
one_first P [] a b p q = absurd p
one_first P (k ∷ ks) a b (inl p) (inl q) = p.1 ∙ sym q.1
one_first P (k ∷ ks) a b (inl p) (inr q) = absurd (q.0 p.0)
one_first P (k ∷ ks) a b (inr p) (inl q) = absurd (p.0 q.0)
one_first P (k ∷ ks) a b (inr p) (inr q) = one_first P ks a b p.1 q.1

-- a refusal, and its parts
abbrev refused : {V : Type 0} → ReadKind → ℕ → Result V (ReadKind × ℕ)
refused kind number = Err (kind, number)

abbrev pub kind_in : {V : Type 0} → ReadKind → Result V (ReadKind × ℕ) → ReadKind
kind_in kind (Ok v) = kind
kind_in kind (Err e) = e.0

abbrev pub number_in : {V : Type 0} → ℕ → Result V (ReadKind × ℕ) → ℕ
number_in number (Ok v) = number
number_in number (Err e) = e.1

module _ (V T : Type 0) (file : FileKind V) (m : LineMachine T) (finish : T → Option V) (start : T)
    (spells : (lines : List (List ℕ)) (v : V) → file.Spell v lines ↔ (outcome m.step finish start lines ≡ Some v))
    (opens : (lines : List (List ℕ)) → Opens file lines ↔ IsSome (run m.step start lines))
    (same_sort : file.is_symbol ≡ m.is_symbol)
    (no_room : (before : List (List ℕ)) (t : T) → run m.step start before ≡ Some t → HasNoRoom file before ↔ (m.has_no_room t ≡ true))
    (awaits : (before : List (List ℕ)) (t : T) → run m.step start before ≡ Some t → AwaitsVersion file before ↔ (m.awaits_version t ≡ true))
    (version : (line : List ℕ) → ((head : HeadData) × IsVersionLine head line) ↔ IsSome (m.version_of line))
    (total : (before : List (List ℕ)) (t : T) (line : List ℕ) → run m.step start before ≡ Some t → m.step t line ≡ None → IsSome (first_true (test m t line) kinds))
  where
    abbrev Read : T → ℕ → List (List ℕ) → Result V (ReadKind × ℕ)
    Read = read_from m finish

    -- lines that are taken
    read_through : (xs ys : List (List ℕ)) (t u : T) (n : ℕ) → run m.step t xs ≡ Some u → Read t n (xs ++ ys) ≡ Read u (n + length xs) ys
    read_through [] ys t u n e =
        let same : t ≡ u = cc in
        let none : n ≡ n + 0 = omega arith in
        ap (λ (w : T). Read w n ys) same ∙ ap (λ (k : ℕ). Read u k ys) none
    read_through (x ∷ xs) ys t u n e = go (m.step t x) refl e (λ w f. read_through xs ys w u (n + 1) f)
      where
        go : (o : Option T) → m.step t x ≡ o → (o >>= λ w. run m.step w xs) ≡ Some u → ((w : T) → run m.step w xs ≡ Some u → Read w (n + 1) (xs ++ ys) ≡ Read u (n + 1 + length xs) ys) → Read t n (x ∷ (xs ++ ys)) ≡ Read u (n + length (x ∷ xs)) ys
        go None f e later = absurd cc
        go (Some w) f e later =
            let count : n + 1 + length xs ≡ n + length (x ∷ xs) = omega arith in
            rw f (later w e) ∙ ap (λ (k : ℕ). Read u k ys) count

    -- what is read is what the machine ends with
    read_ok : (lines : List (List ℕ)) (t : T) (n : ℕ) (v : V) → Read t n lines ≡ Ok v → outcome m.step finish t lines ≡ Some v
    read_ok [] t n v e = go (finish t) e
      where
        go : (o : Option V) → ended_with (early_end m t) (n + 1) o ≡ Ok v → o ≡ Some v
        go None e = absurd cc
        go (Some w) e = cc
    read_ok (line ∷ lines) t n v e = go (m.step t line) refl (λ u f. read_ok lines u (n + 1) v f)
      where
        go : (o : Option T) → m.step t line ≡ o → ((u : T) → Read u (n + 1) lines ≡ Ok v → outcome m.step finish u lines ≡ Some v) → ((o >>= λ u. run m.step u lines) >>= finish) ≡ Some v
        go None f later = absurd (let g = rw f at e in cc)
        go (Some u) f later = later u (rw f at e)

    ok_read : (lines : List (List ℕ)) (t : T) (n : ℕ) (v : V) → outcome m.step finish t lines ≡ Some v → Read t n lines ≡ Ok v
    ok_read [] t n v e = rw e refl
    ok_read (line ∷ lines) t n v e = go (m.step t line) refl e (λ u f. ok_read lines u (n + 1) v f)
      where
        go : (o : Option T) → m.step t line ≡ o → ((o >>= λ u. run m.step u lines) >>= finish) ≡ Some v → ((u : T) → outcome m.step finish u lines ≡ Some v → Read u (n + 1) lines ≡ Ok v) → Read t n (line ∷ lines) ≡ Ok v
        go None f e later = absurd cc
        go (Some u) f e later = rw f (later u e)

    -- the kind at a line that is not taken is the first that holds
    first_at : (before : List (List ℕ)) (t : T) (line : List ℕ) → run m.step start before ≡ Some t → m.step t line ≡ None → FirstOf (Holds file before line) kinds (kind_of m t line)
    first_at before t line e stop = go (first_true (test m t line) kinds) refl (total before t line e stop)
      where
        go : (o : Option ReadKind) → first_true (test m t line) kinds ≡ o → IsSome o → FirstOf (Holds file before line) kinds (kind_of m t line)
        go None f some = absurd cc
        go (Some kind) f some =
            let same : kind ≡ kind_of m t line = sym (rw f refl) in
            subst (λ (k : ReadKind). FirstOf (Holds file before line) kinds k) same (deciding.first_kind V T file m start opens same_sort no_room awaits version before t line kind e f)

    -- the fault where the lines end
    ends_kind : (lines : List (List ℕ)) (b : Bool) (t : T) → run m.step start lines ≡ Some t → file.versioned ≡ b → early_end m t ≡ end_kind b lines
    ends_kind [] true t e f = let w = (awaits [] t e).0 (f, refl) in rw w refl
    ends_kind [] false t e f = go (m.awaits_version t) refl
      where
        go : (b : Bool) → m.awaits_version t ≡ b → early_end m t ≡ CutShort
        go true w = absurd (let g = ((awaits [] t e).1 w).0 in cc)
        go false w = rw w refl
    ends_kind (line ∷ lines) b t e f = go (m.awaits_version t) refl
      where
        go : (b : Bool) → m.awaits_version t ≡ b → early_end m t ≡ CutShort
        go true w = absurd (let g = ((awaits (line ∷ lines) t e).1 w).1 in cc)
        go false w = rw w refl

    -- the fault of the machine is one of the lines
    fault_read : (lines before : List (List ℕ)) (t : T) (kind : ReadKind) (number : ℕ) → run m.step start before ≡ Some t → Read t (length before) lines ≡ Err (kind, number) → IsFaultOfLines file (before ++ lines) kind number
    fault_read [] before t kind number e f = go (finish t) refl f
      where
        go : (o : Option V) → finish t ≡ o → ended_with (early_end m t) (length before + 1) o ≡ Err (kind, number) → IsFaultOfLines file (before ++ []) kind number
        go (Some v) g f = absurd cc
        go None g f =
            let same : early_end m t ≡ kind = ap (kind_in kind) f in
            let count : length before + 1 ≡ number = ap (number_in number) f in
            let short : EndsShort file before kind number = record {
              opens = (opens before).1 (rw e refl);
              unspelled = λ v h. let w = rw e at ((spells before v).0 h) in absurd (let w2 = sym g ∙ w in cc);
              kind_is = sym same ∙ ends_kind before file.versioned t e refl;
              number_is = sym count;
            } in
            inr (subst (λ (ls : List (List ℕ)). EndsShort file ls kind number) (sym (append-nil before)) short)
    fault_read (line ∷ lines) before t kind number e f = go (m.step t line) refl (λ u g h. fault_read lines (before ++ line ∷ []) u kind number g h)
      where
        one : run m.step start (before ++ line ∷ []) ≡ m.step t line
        one = deciding.run_one V T file m start opens same_sort no_room awaits version before t line e

        count : length before + 1 ≡ length (before ++ line ∷ [])
        count = sym (length-append before (line ∷ []))

        go : (o : Option T) → m.step t line ≡ o → ((u : T) → run m.step start (before ++ line ∷ []) ≡ Some u → Read u (length (before ++ line ∷ [])) lines ≡ Err (kind, number) → IsFaultOfLines file ((before ++ line ∷ []) ++ lines) kind number) → IsFaultOfLines file (before ++ line ∷ lines) kind number
        go (Some u) g later =
            subst (λ (ls : List (List ℕ)). IsFaultOfLines file ls kind number) (append_assoc before (line ∷ []) lines)
            (later u (one ∙ g) (subst (λ (n : ℕ). Read u n lines ≡ Err (kind, number)) count (rw g at f)))
        go None g later =
            let stop : refused {V = V} (kind_of m t line) (length before + 1) ≡ Err (kind, number) = rw g at f in
            let same : kind_of m t line ≡ kind = ap (kind_in kind) stop in
            let place : length before + 1 ≡ number = ap (number_in number) stop in
            inl (record {
              before = before;
              line = line;
              after = lines;
              lines_are = refl;
              opens = (opens before).1 (rw e refl);
              stops = λ h. let w = (opens (before ++ line ∷ [])).0 h in absurd (let w2 = subst (λ (o : Option T). is_some o ≡ true) (one ∙ g) w in cc);
              first = subst (λ (k : ReadKind). FirstOf (Holds file before line) kinds k) same (first_at before t line e g);
              number_is = sym place;
            })

    -- the fault of the lines is the machine's
    read_fault : (lines : List (List ℕ)) (kind : ReadKind) (number : ℕ) → IsFaultOfLines file lines kind number → Read start 0 lines ≡ Err (kind, number)
    read_fault lines kind number (inl h) = go (run m.step start h.before) refl ((opens h.before).0 h.opens)
      where
        go : (o : Option T) → run m.step start h.before ≡ o → IsSome o → Read start 0 lines ≡ Err (kind, number)
        go None e some = absurd cc
        go (Some t) e some = stop (m.step t h.line) refl
          where
            stop : (o : Option T) → m.step t h.line ≡ o → Read start 0 lines ≡ Err (kind, number)
            stop (Some u) g =
                let law = deciding.opens_one V T file m start opens same_sort no_room awaits version h.before t h.line e in
                absurd (h.stops (law.1 (rw g refl)))
            stop None g =
                let same = one_first (Holds file h.before h.line) kinds (kind_of m t h.line) kind (first_at h.before t h.line e g) h.first in
                let last : Read t (0 + length h.before) (h.line ∷ h.after) ≡ Err (kind_of m t h.line, 0 + length h.before + 1) = rw g refl in
                let count : 0 + length h.before + 1 ≡ number = (let n = h.number_is in omega (arith, n)) in
                ap (Read start 0) h.lines_are ∙ read_through h.before (h.line ∷ h.after) start t 0 e ∙ last ∙ ap (λ (k : ReadKind). refused {V = V} k (0 + length h.before + 1)) same ∙ ap (λ (n : ℕ). refused {V = V} kind (n)) count
    read_fault lines kind number (inr h) = go (run m.step start lines) refl ((opens lines).0 h.opens)
      where
        go : (o : Option T) → run m.step start lines ≡ o → IsSome o → Read start 0 lines ≡ Err (kind, number)
        go None e some = absurd cc
        go (Some t) e some = stop (finish t) refl
          where
            stop : (o : Option V) → finish t ≡ o → Read start 0 lines ≡ Err (kind, number)
            stop (Some v) g = absurd (h.unspelled v ((spells lines v).1 (rw e g)))
            stop None g =
                let same : early_end m t ≡ kind = ends_kind lines file.versioned t e refl ∙ sym h.kind_is in
                let last : Read t (0 + length lines) [] ≡ Err (early_end m t, 0 + length lines + 1) = rw g refl in
                let count : 0 + length lines + 1 ≡ number = (let n = h.number_is in omega (arith, n)) in
                ap (Read start 0) (sym (append-nil lines)) ∙ read_through lines [] start t 0 e ∙ last ∙ ap (λ (k : ReadKind). refused {V = V} k (0 + length lines + 1)) same ∙ ap (λ (n : ℕ). refused {V = V} kind (n)) count

    -- lines spell exactly what is read
    pub spelling_law : (lines : List (List ℕ)) (v : V) → file.Spell v lines ↔ (Read start 0 lines ≡ Ok v)
    spelling_law lines v = ((λ h. ok_read lines start 0 v ((spells lines v).0 h)), (λ e. (spells lines v).1 (read_ok lines start 0 v e)))

    -- lines have exactly the fault that is found
    pub fault_law : (lines : List (List ℕ)) (kind : ReadKind) (number : ℕ) → IsFaultOfLines file lines kind number ↔ (Read start 0 lines ≡ Err (kind, number))
    fault_law lines kind number = (read_fault lines kind number, λ e. fault_read lines [] start kind number refl e)
