-- The first kind whose test holds is the first kind that holds.
use Rattle.std.proofs.Common.{◌≡◌, ℕ, Bool, true, false, cond, not, List, [], ◌∷◌, ◌++◌, Option, Some, None, refl, sym, ap, subst, ◌∙◌, ◌↔◌, inl, inr, ◌⊎◌}
use Rattle.std.specs.Prelude.{◌&&◌, ◌||◌, is_some, IsSome}
use Rattle.std.specs.Str.{is_utf8}
use Rattle.geda_model.specs.Sheets.{HeadData}
use Rattle.geda_grammar.specs.declared.kind.ReadKind.{ReadKind}
use Rattle.geda_grammar.specs.declared.kind.ReadKind.TheVariants.{NoVersion, BadFormat, UnknownLetter, FieldCount, BadNumber, OutOfRange, BadAngle, CutShort, StrayBracket, NotAttribute, Nested, NotUtf8, TooLarge}
use Rattle.geda_grammar.specs.declared.letter.Letter.{Letter}
use Rattle.geda_grammar.specs.Letters.{byte_of, is_bracket, is_object, is_attribute, is_open_symbol, is_component, is_unknown, is_version}
use Rattle.geda_grammar.specs.declared.letter.Letter.TheVariants.{CloseBlock, OpenSymbol, CloseSymbol}
use Rattle.geda_grammar.specs.Classes.{line_fault}
use Rattle.geda_grammar.specs.Spelling.{IsVersionLine}
use Rattle.geda_grammar.specs.Faults.{FileKind, Opens, Takes, HasNoRoom, AwaitsVersion, IsStray, letter_at, Holds, kinds, FirstOf}
use Rattle.geda_grammar.specs.steps.Running.{run, ◌>>=◌}
use Rattle.geda_grammar.specs.steps.Tests.{LineMachine, takes, is_stray, test, first_true, is_field_count, is_bad_number, is_bad_angle, is_out_of_range}
use Rattle.geda_text.specs.Lines.{fields_of, first_field, other_fields}
use Rattle.geda_grammar.proofs.OpensLaw.{run-append}

-- a test decides a statement
pub record Decides (b : Bool) (P : Type 0) : Type 0 where
  pub holds : b ≡ true → P
  pub fails : b ≡ false → ¬ P

pub both : {P Q : Type 0} (b c : Bool) → Decides b P → Decides c Q → Decides (b && c) (P × Q)
both true true p q = record { holds = λ e. (p.holds refl, q.holds refl); fails = λ e. absurd cc }
both true false p q = record { holds = λ e. absurd cc; fails = λ e h. q.fails refl h.1 }
both false c p q = record { holds = λ e. absurd cc; fails = λ e h. p.fails refl h.0 }

pub either : {P Q : Type 0} (b c : Bool) → Decides b P → Decides c Q → Decides (b || c) (P ⊎ Q)
either {P = P} {Q = Q} true c p q = record { holds = λ e. inl (p.holds refl); fails = λ e. absurd cc }
either {P = P} {Q = Q} false true p q = record { holds = λ e. inr (q.holds refl); fails = λ e. absurd cc }
either {P = P} {Q = Q} false false p q = record { holds = λ e. absurd cc; fails = λ e. neither }
  where
    neither : ¬ (P ⊎ Q)
    neither (inl h) = p.fails refl h
    neither (inr h) = q.fails refl h

pub negated : {P : Type 0} (b : Bool) → Decides b P → Decides (not b) (¬ P)
negated true p = record { holds = λ e. absurd cc; fails = λ e h. h (p.holds refl) }
negated false p = record { holds = λ e. p.fails refl; fails = λ e. absurd cc }

pub as_it_is : (b : Bool) → Decides b (b ≡ true)
as_it_is true = record { holds = λ e. refl; fails = λ e. absurd cc }
as_it_is false = record { holds = λ e. absurd cc; fails = λ e h. absurd cc }

pub turned : (b : Bool) → Decides (not b) (b ≡ false)
turned true = record { holds = λ e. absurd cc; fails = λ e h. absurd cc }
turned false = record { holds = λ e. refl; fails = λ e. absurd cc }

pub by_law : {P : Type 0} (b : Bool) → (P ↔ (b ≡ true)) → Decides b P
by_law true l = record { holds = λ e. l.1 refl; fails = λ e. absurd cc }
by_law false l = record { holds = λ e. absurd cc; fails = λ e h. absurd (let f = l.0 h in cc) }

field_count : (o : Option ReadKind) → Decides (is_field_count o) (o ≡ Some FieldCount)
field_count (Some FieldCount) = record { holds = λ e. refl; fails = λ e. absurd cc }
field_count o = record { holds = λ e. absurd cc; fails = λ e h. absurd cc }

bad_number : (o : Option ReadKind) → Decides (is_bad_number o) (o ≡ Some BadNumber)
bad_number (Some BadNumber) = record { holds = λ e. refl; fails = λ e. absurd cc }
bad_number o = record { holds = λ e. absurd cc; fails = λ e h. absurd cc }

bad_angle : (o : Option ReadKind) → Decides (is_bad_angle o) (o ≡ Some BadAngle)
bad_angle (Some BadAngle) = record { holds = λ e. refl; fails = λ e. absurd cc }
bad_angle o = record { holds = λ e. absurd cc; fails = λ e h. absurd cc }

out_of_range : (o : Option ReadKind) → Decides (is_out_of_range o) (o ≡ Some OutOfRange)
out_of_range (Some OutOfRange) = record { holds = λ e. refl; fails = λ e. absurd cc }
out_of_range o = record { holds = λ e. absurd cc; fails = λ e h. absurd cc }

-- the first that holds, by its tests
pub first_of : (P : ReadKind → Type 0) (holds : ReadKind → Bool) (ks : List ReadKind) (kind : ReadKind) → ((k : ReadKind) → Decides (holds k) (P k)) → first_true holds ks ≡ Some kind → FirstOf P ks kind
first_of P holds [] kind d e = absurd cc
first_of P holds (k ∷ ks) kind d e = go (holds k) refl (d k) e (λ f. first_of P holds ks kind d f)
  where
    go : (b : Bool) → holds k ≡ b → Decides b (P k) → cond b (Some k) (first_true holds ks) ≡ Some kind → (first_true holds ks ≡ Some kind → FirstOf P ks kind) → FirstOf P (k ∷ ks) kind
    go true f p e later = inl (p.holds refl, let same : k ≡ kind = cc in sym same)
    go false f p e later = inr (p.fails refl, later e)

module _ (V T : Type 0) (file : FileKind V) (m : LineMachine T) (start : T)
    (opens : (lines : List (List ℕ)) → Opens file lines ↔ IsSome (run m.step start lines))
    (same_sort : file.is_symbol ≡ m.is_symbol)
    (no_room : (before : List (List ℕ)) (t : T) → run m.step start before ≡ Some t → HasNoRoom file before ↔ (m.has_no_room t ≡ true))
    (awaits : (before : List (List ℕ)) (t : T) → run m.step start before ≡ Some t → AwaitsVersion file before ↔ (m.awaits_version t ≡ true))
    (version : (line : List ℕ) → ((head : HeadData) × IsVersionLine head line) ↔ IsSome (m.version_of line))
  where
    -- one line more
    pub run_one : (before : List (List ℕ)) (t : T) (line : List ℕ) → run m.step start before ≡ Some t → run m.step start (before ++ line ∷ []) ≡ m.step t line
    run_one before t line e = run-append m.step before (line ∷ []) start ∙ ap (λ (o : Option T). o >>= λ u. run m.step u (line ∷ [])) e ∙ last (m.step t line)
      where
        last : (o : Option T) → (o >>= λ u. Some u) ≡ o
        last None = refl
        last (Some u) = refl

    pub opens_one : (before : List (List ℕ)) (t : T) (line : List ℕ) → run m.step start before ≡ Some t → Opens file (before ++ line ∷ []) ↔ (is_some (m.step t line) ≡ true)
    opens_one before t line e =
        let law = opens (before ++ line ∷ []) in
        let same = run_one before t line e in
        ((λ h. subst (λ (o : Option T). is_some o ≡ true) same (law.0 h)), (λ h. law.1 (subst (λ (o : Option T). is_some o ≡ true) (sym same) h)))

    bracket : (before : List (List ℕ)) (t : T) (letter : Letter) → run m.step start before ≡ Some t → Decides (takes m t letter) (Takes file before letter)
    bracket before t letter e = by_law (takes m t letter) (opens_one before t (byte_of letter ∷ []) e)

    stray : (before : List (List ℕ)) (t : T) (letter : Option Letter) → run m.step start before ≡ Some t → Decides (is_stray m t letter) (IsStray file before letter)
    stray before t None e = record { holds = λ e. absurd cc; fails = λ e h. h }
    stray before t (Some letter) e = both (is_bracket letter) (not (takes m t letter)) (as_it_is (is_bracket letter)) (negated (takes m t letter) (bracket before t letter e))

    -- each test decides its kind
    decides : (before : List (List ℕ)) (t : T) (line : List ℕ) → run m.step start before ≡ Some t → (kind : ReadKind) → Decides (test m t line kind) (Holds file before line kind)
    decides before t line e TooLarge = both (m.has_no_room t) (is_object (letter_at line)) (by_law (m.has_no_room t) (no_room before t e)) (as_it_is (is_object (letter_at line)))
    decides before t line e NotUtf8 = turned (is_utf8 line)
    decides before t line e NoVersion = let v = is_version (first_field (fields_of line)) in both (m.awaits_version t) (not v) (by_law (m.awaits_version t) (awaits before t e)) (turned v)
    decides before t line e BadFormat =
        let v = is_version (first_field (fields_of line)) in
        let known = negated (is_some (m.version_of line)) (by_law (is_some (m.version_of line)) (version line)) in
        let all = both (m.awaits_version t) (v && not (is_some (m.version_of line))) (by_law (m.awaits_version t) (awaits before t e)) (both v (not (is_some (m.version_of line))) (as_it_is v) known) in
        record { holds = λ e. let h = all.holds e in (h.0, h.1.0, h.1.1); fails = λ e h. all.fails e (h.0, (h.1, h.2)) }
    decides before t line e NotAttribute = both (takes m t CloseBlock) (not (is_attribute (letter_at line))) (bracket before t CloseBlock e) (turned (is_attribute (letter_at line)))
    decides before t line e StrayBracket = either (is_stray m t (letter_at line)) (takes m t OpenSymbol && not (is_open_symbol (letter_at line))) (stray before t (letter_at line) e) (both (takes m t OpenSymbol) (not (is_open_symbol (letter_at line))) (bracket before t OpenSymbol e) (turned (is_open_symbol (letter_at line))))
    decides before t line e UnknownLetter = as_it_is (is_unknown (letter_at line))
    decides before t line e Nested =
        let sort = subst (λ (b : Bool). Decides b (file.is_symbol ≡ true)) same_sort (as_it_is file.is_symbol) in
        both (m.is_symbol || takes m t CloseSymbol) (is_component (letter_at line)) (either m.is_symbol (takes m t CloseSymbol) sort (bracket before t CloseSymbol e)) (as_it_is (is_component (letter_at line)))
    decides before t line e FieldCount = field_count (line_fault (letter_at line) (other_fields (fields_of line)))
    decides before t line e BadNumber = bad_number (line_fault (letter_at line) (other_fields (fields_of line)))
    decides before t line e BadAngle = bad_angle (line_fault (letter_at line) (other_fields (fields_of line)))
    decides before t line e OutOfRange = out_of_range (line_fault (letter_at line) (other_fields (fields_of line)))
    decides before t line e CutShort = record { holds = λ e. absurd cc; fails = λ e h. h }

    -- the first kind whose test holds is the first that holds
    pub first_kind : (before : List (List ℕ)) (t : T) (line : List ℕ) (kind : ReadKind) → run m.step start before ≡ Some t → first_true (test m t line) kinds ≡ Some kind → FirstOf (Holds file before line) kinds kind
    first_kind before t line kind e h = first_of (Holds file before line) (test m t line) kinds kind (decides before t line e) h
