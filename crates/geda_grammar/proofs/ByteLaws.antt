-- From the lines of a file to its bytes.
use Rattle.std.proofs.Common.{◌≡◌, ℕ, ◌<◌, ◌≤◌, Bool, true, false, cond, List, length, refl, sym, ap, ltb, ◌∙◌, ◌↔◌, inl, inr, ◌⊎◌, Result, Ok, Err, arith}
use Rattle.std.proofs.lemmas.Bool.{ltb-true, ltb-false}
use Rattle.geda_grammar.specs.declared.kind.ReadKind.{ReadKind}
use Rattle.geda_grammar.specs.declared.kind.ReadKind.TheVariants.{TooLarge}
use Rattle.geda_grammar.specs.Spelling.{Spells}
use Rattle.geda_grammar.specs.Faults.{FileKind, IsFault, IsFaultOfLines}
use Rattle.geda_grammar.specs.steps.Files.{within_limit}
use Rattle.geda_text.specs.Lines.{lines_of}
use Rattle.geda_grammar.specs.Laws.{IsDetermined, SpellsAlone}
use Rattle.geda_grammar.proofs.FaultLaw.{kind_in, number_in}

module _ (V : Type 0) (file : FileKind V) (read : List (List ℕ) → Result V (ReadKind × ℕ))
    (spelled : (lines : List (List ℕ)) (v : V) → file.Spell v lines ↔ (read lines ≡ Ok v))
    (faulty : (lines : List (List ℕ)) (kind : ReadKind) (number : ℕ) → IsFaultOfLines file lines kind number ↔ (read lines ≡ Err (kind, number)))
  where
    -- few bytes, or too many
    by_length : (bytes : List ℕ) → ((length bytes ≤ 4194304) × (within_limit read bytes ≡ read (lines_of bytes))) ⊎ ((4194304 < length bytes) × (within_limit read bytes ≡ Err (TooLarge, 1)))
    by_length bytes = go (ltb 4194304 (length bytes)) refl
      where
        go : (b : Bool) → ltb 4194304 (length bytes) ≡ b → ((length bytes ≤ 4194304) × (cond b (Err (TooLarge, 1)) (read (lines_of bytes)) ≡ read (lines_of bytes))) ⊎ ((4194304 < length bytes) × (cond b (Err (TooLarge, 1)) (read (lines_of bytes)) ≡ Err (TooLarge, 1)))
        go true e = inr (ltb-true _ _ e, refl)
        go false e = inl (ltb-false _ _ e, refl)

    pub bytes_spelled : (bytes : List ℕ) (v : V) → Spells file.Spell bytes v ↔ (within_limit read bytes ≡ Ok v)
    bytes_spelled bytes v = go (by_length bytes)
      where
        go : ((length bytes ≤ 4194304) × (within_limit read bytes ≡ read (lines_of bytes))) ⊎ ((4194304 < length bytes) × (within_limit read bytes ≡ Err (TooLarge, 1))) → Spells file.Spell bytes v ↔ (within_limit read bytes ≡ Ok v)
        go (inl h) = ((λ s. h.1 ∙ (spelled (lines_of bytes) v).0 s.lines), (λ e. record { short = h.0; lines = (spelled (lines_of bytes) v).1 (sym h.1 ∙ e) }))
        go (inr h) = ((λ s. absurd (let few = s.short in let many = h.0 in omega (arith, few, many))), (λ e. absurd (let f = sym h.1 ∙ e in cc)))

    pub bytes_faulty : (bytes : List ℕ) (kind : ReadKind) (number : ℕ) → IsFault file bytes kind number ↔ (within_limit read bytes ≡ Err (kind, number))
    bytes_faulty bytes kind number = go (by_length bytes)
      where
        there : (length bytes ≤ 4194304) → (within_limit read bytes ≡ read (lines_of bytes)) → IsFault file bytes kind number → within_limit read bytes ≡ Err (kind, number)
        there few same (inl f) = absurd (let many = f.0 in omega (arith, few, many))
        there few same (inr f) = same ∙ (faulty (lines_of bytes) kind number).0 f.1

        large : (4194304 < length bytes) → (within_limit read bytes ≡ Err (TooLarge, 1)) → IsFault file bytes kind number → within_limit read bytes ≡ Err (kind, number)
        large many same (inl f) = same ∙ rw (f.1, f.2) refl
        large many same (inr f) = absurd (let few = f.0 in omega (arith, few, many))

        go : ((length bytes ≤ 4194304) × (within_limit read bytes ≡ read (lines_of bytes))) ⊎ ((4194304 < length bytes) × (within_limit read bytes ≡ Err (TooLarge, 1))) → IsFault file bytes kind number ↔ (within_limit read bytes ≡ Err (kind, number))
        go (inl h) = (there h.0 h.1, (λ e. inr (h.0, (faulty (lines_of bytes) kind number).1 (sym h.1 ∙ e))))
        go (inr h) = (large h.0 h.1, (λ e. let f : Err (TooLarge, 1) ≡ Err (kind, number) = sym h.1 ∙ e in inl (h.0, sym (ap (kind_in TooLarge) f), sym (ap (number_in 1) f))))

    pub one_spelled : (bytes : List ℕ) (v w : V) → Spells file.Spell bytes v → Spells file.Spell bytes w → v ≡ w
    one_spelled bytes v w p q = let e : Ok v ≡ Ok w = sym ((bytes_spelled bytes v).0 p) ∙ (bytes_spelled bytes w).0 q in cc

    one_fault : (bytes : List ℕ) (kind other : ReadKind) (line number : ℕ) → IsFault file bytes kind line → IsFault file bytes other number → (kind ≡ other) × (line ≡ number)
    one_fault bytes kind other line number p q =
        let e : Err (kind, line) ≡ Err (other, number) = sym ((bytes_faulty bytes kind line).0 p) ∙ (bytes_faulty bytes other number).0 q in
        (ap (kind_in kind) e, ap (number_in line) e)

    never_both : (bytes : List ℕ) (v : V) (kind : ReadKind) (line : ℕ) → Spells file.Spell bytes v → ¬ (IsFault file bytes kind line)
    never_both bytes v kind line p q = absurd (let e = sym ((bytes_spelled bytes v).0 p) ∙ (bytes_faulty bytes kind line).0 q in cc)

    one_of_both : (bytes : List ℕ) → ((v : V) × Spells file.Spell bytes v) ⊎ ((kind : ReadKind) × (line : ℕ) × IsFault file bytes kind line)
    one_of_both bytes = go (within_limit read bytes) refl
      where
        go : (r : Result V (ReadKind × ℕ)) → within_limit read bytes ≡ r → ((v : V) × Spells file.Spell bytes v) ⊎ ((kind : ReadKind) × (line : ℕ) × IsFault file bytes kind line)
        go (Ok v) e = inl (v, (bytes_spelled bytes v).1 e)
        go (Err (kind, line)) e = inr (kind, line, (bytes_faulty bytes kind line).1 e)

    -- so all is determined
    pub determined : IsDetermined file
    determined = record { one = one_spelled; one_fault = one_fault; never_both = never_both; one_of_both = one_of_both }

    pub alone : (bytes : List ℕ) (v : V) → Spells file.Spell bytes v → SpellsAlone file bytes v
    alone bytes v p = record { spelled = p; alone = λ w q. one_spelled bytes w v q p }
