-- Entries of a session that come again.
use Rattle.std.proofs.Common.{◌≡◌, ◌==◌, ◌&&◌, ℕ, zero, suc, ◌+◌, ◌<◌, Bool, true, false, List, [], ◌∷◌, ◌++◌, length, cond, Option, None, Some, refl, sym, ap, ◌∙◌, arith, append_assoc, append-nil}
use Rattle.std.specs.List.{AllByRecursion, slice_get}
use Rattle.std.specs.Str.{bytes_eq}
use Rattle.std.proofs.lemmas.Bool.Decides.{nat_tests}
use Rattle.std.proofs.lemmas.List.{length-append}
use Rattle.geda_defs.proofs.Bytes.{bytes_true}
use Rattle.geda_grammar.specs.Canonical.{object_text}
use Rattle.edit_entries.specs.Entries.{EntryData}
use Rattle.edit_entries.specs.Equality.{is_same_entry}
use Rattle.edit_rules.specs.EarlyLines.{is_same_at, serial_of_number, repeated_serial, repeated_at}
use Rattle.edit_rules.specs.Histories.{changes, last_place}
use Rattle.edit_rules.specs.Naming.{has_session_number}
use Rattle.edit_rules.specs.Verdicts.{first_of, verdict_lines, verdict, verdict_by}
use Rattle.edit_rules.specs.declared.verdict.Verdict.TheVariants as verdicts
use Rattle.edit_rules.proofs.LongerHistories.{last_push}
use Rattle.attr_table.specs.Filling.{entries_from, component_entry}
use Rattle.attr_table.specs.SheetTables.{Numbered}
use Rattle.desk_entries.proofs.OrderlyHistories.{get_seam}

-- what does not pass comes behind what does
last_after : {X : Type 0} (p : X → Bool) (xs ys : List X) → AllByRecursion (λ y. p y ≡ false) ys → last_place p (xs ++ ys) ≡ last_place p xs
last_after p xs [] h = ap (last_place p) (append-nil xs)
last_after p xs (y ∷ ys) h =
    ap (last_place p) (sym (append_assoc xs (y ∷ []) ys))
    ∙ last_after p (xs ++ y ∷ []) ys h.1
    ∙ last_push p xs y
    ∙ ap (λ (b : Bool). cond b (Some (length xs)) (last_place p xs)) h.0

and_none : (b : Bool) → (b && false) ≡ false
and_none true = refl
and_none false = refl

-- later entries have greater numbers
later_numbers : (session : List ℕ) (m number base : ℕ) (cs : List Numbered) → m < number
    → AllByRecursion (λ e. has_session_number session m e ≡ false) (entries_from session number base cs)
later_numbers session m number base [] lt = tt
later_numbers session m number base (c ∷ cs) lt =
    let off : (number == m) ≡ false = grind (arith, nat_tests, lt) in (
      ap (λ (b : Bool). bytes_eq session session && b) off ∙ and_none (bytes_eq session session),
      later_numbers session m (number + 1) base cs (omega arith),
    )

self_same : (n : ℕ) → (n == n) ≡ true
self_same n = grind (arith, nat_tests)

same_entry : (session : List ℕ) (number base : ℕ) (c : Numbered) → is_same_entry (component_entry session number base c) (component_entry session number base c) ≡ true
same_entry session number base c =
    rw (bytes_true session session refl, self_same number, self_same base, self_same c.0, bytes_true (object_text c.1) (object_text c.1) refl) refl

own_numbered : (session : List ℕ) (number base : ℕ) (c : Numbered) → has_session_number session number (component_entry session number base c) ≡ true
own_numbered session number base c = rw (bytes_true session session refl, self_same number) refl

-- each entry stands where it was put
pub repeat : (g : List EntryData) (session : List ℕ) (number base : ℕ) (cs : List Numbered) (k : ℕ) (e : EntryData)
    → slice_get (entries_from session number base cs) k ≡ Some e
    → verdict (g ++ entries_from session number base cs) e ≡ verdicts.Repeat (length g + k)
repeat g session number base [] zero e at = absurd (cc at)
repeat g session number base [] (suc k) e at = absurd (cc at)
repeat g session number base (c ∷ cs) zero e at =
    let own : EntryData = component_entry session number base c in
    let rest : List EntryData = entries_from session (number + 1) base cs in
    let same : own ≡ e = cc at in
    let place : serial_of_number (g ++ own ∷ rest) own ≡ Some (length g) =
    ap (last_place (has_session_number session number)) (sym (append_assoc g (own ∷ []) rest))
    ∙ last_after (has_session_number session number) (g ++ own ∷ []) rest (later_numbers session number (number + 1) base cs (omega arith))
    ∙ last_push (has_session_number session number) g own
    ∙ ap (λ (b : Bool). cond b (Some (length g)) (last_place (has_session_number session number) g)) (own_numbered session number base c) in
    let equal : is_same_at (slice_get (g ++ own ∷ rest) (length g)) own ≡ true =
    ap (λ (o : Option EntryData). is_same_at o own) (get_seam g own rest) ∙ same_entry session number base c in
    let found : repeated_serial (g ++ own ∷ rest) own ≡ Some (length g) =
    ap (repeated_at (g ++ own ∷ rest) own) place ∙ ap (λ (b : Bool). cond b (Some (length g)) None) equal in
    let n : length g ≡ length g + 0 = omega arith in
    ap (verdict (g ++ own ∷ rest)) (sym same)
    ∙ ap (λ (o : Option ℕ). verdict_by o (first_of (verdict_lines (g ++ own ∷ rest) own)) (changes (g ++ own ∷ rest) own.edit)) found
    ∙ ap (λ (m : ℕ). verdicts.Repeat m) n
repeat g session number base (c ∷ cs) (suc k) e at =
    let own : EntryData = component_entry session number base c in
    let rest : List EntryData = entries_from session (number + 1) base cs in
    let n : length (g ++ own ∷ []) + k ≡ length g + suc k = omega (arith, length-append g (own ∷ [])) in
    ap (λ (h : List EntryData). verdict h e) (sym (append_assoc g (own ∷ []) rest))
    ∙ repeat (g ++ own ∷ []) session (number + 1) base cs k e at
    ∙ ap (λ (m : ℕ). verdicts.Repeat m) n
