-- Members whose kinds may meet have no conflict.
use Rattle.std.proofs.Common.{◌≡◌, ◌∙◌, ◌==◌, ℕ, List, [], ◌∷◌, ◌++◌, Bool, true, false, ◌&&◌, ◌||◌, ap, refl, sym, append-nil, arith}
use Rattle.std.specs.Prelude.{nat_le, not, slice_index_or}
use Rattle.std.specs.List.{flat_map, list_all, list_any}
use Rattle.std.proofs.Math.Nat.{max_comm, min_comm}
use Rattle.std.proofs.lemmas.Bool.{and_parts}
use Rattle.std.proofs.lemmas.Bool.Decides.{nat_tests}
use Rattle.attr_rules.specs.declared.kinds.PinKind.{PinKind}
use Rattle.net_list.specs.declared.member.Member.{Member}
use Rattle.net_list.specs.declared.nets.Net.{Net}
use Rattle.pin_matrix.specs.declared.level.Level.{Level}
use Rattle.pin_matrix.specs.declared.level.Level.TheVariants as levels
use Rattle.pin_matrix.specs.Matrices.{all_kinds, entry, is_correct, kind_rank, pair_place}
use Rattle.text_tallies.proofs.PairLemmas.{and_false, any_pairs}
use Rattle.drc_findings.specs.declared.finding.Finding.{Finding}
use Rattle.drc_rules.specs.OnNets.{are_of_kinds, conflict, conflicts, conflicts_with, is_member_of_kind, meet}
use Rattle.drc_rules.specs.steps.Meetings.{all_may_meet, may_meet}

-- an entry by the places of its kinds
abbrev entry_at : List Level → ℕ → ℕ → Level
entry_at matrix i j = slice_index_or matrix (pair_place i j) levels.Correct

same_place : (i j : ℕ) → (i == j) ≡ true → i ≡ j
same_place i j e = grind (arith, nat_tests)

either_order : (i j : ℕ) → pair_place i j ≡ pair_place j i
either_order i j = rw (max_comm i j, min_comm i j) refl

module _ (matrix : List Level) (a b : PinKind) (bad : is_correct (entry matrix a b) ≡ false) where
  -- two members with these kinds, in their order, may not meet
  apart : (m n : Member) → may_meet matrix m n ≡ true → (is_member_of_kind a m && is_member_of_kind b n) ≡ true → true ≡ false
  apart m n may are =
      let parts = and_parts (is_member_of_kind a m) (is_member_of_kind b n) are in
      sym may
      ∙ ap (λ (i : ℕ). is_correct (entry_at matrix i (kind_rank n.kind))) (same_place (kind_rank m.kind) (kind_rank a) parts.0)
      ∙ ap (λ (j : ℕ). is_correct (entry_at matrix (kind_rank a) j)) (same_place (kind_rank n.kind) (kind_rank b) parts.1)
      ∙ bad

  -- nor in the other order
  apart_turned : (m n : Member) → may_meet matrix m n ≡ true → (is_member_of_kind b m && is_member_of_kind a n) ≡ true → true ≡ false
  apart_turned m n may are =
      let parts = and_parts (is_member_of_kind b m) (is_member_of_kind a n) are in
      sym may
      ∙ ap (λ (i : ℕ). is_correct (entry_at matrix i (kind_rank n.kind))) (same_place (kind_rank m.kind) (kind_rank b) parts.0)
      ∙ ap (λ (j : ℕ). is_correct (entry_at matrix (kind_rank b) j)) (same_place (kind_rank n.kind) (kind_rank a) parts.1)
      ∙ ap (λ (k : ℕ). is_correct (slice_index_or matrix k levels.Correct)) (either_order (kind_rank b) (kind_rank a))
      ∙ bad

  not_these : (m n : Member) → may_meet matrix m n ≡ true → are_of_kinds a b (m, n) ≡ false
  not_these m n may = by (is_member_of_kind a m && is_member_of_kind b n) (is_member_of_kind b m && is_member_of_kind a n) refl refl
    where
      by : (x y : Bool) → (is_member_of_kind a m && is_member_of_kind b n) ≡ x → (is_member_of_kind b m && is_member_of_kind a n) ≡ y → (x || y) ≡ false
      by true y e f = apart m n may e
      by false true e f = apart_turned m n may f
      by false false e f = refl

  none_with : (m : Member) (others : List Member) → list_all (may_meet matrix m) others ≡ true
      → list_any (λ (n : Member). are_of_kinds a b (m, n)) others ≡ false
  none_with m [] may = refl
  none_with m (n ∷ others) may =
      let parts = and_parts (may_meet matrix m n) (list_all (may_meet matrix m) others) may in
      rw (not_these m n parts.0, none_with m others parts.1) refl

  none_meet : (members : List Member) → all_may_meet matrix members ≡ true → meet members a b ≡ false
  none_meet [] may = refl
  none_meet (m ∷ members) may =
      let parts = and_parts (list_all (may_meet matrix m) members) (all_may_meet matrix members) may in
      any_pairs (are_of_kinds a b) m members ∙ rw (none_with m members parts.0, none_meet members parts.1) refl

module _ (matrix : List Level) (n : Net) (may : all_may_meet matrix n.members ≡ true) where
  no_conflict : (a b : PinKind) → conflict matrix n a b ≡ []
  no_conflict a b = by (is_correct (entry matrix a b)) refl
    where
      by : (correct : Bool) → is_correct (entry matrix a b) ≡ correct → conflict matrix n a b ≡ []
      by true e = rw (e, and_false (nat_le (kind_rank a) (kind_rank b))) refl
      by false e = rw (none_meet matrix a b e n.members may, and_false (not (is_correct (entry matrix a b))), and_false (nat_le (kind_rank a) (kind_rank b))) refl

  no_conflict_with : (others : List PinKind) (a : PinKind) → conflicts_with matrix n others a ≡ []
  no_conflict_with [] a = refl
  no_conflict_with (b ∷ others) a = rw (no_conflict a b, no_conflict_with others a) refl

  no_conflicts : (others kinds : List PinKind) → flat_map (conflicts_with matrix n others) kinds ≡ []
  no_conflicts others [] = refl
  no_conflicts others (a ∷ kinds) = rw (no_conflict_with others a, no_conflicts others kinds) refl

  -- so nothing is found on the net
  pub nothing_found : (found : List Finding) → found ≡ found ++ conflicts matrix n
  nothing_found found = rw (no_conflicts all_kinds all_kinds) (sym (append-nil found))
