-- Kinds that meet, by counts.
use Rattle.std.proofs.Common.{◌≡◌, ◌∙◌, ℕ, ◌==◌, List, [], ◌∷◌, ◌++◌, Bool, true, false, ◌&&◌, ◌||◌, refl, ap, sym, append-nil, arith, if◌then◌else◌}
use Rattle.std.specs.Prelude.{◌<◌, count_by, length, map, nat_le, not}
use Rattle.std.specs.List.{flat_map, list_any}
use Rattle.std.proofs.lemmas.Bool.Decides.{nat_tests}
use Rattle.attr_rules.specs.declared.kinds.PinKind.{PinKind}
use Rattle.net_list.specs.declared.member.Member.{Member}
use Rattle.net_list.specs.declared.nets.Net.{Net}
use Rattle.pin_matrix.specs.declared.level.Level.{Level}
use Rattle.pin_matrix.specs.Matrices.{all_kinds, entry, is_correct, kind_rank, same_kind}
use Rattle.text_tallies.specs.TwoOfAList.{both, pairs}
use Rattle.text_tallies.proofs.PairLemmas.{and_false, any_same, both_counted, either, either_counted}
use Rattle.text_tallies.specs.Levels.{found_if}
use Rattle.drc_findings.specs.declared.rule.Rule.TheVariants as drc
use Rattle.drc_findings.specs.declared.finding.Finding.{Finding}
use Rattle.drc_findings.specs.Findings.{finding}
use Rattle.drc_rules.specs.declared.kind_counts.KindCount.{KindCount}
use Rattle.drc_rules.specs.OnNets.{conflict, conflict_words, conflicts, conflicts_with, is_member_of_kind, meet}
use Rattle.drc_rules.specs.steps.Counts.{conflict_by, conflicts_by, conflicts_with_by, kind_count, kind_counts, meet_by}

-- a member whose kind stands at a place
abbrev at_rank : ℕ → Member → Bool
at_rank i m = kind_rank m.kind == i

or_same : (b : Bool) → (b || b) ≡ b
or_same true = refl
or_same false = refl

same_rank : (i j : ℕ) → (i == j) ≡ true → j ≡ i
same_rank i j e = grind (arith, nat_tests)

apart : (i j : ℕ) → (i == j) ≡ false → (m : Member) → at_rank i m ≡ true → at_rank j m ≡ false
apart i j e m h = grind (arith, nat_tests)

-- two members of one kind
meet_same : (members : List Member) (a b : PinKind) → same_kind a b ≡ true
    → nat_le 2 (count_by (is_member_of_kind a) members) ≡ meet members a b
meet_same members a b e =
    sym (ap (λ (j : ℕ). list_any (either (at_rank (kind_rank a)) (at_rank j)) (pairs members)) (same_rank (kind_rank a) (kind_rank b) e)
    ∙ (any_same (either (at_rank (kind_rank a)) (at_rank (kind_rank a))) (both (at_rank (kind_rank a))) (λ two. or_same (both (at_rank (kind_rank a)) two)) (pairs members)
    ∙ both_counted (at_rank (kind_rank a)) members))

-- of two kinds
meet_other : (members : List Member) (a b : PinKind) → same_kind a b ≡ false
    → (nat_le 1 (count_by (is_member_of_kind a) members) && nat_le 1 (count_by (is_member_of_kind b) members)) ≡ meet members a b
meet_other members a b e =
    sym (either_counted (at_rank (kind_rank a)) (at_rank (kind_rank b)) (apart (kind_rank a) (kind_rank b) e) members)

-- two kinds meet as their counts say
meet_counted : (members : List Member) (a b : PinKind)
    → meet_by (kind_count members a) (kind_count members b) ≡ meet members a b
meet_counted members a b = go (same_kind a b) refl
  where
    go : (same : Bool) → same_kind a b ≡ same
        → (if same then nat_le 2 (count_by (is_member_of_kind a) members) else nat_le 1 (count_by (is_member_of_kind a) members) && nat_le 1 (count_by (is_member_of_kind b) members))
        ≡ meet members a b
    go true e = meet_same members a b e
    go false e = meet_other members a b e

conflict_counted : (matrix : List Level) (n : Net) (a b : PinKind)
    → conflict_by matrix n.name (kind_count n.members a) (kind_count n.members b) ≡ conflict matrix n a b
conflict_counted matrix n a b =
    ap (λ (met : Bool). found_if (nat_le (kind_rank a) (kind_rank b) && (not (is_correct (entry matrix a b)) && met)) (finding (entry matrix a b) drc.Conflict (conflict_words n.name a b)))
    (meet_counted n.members a b)

with_counted : (matrix : List Level) (n : Net) (others : List PinKind) (a : PinKind)
    → conflicts_with_by matrix n.name (map (kind_count n.members) others) (kind_count n.members a) ≡ conflicts_with matrix n others a
with_counted matrix n [] a = refl
with_counted matrix n (b ∷ others) a = rw (conflict_counted matrix n a b, with_counted matrix n others a) refl

among_counted : (matrix : List Level) (n : Net) (others kinds : List PinKind)
    → flat_map (conflicts_with_by matrix n.name (map (kind_count n.members) others)) (map (kind_count n.members) kinds)
    ≡ flat_map (conflicts_with matrix n others) kinds
among_counted matrix n others [] = refl
among_counted matrix n others (a ∷ kinds) = rw (with_counted matrix n others a, among_counted matrix n others kinds) refl

-- the conflicts of a net are those that the counts of its members give
pub conflicts_counted : (matrix : List Level) (n : Net)
    → conflicts_by matrix n.name (kind_counts n.members) ≡ conflicts matrix n
conflicts_counted matrix n = among_counted matrix n all_kinds all_kinds

-- a kind of which there is none meets no other
none_meets : (a b : KindCount) → a.count ≡ 0 → meet_by a b ≡ false
none_meets a b none = rw none (by (same_kind a.kind b.kind))
  where
    by : (same : Bool) → (if same then nat_le 2 0 else nat_le 1 0 && nat_le 1 b.count) ≡ false
    by true = refl
    by false = refl

none_conflicts : (matrix : List Level) (name : List ℕ) (a b : KindCount) → a.count ≡ 0 → conflict_by matrix name a b ≡ []
none_conflicts matrix name a b none =
    rw (none_meets a b none, and_false (not (is_correct (entry matrix a.kind b.kind))), and_false (nat_le (kind_rank a.kind) (kind_rank b.kind))) refl

none_with : (matrix : List Level) (name : List ℕ) (others : List KindCount) (a : KindCount) → a.count ≡ 0
    → conflicts_with_by matrix name others a ≡ []
none_with matrix name [] a none = refl
none_with matrix name (b ∷ others) a none = rw (none_conflicts matrix name a b none, none_with matrix name others a none) refl

-- so nothing is found on it with others
pub none_found : (found : List Finding) (matrix : List Level) (name : List ℕ) (others : List KindCount) (a : KindCount)
    → a.count ≡ 0 → found ≡ found ++ conflicts_with_by matrix name others a
none_found found matrix name others a none = rw (none_with matrix name others a none) (sym (append-nil found))

-- fewer than two members are no two
few_meet : (members : List Member) (a b : PinKind) → length members < 2 → meet members a b ≡ false
few_meet [] a b few = refl
few_meet (m ∷ []) a b few = refl
few_meet (m ∷ n ∷ members) a b few = absurd (omega (arith, few))

few_conflict : (matrix : List Level) (n : Net) (a b : PinKind) → length n.members < 2 → conflict matrix n a b ≡ []
few_conflict matrix n a b few =
    rw (few_meet n.members a b few, and_false (not (is_correct (entry matrix a b))), and_false (nat_le (kind_rank a) (kind_rank b))) refl

few_with : (matrix : List Level) (n : Net) (others : List PinKind) (a : PinKind) → length n.members < 2
    → conflicts_with matrix n others a ≡ []
few_with matrix n [] a few = refl
few_with matrix n (b ∷ others) a few = rw (few_conflict matrix n a b few, few_with matrix n others a few) refl

few_among : (matrix : List Level) (n : Net) (others kinds : List PinKind) → length n.members < 2
    → flat_map (conflicts_with matrix n others) kinds ≡ []
few_among matrix n others [] few = refl
few_among matrix n others (a ∷ kinds) few = rw (few_with matrix n others a few, few_among matrix n others kinds few) refl

-- so nothing is found on a net with fewer than two
pub few_found : (found : List Finding) (matrix : List Level) (n : Net) → length n.members < 2
    → found ≡ found ++ conflicts matrix n
few_found found matrix n few = rw (few_among matrix n all_kinds all_kinds few) (sym (append-nil found))
