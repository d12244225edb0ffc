-- Steps of the code; no public clause cites them.
-- Kinds that meet, by how many members are of each.
use Rattle.std.specs.Prelude.{ℕ, Bool, not, ◌&&◌, if◌then◌else◌, nat_le, List, count_by, map}
use Rattle.std.specs.List.{flat_map}
use Rattle.attr_rules.specs.declared.kinds.PinKind.{PinKind}
use Rattle.net_list.specs.declared.member.Member.{Member}
use Rattle.text_tallies.specs.Levels.{found_if}
use Rattle.pin_matrix.specs.declared.level.Level.{Level}
use Rattle.pin_matrix.specs.Matrices.{all_kinds, entry, is_correct, kind_rank, same_kind}
use Rattle.drc_findings.specs.declared.rule.Rule.TheVariants as drc
use Rattle.drc_findings.specs.declared.finding.Finding.{Finding}
use Rattle.drc_findings.specs.Findings.{finding}
use Rattle.drc_rules.specs.declared.kind_counts.KindCount.{KindCount}
use Rattle.drc_rules.specs.OnNets.{conflict_words, is_member_of_kind}

-- a kind, and how many members are of it
abbrev pub kind_count : List Member → PinKind → KindCount
kind_count members kind = record { kind = kind; count = count_by (is_member_of_kind kind) members }

-- each kind in matrix order, and how many members are of it
abbrev pub kind_counts : List Member → List KindCount
kind_counts members = map (kind_count members) all_kinds

-- two members, not the same one, have these kinds
abbrev pub meet_by : KindCount → KindCount → Bool
meet_by a b =
    if same_kind a.kind b.kind then nat_le 2 a.count else nat_le 1 a.count && nat_le 1 b.count

-- the two kinds stand in matrix order, the entry is no correct one, and they meet
abbrev pub is_conflict_by : List Level → KindCount → KindCount → Bool
is_conflict_by matrix a b = nat_le (kind_rank a.kind) (kind_rank b.kind)
    && (not (is_correct (entry matrix a.kind b.kind)) && meet_by a b)

-- what is found on two kinds
abbrev pub conflict_by : List Level → List ℕ → KindCount → KindCount → List Finding
conflict_by matrix name a b = found_if (is_conflict_by matrix a b)
    (finding (entry matrix a.kind b.kind) drc.Conflict (conflict_words name a.kind b.kind))

-- on one kind with others
abbrev pub conflicts_with_by : List Level → List ℕ → List KindCount → KindCount → List Finding
conflicts_with_by matrix name others a = flat_map (conflict_by matrix name a) others

-- on all kinds
abbrev pub conflicts_by : List Level → List ℕ → List KindCount → List Finding
conflicts_by matrix name counts = flat_map (conflicts_with_by matrix name counts) counts
