-- What is found on nets, each rule by its own condition (own).
use Rattle.std.specs.Prelude.{ℕ, Bool, true, false, not, ◌==◌, ◌&&◌, ◌||◌, nat_le, List, ◌++◌, codes, length, map}
use Rattle.std.specs.List.{flat_map, list_all, list_any}
use Rattle.attr_rules.specs.declared.kinds.PinKind.{PinKind}
use Rattle.attr_rules.specs.declared.kinds.PinKind.TheVariants as kinds
use Rattle.net_list.specs.declared.member.Member.{Member}
use Rattle.net_list.specs.declared.nets.Net.{Net}
use Rattle.net_list.specs.declared.nets.NetSort.{NetSort}
use Rattle.net_list.specs.declared.nets.NetSort.TheVariants as sorts
use Rattle.printed_texts.specs.PrintedTexts.{pin_words, two_words, word}
use Rattle.text_tallies.specs.PairSets.{PairData, same_pair}
use Rattle.text_tallies.specs.TwoOfAList.{pairs, two_pass}
use Rattle.text_tallies.specs.Levels.{found_if}
use Rattle.pin_matrix.specs.declared.level.Level.{Level}
use Rattle.pin_matrix.specs.Matrices.{all_kinds, entry, is_correct, kind_rank, same_kind}
use Rattle.drc_findings.specs.declared.rule.Rule.TheVariants as drc
use Rattle.drc_findings.specs.declared.finding.Finding.{Finding}
use Rattle.drc_findings.specs.Findings.{a_warning, an_error, finding, same_text}

-- a kind of pins, as it prints
abbrev pub kind_word : PinKind → List ℕ
kind_word kinds.Unknown = codes "unknown"
kind_word kinds.In = codes "in"
kind_word kinds.Out = codes "out"
kind_word kinds.Io = codes "io"
kind_word kinds.Oc = codes "oc"
kind_word kinds.Oe = codes "oe"
kind_word kinds.Pas = codes "pas"
kind_word kinds.Tp = codes "tp"
kind_word kinds.Tri = codes "tri"
kind_word kinds.Clk = codes "clk"
kind_word kinds.Pwr = codes "pwr"
kind_word kinds.Unconnected = codes "unconnected"

-- a single drawn pin without a name
abbrev pub is_unconnected_net : Net → Bool
is_unconnected_net n = of_sort n.sort
  where
    of_sort : NetSort → Bool
    of_sort sorts.Named = false
    of_sort sorts.Unnamed = false
    of_sort sorts.Unconnected = true

-- an unconnected pin, or a net that has a directive: nothing need be joined to its pin
abbrev pub may_be_open : Net → Bool
may_be_open n = is_unconnected_net n || n.directive

-- a member of this kind
abbrev pub is_member_of_kind : PinKind → Member → Bool
is_member_of_kind kind m = same_kind m.kind kind

-- the kinds of two members, in either order
abbrev pub are_of_kinds : PinKind → PinKind → Member × Member → Bool
are_of_kinds a b two =
    (is_member_of_kind a two.0 && is_member_of_kind b two.1)
    || (is_member_of_kind b two.0 && is_member_of_kind a two.1)

-- two members, not the same one, have these kinds
abbrev pub meet : List Member → PinKind → PinKind → Bool
meet members a b = list_any (are_of_kinds a b) (pairs members)

-- the two kinds stand in matrix order, the entry is no correct one, and they meet
abbrev pub is_conflict : List Level → List Member → PinKind → PinKind → Bool
is_conflict matrix members a b = nat_le (kind_rank a) (kind_rank b)
    && (not (is_correct (entry matrix a b)) && meet members a b)

-- the words of a conflict in a net
abbrev pub conflict_words : List ℕ → PinKind → PinKind → List ℕ
conflict_words name a b = two_words (word name) (two_words (kind_word a) (kind_word b))

-- Conflict: so it is; the level is the entry
abbrev pub conflict : List Level → Net → PinKind → PinKind → List Finding
conflict matrix n a b = found_if (is_conflict matrix n.members a b)
    (finding (entry matrix a b) drc.Conflict (conflict_words n.name a b))

abbrev pub conflicts_with : List Level → Net → List PinKind → PinKind → List Finding
conflicts_with matrix n others a = flat_map (conflict matrix n a) others

abbrev pub conflicts : List Level → Net → List Finding
conflicts matrix n = flat_map (conflicts_with matrix n all_kinds) all_kinds

-- OnePin: a net that is not an unconnected pin and has no directive has one member
abbrev pub one_pin : Net → List Finding
one_pin n =
    found_if (not (may_be_open n) && (length n.members == 1)) (a_warning drc.OnePin (word n.name))

-- NoConnection: a net that has a directive has two members or more
abbrev pub no_connection : Net → List Finding
no_connection n =
    found_if (n.directive && nat_le 2 (length n.members)) (an_error drc.NoConnection (word n.name))

-- what is found by the count of the members of a net
unfoldable pub by_count : Net → List Finding
by_count n = one_pin n ++ no_connection n

-- UnconnectedPin: the member of an unconnected pin; the level is the entry of unconnected and its
-- kind, and nothing is found where that is correct
abbrev pub unconnected_member : List Level → Net → Member → List Finding
unconnected_member matrix n m =
    found_if (is_unconnected_net n && not (is_correct (entry matrix kinds.Unconnected m.kind)))
    (finding (entry matrix kinds.Unconnected m.kind) drc.UnconnectedPin (pin_words m.refdes m.pin))

abbrev pub unconnected_pin : List Level → Net → List Finding
unconnected_pin matrix n = flat_map (unconnected_member matrix n) n.members

-- a member of kind in or clk
abbrev pub is_driven_kind : Member → Bool
is_driven_kind m = is_member_of_kind kinds.In m || is_member_of_kind kinds.Clk m

-- a net that is no unconnected pin and has no directive has members of the kinds in and clk alone,
-- at least one, and no global name
abbrev pub is_undriven : Net → Bool
is_undriven n = (not (may_be_open n) && not n.global)
    && (not (length n.members == 0) && list_all is_driven_kind n.members)

-- NotDriven: so it is
abbrev pub not_driven : Net → List Finding
not_driven n = found_if (is_undriven n) (an_error drc.NotDriven (word n.name))

-- the refdes and the pin number of a member
abbrev pub pair_of : Member → PairData
pair_of m = record { first = m.refdes; second = m.pin }

-- the net has a member with this refdes and this number
abbrev pub has_pair_in : PairData → Net → Bool
has_pair_in q n = list_any (λ m. same_pair q (pair_of m)) n.members

-- PinOnTwoNets: two of these nets have a member with this refdes and this number
abbrev pub member_on_two : List Net → Member → List Finding
member_on_two nets m =
    found_if (two_pass (has_pair_in (pair_of m)) nets)
    (an_error drc.PinOnTwoNets (pin_words m.refdes m.pin))

abbrev pub pins_on_two : List Net → Net → List Finding
pins_on_two nets n = flat_map (member_on_two nets) n.members

-- the names of nets
abbrev pub names_of_nets : List Net → List (List ℕ)
names_of_nets nets = map (λ n. n.name) nets

-- what is found on one of these nets
abbrev pub found_on_net : List Level → List Net → Net → List Finding
found_on_net matrix nets n =
    conflicts matrix n ++ (by_count n ++ (unconnected_pin matrix n ++ (not_driven n
    ++ (pins_on_two nets n ++ same_text (names_of_nets nets) n.name))))

-- what is found on all of them
abbrev pub found_on_nets : List Level → List Net → List Finding
found_on_nets matrix nets = flat_map (found_on_net matrix nets) nets
