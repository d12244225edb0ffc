-- The net list of a project (own): nets are the classes of the least equivalence that
-- holds the links, their members each once, their names and their order.
use Rattle.std.specs.Prelude.{◌≡◌, ℕ, ◌+◌, ◌^◌, ◌<◌, ◌==◌, ◌&&◌, not, Bool, List, [], ◌∷◌, ◌++◌, Option, length, map, filter, take, codes, count_by, slice_get}
use Rattle.std.specs.Option.{option_cmp}
use Rattle.std.specs.declared.cmp.Ordering.{Ordering}
use Rattle.std.specs.List.{flat_map, list_any, range_with_len}
use Rattle.std.specs.Str.{bytes_eq}
use Rattle.std.specs.Fmt.{decimal}
use Rattle.std.specs.Ordering.{nat_cmp, on, then_cmp}
use Rattle.project_model.specs.Projects.{ProjectData}
use Rattle.geda_defs.specs.Classes.{AreClasses}
use Rattle.net_list.specs.declared.nets.Net.{Net}
use Rattle.net_list.specs.declared.nets.NetSort.{NetSort}
use Rattle.net_list.specs.declared.nets.NetSort.TheVariants as sorts
use Rattle.net_list.specs.declared.nets.Nets.{Nets}
use Rattle.geda_defs.specs.Order.{once_in_order, by_bytes}
use Rattle.flat_rows.specs.Conductors.{FlatConductor}
use Rattle.link_classes.specs.Links.{Linked, names_of}
use Rattle.flat_sheets.specs.Conductors.{conductors_of}
use Rattle.net_names.specs.Packages.{packages_of}
use Rattle.net_names.specs.NetClasses.{labelled_from, ClassPinData, by_pin, NetClassData, net_classes}

-- a class with a name is named; a single drawn pin without a name is unconnected
abbrev pub is_named : NetClassData → Bool
is_named c = not (length c.names == 0)

-- without a name, and no single pin
abbrev pub is_unnamed : NetClassData → Bool
is_unnamed c = not (is_named c) && not c.is_single_pin

-- without a name, and a single pin
abbrev pub is_unconnected : NetClassData → Bool
is_unconnected c = not (is_named c) && c.is_single_pin

-- how many `/` a name has
abbrev pub slashes : List ℕ → ℕ
slashes name = count_by (λ b. b == 47) name

-- by the count of `/`, then by bytes
abbrev pub by_name : List ℕ → List ℕ → Ordering
by_name = then_cmp (on slashes nat_cmp) by_bytes

-- the first of a list, or the default where there is none
abbrev pub first_or : {A : Type 0} → A → List A → A
first_or a [] = a
first_or a (b ∷ bs) = b

-- the net of a class under a name
abbrev pub net_of : List ℕ → NetSort → NetClassData → Net
net_of name sort c = record {
  name = name;
  sort = sort;
  global = c.global;
  directive = c.directive;
  members = map (λ p. p.member) c.pins;
}

-- a named class prints under the least of its names
abbrev pub named_net : NetClassData → Net
named_net c = net_of (first_or [] (once_in_order by_name c.names)) sorts.Named c

-- the least pin, since pins stand in order
abbrev pub least_pin : NetClassData → Option ClassPinData
least_pin c = slice_get c.pins 0

-- by the least pin, by its place last; without pins before all others
abbrev pub by_least_pin : NetClassData → NetClassData → Ordering
by_least_pin = on least_pin (option_cmp by_pin)

-- no conductor has the name of this number
abbrev pub is_free : List ℕ → List (List ℕ) → ℕ → Bool
is_free prefix used n = not (list_any (bytes_eq (prefix ++ decimal n)) used)

-- the first so many numbers from 1 whose text no conductor has as a name: at most as many are
-- skipped as there are names
abbrev pub free_numbers : List ℕ → List (List ℕ) → ℕ → List ℕ
free_numbers prefix used count =
    take count (filter (is_free prefix used) (range_with_len 1 (count + length used)))

-- the classes under their numbers
abbrev pub numbered : List ℕ → NetSort → List ℕ → List NetClassData → List Net
numbered prefix sort (n ∷ ns) (c ∷ cs) =
    net_of (prefix ++ decimal n) sort c ∷ numbered prefix sort ns cs
numbered prefix sort numbers classes = []

-- the classes in order of their least pins, numbered
abbrev pub numbered_nets : List ℕ → NetSort → List (List ℕ) → List NetClassData → List Net
numbered_nets prefix sort used classes =
    numbered prefix sort (free_numbers prefix used (length classes))
    (once_in_order by_least_pin classes)

-- the nets, given the label of each conductor's class: named, then unnamed, then unconnected ones
abbrev pub nets_by : List FlatConductor → List ℕ → List Net
nets_by conductors labels =
    let classes = net_classes (labelled_from 0 conductors labels) (length conductors) in
    let used = flat_map names_of conductors in
    once_in_order (on (λ n. n.name) by_bytes) (map named_net (filter is_named classes))
    ++ numbered_nets (codes "unnamed_net") sorts.Unnamed used
    (filter is_unnamed classes)
    ++ numbered_nets (codes "unconnected_pin-") sorts.Unconnected used
    (filter is_unconnected classes)

-- the nets are those of the classes of linked conductors
abbrev pub AreNetsOf : List FlatConductor → List Net → Type 0
AreNetsOf conductors nets =
    (labels : List ℕ)
    × AreClasses (Linked conductors) (length conductors) labels
    × (nets ≡ nets_by conductors labels)

-- conductors and their names are together fewer than 10^64, so that each number of a net prints in
-- digits of its own
abbrev pub AreCountable : List FlatConductor → Type 0
AreCountable conductors = length conductors + length (flat_map names_of conductors) < 10 ^ 64

-- the net list of a project, which has one where its conductors and their names can be counted
pub record IsNetListOf (p : ProjectData) (list : Nets) : Type 0 where
  pub packages : list.packages ≡ packages_of p
  pub nets : AreNetsOf (conductors_of p) list.nets
  pub countable : AreCountable (conductors_of p)
