-- The nets that join pins (own).
use Rattle.std.specs.Prelude.{Bool, true, false, List, filter}
use Rattle.net_list.specs.declared.nets.Net.{Net}
use Rattle.net_list.specs.declared.nets.NetSort.{NetSort}
use Rattle.net_list.specs.declared.nets.NetSort.TheVariants as sorts

-- a net that is no unconnected pin
abbrev pub is_joined : Net → Bool
is_joined n = of_sort n.sort
  where
    of_sort : NetSort → Bool
    of_sort sorts.Named = true
    of_sort sorts.Unnamed = true
    of_sort sorts.Unconnected = false

-- those of a list
abbrev pub joined_nets : List Net → List Net
joined_nets nets = filter is_joined nets
