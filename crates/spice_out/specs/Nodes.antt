-- The nodes of nets (own): 0 for the one named `GND`, 1, 2, 3 for the others in their order.
use Rattle.std.specs.Prelude.{ℕ, ◌+◌, if◌then◌else◌, Bool, List, [], ◌∷◌, codes}
use Rattle.std.specs.Str.{bytes_eq}
use Rattle.net_list.specs.declared.nets.Net.{Net}
use Rattle.spice_out.specs.declared.net_nodes.NetNode.{NetNode}

-- the net is named `GND`, in capital letters
abbrev pub is_ground : Net → Bool
is_ground n = bytes_eq n.name (codes "GND")

-- a net with its place in the list and its node
pub record NodedNetData : Type 0 where
  pub at : NetNode
  pub net : Net

-- the node of a net, where the next one that is free is this
abbrev pub node_of : Net → ℕ → ℕ
node_of n next = if is_ground n then 0 else next

-- the next one that is free behind it
abbrev pub next_after : Net → ℕ → ℕ
next_after n next = if is_ground n then next else next + 1

-- nets from a place on, with their nodes from a number on
abbrev pub noded_from : ℕ → ℕ → List Net → List NodedNetData
noded_from place next [] = []
noded_from place next (n ∷ ns) =
    record { at = record { net = place; node = node_of n next }; net = n }
    ∷ noded_from (place + 1) (next_after n next) ns

-- the nets of a list with their nodes
abbrev pub noded_nets : List Net → List NodedNetData
noded_nets nets = noded_from 0 1 nets
