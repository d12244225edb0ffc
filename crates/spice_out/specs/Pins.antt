-- The pins of a package (own): by the members of all nets that print under its refdes.
use Rattle.std.specs.Prelude.{ℕ, ◌==◌, ◌&&◌, not, Bool, false, cond, List, Option, Some, None, is_some, length, map}
use Rattle.std.specs.Fmt.{decimal}
use Rattle.std.specs.List.{filter_map, find, flat_map, list_all, list_any, range_with_len}
use Rattle.std.specs.Option.{option_map}
use Rattle.std.specs.Str.{bytes_eq}
use Rattle.geda_defs.specs.Lists.{each_once}
use Rattle.net_list.specs.declared.member.Member.{Member}
use Rattle.net_list.specs.declared.nets.Net.{Net}
use Rattle.spice_out.specs.declared.net_nodes.NetNode.{NetNode}
use Rattle.spice_out.specs.Nodes.{NodedNetData, noded_nets}

-- a pin of a package in a net: its number, and where it is
pub record PinData : Type 0 where
  pub number : List ℕ
  pub at : NetNode

-- a member, if it is a pin of this refdes
abbrev pub pin_under : List ℕ → NetNode → Member → Option PinData
pin_under refdes at m =
    cond (bytes_eq m.refdes refdes) (Some (record { number = m.pin; at = at })) None

-- the pins of a refdes in one net
abbrev pub pins_in : List ℕ → NodedNetData → List PinData
pins_in refdes n = filter_map (pin_under refdes n.at) n.net.members

-- the pins of a refdes, in order of the nets
abbrev pub refdes_pins : List Net → List ℕ → List PinData
refdes_pins nets refdes = flat_map (pins_in refdes) (noded_nets nets)

-- the pin numbers, each once
abbrev pub numbers_of : List PinData → List (List ℕ)
numbers_of pins = each_once (map (λ p. p.number) pins)

-- where a pin number is first
abbrev pub first_at : List PinData → List ℕ → Option NetNode
first_at pins number = option_map (λ p. p.at) (find (λ p. bytes_eq p.number number) pins)

-- the number of the k-th pin is there
abbrev pub has_pin : List PinData → ℕ → Bool
has_pin pins k = is_some (first_at pins (decimal k))

-- the pin numbers are exactly the digits of 1 to n: there are n of them, and each of these is there
abbrev pub has_numbered_pins : ℕ → List PinData → Bool
has_numbered_pins n pins =
    (length (numbers_of pins) == n) && list_all (has_pin pins) (range_with_len 1 n)

-- two places are of different nets
abbrev pub is_elsewhere : Option NetNode → NetNode → Bool
is_elsewhere None at = false
is_elsewhere (Some first) at = not (first.net == at.net)

-- some pin is a member of two nets: it is in another net than the first that has its number
abbrev pub is_on_two_nets : List PinData → Bool
is_on_two_nets pins = list_any (λ p. is_elsewhere (first_at pins p.number) p.at) pins
