-- The SPICE text of a net list (own): a comment for each net, a card or a comment for each package.
use Rattle.std.specs.Prelude.{ℕ, List, [], ◌∷◌, ◌++◌, Option, Some, None, codes, length}
use Rattle.std.specs.Fmt.{decimal}
use Rattle.std.specs.List.{flat_map, range_with_len}
use Rattle.std.specs.Option.{option_or, unwrap_or}
use Rattle.geda_defs.specs.Lines.{ended}
use Rattle.printed_texts.specs.PrintedTexts.{flat, word}
use Rattle.net_list.specs.declared.package.Package.{Package}
use Rattle.net_list.specs.declared.nets.Net.{Net}
use Rattle.net_list.specs.declared.nets.Nets.{Nets}
use Rattle.spice_out.specs.declared.net_nodes.NetNode.{NetNode}
use Rattle.spice_out.specs.Nodes.{NodedNetData, noded_nets}
use Rattle.spice_out.specs.Pins.{PinData, first_at, numbers_of, refdes_pins}
use Rattle.spice_out.specs.Cards.{card_name, pin_count}

-- the comment of a net: its node and its name
abbrev pub node_comment : NodedNetData → List ℕ
node_comment n = codes "* node " ++ decimal n.at.node ++ 32 ∷ word n.net.name

-- the digits of a node
abbrev pub node_text : Option NetNode → List ℕ
node_text None = []
node_text (Some at) = decimal at.node

-- the node of the k-th pin
abbrev pub pin_node : List PinData → ℕ → List ℕ
pin_node pins k = node_text (first_at pins (decimal k))

-- the value of a package, else its device
abbrev pub value_of : Package → Option (List ℕ)
value_of p = option_or p.value p.device

-- the card of a package with n pins: its name, and behind one space each the nodes of the pins 1 to
-- n and the value
abbrev pub card_line : List PinData → Package → ℕ → List ℕ
card_line pins p n =
    card_name p.refdes ++ flat_map (λ k. 32 ∷ pin_node pins k) (range_with_len 1 n)
    ++ 32 ∷ flat (unwrap_or (value_of p) [])

-- the line of a package: its card, or the comment that it is skipped
abbrev pub line_with : List PinData → Package → Option ℕ → List ℕ
line_with pins p None = codes "* skipped " ++ word p.refdes
line_with pins p (Some n) = card_line pins p n

abbrev pub line_by : List PinData → Package → List ℕ
line_by pins p = line_with pins p (pin_count p.refdes (length (numbers_of pins)))

abbrev pub package_card : List Net → Package → List ℕ
package_card nets p = line_by (refdes_pins nets p.refdes) p

-- the head, a line a net, a line a package, and the end
abbrev pub spice_text : Nets → List ℕ
spice_text list =
    ended (codes "* gafd") ++ flat_map (λ n. ended (node_comment n)) (noded_nets list.nets)
    ++ (flat_map (λ p. ended (package_card list.nets p)) list.packages ++ ended (codes ".end"))
