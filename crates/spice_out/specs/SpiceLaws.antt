-- What one may count on in a SPICE text (own): its cards tell which pins are members of one net,
-- and no two of them have one name.
use Rattle.std.specs.Prelude.{◌≡◌, ◌≢◌, ◌↔◌, ℕ, ◌≤◌, ◌<◌, ◌^◌, ◌==◌, ◌||◌, not, Bool, false, List, [], ◌∷◌, ◌++◌, Contains, filter, length, map}
use Rattle.std.specs.Fmt.{decimal}
use Rattle.std.specs.List.{AllPairs, Any, range_with_len, slice_split}
use Rattle.std.specs.Option.{unwrap_or}
use Rattle.geda_defs.specs.Classes.{Joined}
use Rattle.geda_defs.specs.Lines.{is_line_feed}
use Rattle.printed_texts.specs.PrintedTexts.{flat}
use Rattle.flat_rows.specs.Conductors.{FlatConductor}
use Rattle.net_list.specs.declared.member.Member.{Member}
use Rattle.link_classes.specs.Links.{Linked}
use Rattle.net_list.specs.declared.package.Package.{Package}
use Rattle.net_list.specs.declared.nets.Net.{Net}
use Rattle.net_list.specs.declared.nets.Nets.{Nets}
use Rattle.net_names.specs.NetLaws.{IsPinAt}
use Rattle.spice_out.specs.Pins.{PinData, numbers_of, refdes_pins}
use Rattle.spice_out.specs.Cards.{card_name, folded, has_card, pin_count}
use Rattle.spice_out.specs.SpiceText.{pin_node, value_of}

-- the line begins with another byte than `*` and `.`
abbrev pub is_card_line : List ℕ → Bool
is_card_line [] = false
is_card_line (b ∷ bs) = not ((b == 42) || (b == 46))

-- the byte of a space
abbrev pub is_space : ℕ → Bool
is_space b = b == 32

-- the lines of a text that begin so, each cut at single spaces
abbrev pub cut_cards : List ℕ → List (List (List ℕ))
cut_cards text = map (slice_split is_space) (filter is_card_line (slice_split is_line_feed text))

-- the packages with a card
abbrev pub carded : List Package → List Package
carded packages = filter (λ p. has_card p.refdes) packages

-- how many pins the card of a package has
abbrev pub card_pins : Nets → Package → ℕ
card_pins list p =
    unwrap_or (pin_count p.refdes (length (numbers_of (refdes_pins list.nets p.refdes)))) 0

-- the node of the k-th pin of a package
abbrev pub node_at : Nets → Package → ℕ → List ℕ
node_at list p k = pin_node (refdes_pins list.nets p.refdes) k

-- what the card of a package gives so: its name, the nodes of its pins, and what its value gives
abbrev pub card_fields : Nets → Package → List (List ℕ)
card_fields list p =
    card_name p.refdes ∷ (map (node_at list p) (range_with_len 1 (card_pins list p))
    ++ slice_split is_space (flat (unwrap_or (value_of p) [])))

-- the net has the k-th pin of a package as a member
abbrev pub HasPin : Package → ℕ → Net → Type 0
HasPin p k net = Any (λ m. (m.refdes ≡ p.refdes) × (m.pin ≡ decimal k)) net.members

-- two pins are members of one net
abbrev pub AreOfOneNet : Nets → Package → ℕ → Package → ℕ → Type 0
AreOfOneNet list p k q l = (net : Net) × Contains list.nets net × HasPin p k net × HasPin q l net

-- the k-th pin of a card
pub record IsCardPin (list : Nets) (p : Package) (k : ℕ) : Type 0 where
  pub card : Contains (carded list.packages) p
  pub from_one : 1 ≤ k
  pub within : k ≤ card_pins list p

-- two pins of cards have one node exactly where they are members of one net
abbrev pub NodesAreNets : Nets → Type 0
NodesAreNets list = (p q : Package) (k l : ℕ) → IsCardPin list p k → IsCardPin list q l
    → (node_at list p k ≡ node_at list q l) ↔ AreOfOneNet list p k q l

-- a pin prints as the k-th pin of a package
abbrev pub PrintsAs : Package → ℕ → Member → Type 0
PrintsAs p k pin = (pin.refdes ≡ p.refdes) × (pin.pin ≡ decimal k)

-- the pins at two places of a project, which print as pins of cards, have one node exactly where a
-- chain of links leads from one to the other
abbrev pub NodesAreChains : List FlatConductor → Nets → Type 0
NodesAreChains conductors list =
    (p q : Package) (k l i j : ℕ) (pin other : Member)
    → IsCardPin list p k → IsPinAt conductors i pin → PrintsAs p k pin
    → IsCardPin list q l → IsPinAt conductors j other → PrintsAs q l other
    → (node_at list p k ≡ node_at list q l) ↔ Joined (Linked conductors) i j

-- no two cards have one name without regard to ASCII case
abbrev pub CardsDiffer : Nets → Type 0
CardsDiffer list = AllPairs (λ p q. folded (card_name p.refdes) ≢ folded (card_name q.refdes))
    (carded list.packages)

-- the nets can be counted
abbrev pub AreFew : Nets → Type 0
AreFew list = length list.nets < 2 ^ 63

-- the number is the digits of one of 1 to n
abbrev pub IsDigitsTo : ℕ → List ℕ → Type 0
IsDigitsTo n number = (k : ℕ) × (1 ≤ k) × (k ≤ n) × (number ≡ decimal k)

-- the numbers of these pins are exactly the digits of 1 to n
abbrev pub AreDigitsTo : ℕ → List PinData → Type 0
AreDigitsTo n pins =
    (number : List ℕ) → Contains (map (λ p. p.number) pins) number ↔ IsDigitsTo n number
