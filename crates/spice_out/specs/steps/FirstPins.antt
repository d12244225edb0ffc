-- Steps of the code; no public clause cites them.
-- Where each pin number of a package is first, as a map.
use Rattle.std.specs.Prelude.{◌≡◌, ℕ, Bool, List, Option, is_some, length}
use Rattle.std.specs.Borrow.{Bor}
use Rattle.std.specs.BTreeMap.{BTreeMap, btree_map_len, get_by}
use Rattle.std.specs.Cmp.Lexicographic.{slice_cmp}
use Rattle.std.specs.Fmt.{decimal}
use Rattle.std.specs.List.{list_all, list_any, range_with_len}
use Rattle.std.specs.Ordering.{nat_cmp}
use Rattle.std.specs.Str.{bytes_eq}
use Rattle.spice_out.specs.declared.net_nodes.NetNode.{NetNode}
use Rattle.spice_out.specs.Pins.{PinData, first_at, numbers_of}

-- places by pin number
abbrev pub FirstPins : Type 0
FirstPins = BTreeMap (Bor (List ℕ)) NetNode

-- the place of a number, if there is one
abbrev pub firsts_at : FirstPins → List ℕ → Option NetNode
firsts_at firsts q = get_by (λ k. slice_cmp nat_cmp q k.now) firsts

-- they are the first places of these pins' numbers
pub record AreFirsts (pins : List PinData) (firsts : FirstPins) : Type 0 where
  pub places : (q : List ℕ) → firsts_at firsts q ≡ first_at pins q
  pub numbers : (q : List ℕ) → list_any (bytes_eq q) (numbers_of pins) ≡ is_some (first_at pins q)
  pub count : btree_map_len firsts ≡ length (numbers_of pins)

-- the digits of 1 to n are there
abbrev pub has_each : ℕ → FirstPins → Bool
has_each n firsts = list_all (λ k. is_some (firsts_at firsts (decimal k))) (range_with_len 1 n)
