-- Which nodes the nets of a list have: each net its own, where no two are named `GND`.
use Rattle.std.proofs.Common.{◌≡◌, ◌≢◌, ◌⊎◌, ◌∙◌, ℕ, zero, suc, ◌+◌, ◌≤◌, ◌<◌, ◌^◌, Bool, true, false, List, [], ◌∷◌, Some, Contains, codes, length, map, inl, inr, refl, sym, ap, arith}
use Rattle.std.specs.Prelude.{All}
use Rattle.std.specs.List.{slice_get}
use Rattle.std.specs.Option.{option_map}
use Rattle.std.proofs.lemmas.List.Elements.{All-cons, All-head, All-tail, All-weaker, All-contains, All-contains_itself}
use Rattle.std.proofs.lemmas.Option.{none-some, same_Some, slice_get-map}
use Rattle.geda_defs.proofs.Bytes.{bytes_same}
use Rattle.hierarchy.proofs.ListLemmas.{all_none}
use Rattle.net_list.specs.declared.nets.Net.{Net}
use Rattle.net_names.proofs.ApartLemmas.{Apart, apart_map, one_place}
use Rattle.net_names.proofs.NameLaws.{AreNamedApart}
use Rattle.net_names.proofs.PlaceLemmas.{is_there}
use Rattle.spice_out.specs.Nodes.{NodedNetData, is_ground, next_after, node_of, noded_from, noded_nets}

-- a net stands at its place
pub stands : (place next : ℕ) (ns : List Net) (i : ℕ) (d : NodedNetData) → slice_get (noded_from place next ns) i ≡ Some d → (d.at.net ≡ place + i) × (slice_get ns i ≡ Some d.net)
stands place next [] i d e = absurd (none-some d e)
stands place next (n ∷ ns) zero d e =
    let same = same_Some _ d e in
    let here : place ≡ place + 0 = omega arith in
    (sym (ap (λ (x : NodedNetData). x.at.net) same) ∙ here, ap (λ (x : NodedNetData). Some x.net) same)
stands place next (n ∷ ns) (suc i) d e =
    let r = stands (place + 1) (next_after n next) ns i d e in
    let further : place + 1 + i ≡ place + suc i = omega arith in
    (r.0 ∙ further, r.1)

-- and each net does
pub stands_there : (place next : ℕ) (ns : List Net) (i : ℕ) (n : Net) → slice_get ns i ≡ Some n → (d : NodedNetData) × (slice_get (noded_from place next ns) i ≡ Some d) × (d.net ≡ n)
stands_there place next [] i n e = absurd (none-some n e)
stands_there place next (m ∷ ns) zero n e = (_, refl, same_Some m n e)
stands_there place next (m ∷ ns) (suc i) n e = stands_there (place + 1) (next_after m next) ns i n e

-- it is the net named `GND`, with the node 0, or its node is not below a number
abbrev IsAbove : ℕ → NodedNetData → Type 0
IsAbove next d = ((is_ground d.net ≡ true) × (d.at.node ≡ 0)) ⊎ (next ≤ d.at.node)

next_is : (n : Net) (next : ℕ) (b : Bool) → is_ground n ≡ b → next ≤ next_after n next
next_is n next true e = rw e (omega arith)
next_is n next false e = rw e (omega arith)

above : (place next : ℕ) (ns : List Net) → All (IsAbove next) (noded_from place next ns)
above place next [] = all_none (IsAbove next)
above place next (n ∷ ns) =
    All-cons (IsAbove next) _ (noded_from (place + 1) (next_after n next) ns) (here (is_ground n) refl)
    (All-weaker (IsAbove (next_after n next)) (IsAbove next) (λ d. weaker d) (noded_from (place + 1) (next_after n next) ns) (above (place + 1) (next_after n next) ns))
  where
    here : (b : Bool) → is_ground n ≡ b → IsAbove next (record { at = record { net = place; node = node_of n next }; net = n })
    here true e = inl (e, rw e refl)
    here false e = inr (rw e (omega arith))

    weaker : (d : NodedNetData) → IsAbove (next_after n next) d → IsAbove next d
    weaker d (inl ground) = inl ground
    weaker d (inr le) = let more = next_is n next (is_ground n) refl in inr (omega (arith, le, more))

-- nodes are not above the count of nets
pub small : (place next : ℕ) (ns : List Net) → All (λ d. d.at.node < next + length ns) (noded_from place next ns)
small place next [] = all_none (λ d. d.at.node < next + 0)
small place next (n ∷ ns) =
    All-cons (λ d. d.at.node < next + length (n ∷ ns)) _ (noded_from (place + 1) (next_after n next) ns) (here (is_ground n) refl)
    (All-weaker (λ d. d.at.node < next_after n next + length ns) (λ d. d.at.node < next + length (n ∷ ns)) (λ d. weaker d) (noded_from (place + 1) (next_after n next) ns) (small (place + 1) (next_after n next) ns))
  where
    here : (b : Bool) → is_ground n ≡ b → node_of n next < next + length (n ∷ ns)
    here true e = rw e (omega arith)
    here false e = rw e (omega arith)

    most : (b : Bool) → is_ground n ≡ b → next_after n next ≤ next + 1
    most true e = rw e (omega arith)
    most false e = rw e (omega arith)

    weaker : (d : NodedNetData) → d.at.node < next_after n next + length ns → d.at.node < next + length (n ∷ ns)
    weaker d less = let le = most (is_ground n) refl in omega (arith, less, le)

-- what holds of all nets holds of them with their nodes
all_nets : (P : Net → Type 0) (place next : ℕ) (ns : List Net) → All P ns → All (λ d. P d.net) (noded_from place next ns)
all_nets P place next [] all = all_none (λ d. P d.net)
all_nets P place next (n ∷ ns) all =
    All-cons (λ d. P d.net) _ (noded_from (place + 1) (next_after n next) ns) (All-head P n ns all) (all_nets P (place + 1) (next_after n next) ns (All-tail P n ns all))

-- their nodes differ
abbrev DifferInNode : NodedNetData → NodedNetData → Type 0
DifferInNode d e = d.at.node ≢ e.at.node

ground_name : (n : Net) → is_ground n ≡ true → n.name ≡ codes "GND"
ground_name n e = bytes_same n.name (codes "GND") e

-- no two nets have one node, where names differ
nodes_apart : (place next : ℕ) (ns : List Net) → 1 ≤ next → Apart AreNamedApart ns → Apart DifferInNode (noded_from place next ns)
nodes_apart place next [] low apart = tt
nodes_apart place next (n ∷ ns) low apart =
    let more = next_is n next (is_ground n) refl in (
      first (is_ground n) refl,
      nodes_apart (place + 1) (next_after n next) ns (omega (arith, low, more)) apart.1,
    )
  where
    rest : List NodedNetData
    rest = noded_from (place + 1) (next_after n next) ns

    at_first : (b : Bool) → is_ground n ≡ b → (d : NodedNetData) → AreNamedApart n d.net → IsAbove (next_after n next) d → node_of n next ≢ d.at.node
    at_first true e d differ (inl ground) same = differ (ground_name n e ∙ sym (ground_name d.net ground.0))
    at_first true e d differ (inr le) same =
        let zero_is : 0 ≡ d.at.node = rw e at same in
        let least : next ≤ d.at.node = rw e at le in
        absurd (omega (arith, low, zero_is, least))
    at_first false e d differ (inl ground) same =
        let next_is_it : next ≡ d.at.node = rw e at same in
        absurd (omega (arith, low, next_is_it, ground.1))
    at_first false e d differ (inr le) same =
        let next_is_it : next ≡ d.at.node = rw e at same in
        let least : next + 1 ≤ d.at.node = rw e at le in
        absurd (omega (arith, next_is_it, least))

    first : (b : Bool) → is_ground n ≡ b → All (λ d. node_of n next ≢ d.at.node) rest
    first b e = All-weaker (Contains rest) (λ d. node_of n next ≢ d.at.node)
        (λ d there. at_first b e d (All-contains (λ d. AreNamedApart n d.net) rest d (all_nets (AreNamedApart n) (place + 1) (next_after n next) ns apart.0) there)
        (All-contains (IsAbove (next_after n next)) rest d (above (place + 1) (next_after n next) ns) there))
        rest (All-contains_itself rest)

-- so one node is one place
pub one_node : (ns : List Net) → Apart AreNamedApart ns → (i j : ℕ) (d e : NodedNetData) → slice_get (noded_nets ns) i ≡ Some d → slice_get (noded_nets ns) j ≡ Some e
    → d.at.node ≡ e.at.node → i ≡ j
one_node ns apart i j d e there also same =
    let node : NodedNetData → ℕ = λ d. d.at.node in
    let nodes = apart_map ◌≢◌ node (noded_nets ns) (nodes_apart 0 1 ns (omega arith) apart) in
    one_place (map node (noded_nets ns)) i j d.at.node nodes
    (slice_get-map node (noded_nets ns) i ∙ ap (option_map node) there)
    (slice_get-map node (noded_nets ns) j ∙ ap (option_map node) also ∙ ap Some (sym same))

-- and nodes can be counted
pub node_small : (ns : List Net) → length ns < 2 ^ 63 → (i : ℕ) (d : NodedNetData) → slice_get (noded_nets ns) i ≡ Some d → d.at.node < 2 ^ 64
node_small ns few i d at =
    let low = All-contains (λ e. e.at.node < 1 + length ns) (noded_nets ns) d (small 0 1 ns) (is_there (noded_nets ns) i d at) in
    omega (arith, low, few)
