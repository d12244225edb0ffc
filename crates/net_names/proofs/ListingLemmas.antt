-- Nets of classes in order, numbered one by one, are the nets of conductors.
use Rattle.std.proofs.Common.{◌≡◌, ℕ, ◌+◌, ◌-◌, ◌^◌, ◌<◌, ◌&&◌, not, Bool, true, false, cond, List, [], ◌∷◌, ◌++◌, length, map, filter, flat_map, fold, codes, refl, sym, ap, ◌∙◌, arith}
use Rattle.std.specs.Prelude.{All}
use Rattle.std.specs.List.{list_any, range_with_len}
use Rattle.std.specs.Ordering.{on}
use Rattle.std.specs.Str.{bytes_eq}
use Rattle.std.specs.Fmt.{decimal}
use Rattle.std.proofs.lemmas.List.{append-nil, append_assoc, length-map}
use Rattle.std.proofs.lemmas.List.Elements.{All-get_or, filter_agree}
use Rattle.geda_defs.specs.Order.{once_in_order, by_bytes}
use Rattle.rank_order.specs.Classes.{met}
use Rattle.flat_rows.specs.Conductors.{FlatConductor}
use Rattle.flat_rows.specs.Keyed.{Keyed, keyed_at, keyed_from}
use Rattle.link_classes.specs.Links.{names_of}
use Rattle.net_list.specs.declared.nets.Net.{Net}
use Rattle.net_list.specs.declared.nets.NetSort.{NetSort}
use Rattle.net_list.specs.declared.nets.NetSort.TheVariants as sorts
use Rattle.net_names.specs.NetClasses.{labelled_from, ClassPinData, NetClassData, net_class_of, net_classes, has_pins}
use Rattle.net_names.specs.NetLists.{AreCountable, is_named, is_unnamed, is_unconnected, named_net, by_least_pin, is_free, numbered, numbered_nets, nets_by}
use Rattle.net_names.specs.declared.net_classes.ClassBody.{ClassBody}
use Rattle.net_names.specs.steps.Orders.{by_net_name}
use Rattle.net_names.specs.steps.Classes.{bodies_of, body_of, is_numbered, named_of, with_named}
use Rattle.net_names.specs.steps.Numbering.{taken_names, is_taken, free_below, AreNumbered, numbered_bodies}
use Rattle.net_names.specs.steps.Pins.{label_of, pins_in_order}
use Rattle.net_names.proofs.GatheringLemmas.{any_sorts}
use Rattle.net_names.proofs.NumberingLemmas.{length_fold, length_taken_names, free_same, numbered_same, numbered_take}
use Rattle.net_names.proofs.RankedNets.{classes_met, ordered, ordered_are}

-- the nets of classes, where some names are used
abbrev nets_of : List NetClassData → List (List ℕ) → List Net
nets_of classes used =
    once_in_order (on (λ n. n.name) by_bytes) (map named_net (filter is_named classes))
    ++ numbered_nets (codes "unnamed_net") sorts.Unnamed used (filter is_unnamed classes)
    ++ numbered_nets (codes "unconnected_pin-") sorts.Unconnected used (filter is_unconnected classes)

-- ---- names

-- keys of conductors, without their places
keys_flat : {K : Type 0} (keys : FlatConductor → List K) (s : ℕ) (cs : List FlatConductor) → map (λ k. k.0) (keyed_from keys s cs) ≡ flat_map keys cs
keys_flat keys s [] = refl
keys_flat {K} keys s (c ∷ cs) = behind (keyed_at s (keys c)) (keyed_from keys (s + 1) cs) ∙ ap (λ (xs : List K). xs ++ map (λ k. k.0) (keyed_from keys (s + 1) cs)) (alone (keys c)) ∙ ap (λ (xs : List K). keys c ++ xs) (keys_flat keys (s + 1) cs)
  where
    behind : (xs ys : List (Keyed K)) → map (λ k. k.0) (xs ++ ys) ≡ map (λ k. k.0) xs ++ map (λ k. k.0) ys
    behind [] ys = refl
    behind (x ∷ xs) ys = ap (λ (zs : List K). x.0 ∷ zs) (behind xs ys)

    alone : (ks : List K) → map (λ k. k.0) (keyed_at s ks) ≡ ks
    alone [] = refl
    alone (k ∷ ks) = ap (λ (zs : List K). k ∷ zs) (alone ks)

length_behind : {A : Type 0} (xs ys : List A) → length (xs ++ ys) ≡ length xs + length ys
length_behind [] ys = omega arith
length_behind (x ∷ xs) ys = let h = length_behind xs ys in omega (arith, h)

length_sorts : (cs : List FlatConductor) → length (flat_map names_of cs) ≡ length (flat_map (λ c. c.global_names) cs) + length (flat_map (λ c. c.drawn_names) cs)
length_sorts [] = refl
length_sorts (c ∷ cs) =
    let h = length_sorts cs in
    let a = length_behind (names_of c) (flat_map names_of cs) in
    let b = length_behind c.global_names c.drawn_names in
    let d = length_behind c.global_names (flat_map (λ (c : FlatConductor). c.global_names) cs) in
    let e = length_behind c.drawn_names (flat_map (λ (c : FlatConductor). c.drawn_names) cs) in
    omega (arith, h, a, b, d, e)

module _ (conductors : List FlatConductor) where
  -- all names, the global ones first
  abbrev pub sorted_names : List (List ℕ)
  sorted_names = map (λ k. k.0) (keyed_from (λ (c : FlatConductor). c.global_names) 0 conductors) ++ map (λ k. k.0) (keyed_from (λ (c : FlatConductor). c.drawn_names) 0 conductors)

  abbrev used : List (List ℕ)
  used = flat_map names_of conductors

  globals_flat : map (λ k. k.0) (keyed_from (λ (c : FlatConductor). c.global_names) 0 conductors) ≡ flat_map (λ c. c.global_names) conductors
  globals_flat = keys_flat (λ c. c.global_names) 0 conductors

  drawns_flat : map (λ k. k.0) (keyed_from (λ (c : FlatConductor). c.drawn_names) 0 conductors) ≡ flat_map (λ c. c.drawn_names) conductors
  drawns_flat = keys_flat (λ c. c.drawn_names) 0 conductors

  names_flat : sorted_names ≡ flat_map (λ c. c.global_names) conductors ++ flat_map (λ c. c.drawn_names) conductors
  names_flat = ap (λ (xs : List (List ℕ)). xs ++ map (λ k. k.0) (keyed_from (λ (c : FlatConductor). c.drawn_names) 0 conductors)) globals_flat ∙ ap (λ (xs : List (List ℕ)). flat_map (λ c. c.global_names) conductors ++ xs) drawns_flat

  length_used : length sorted_names ≡ length used
  length_used = ap length names_flat ∙ length_behind (flat_map (λ c. c.global_names) conductors) (flat_map (λ c. c.drawn_names) conductors) ∙ sym (length_sorts conductors)

  -- they can be counted where each of three lists can be
  pub countable : (a b c : ℕ) → a ≡ length conductors → b ≡ length (keyed_from (λ (c : FlatConductor). c.global_names) 0 conductors) → c ≡ length (keyed_from (λ (c : FlatConductor). c.drawn_names) 0 conductors)
      → a < 2 ^ 64 → b < 2 ^ 64 → c < 2 ^ 64 → AreCountable conductors
  countable a b c e f g x y z =
      let globals : length (flat_map (λ c. c.global_names) conductors) ≡ b = sym (ap length globals_flat) ∙ length-map (keyed_from (λ (c : FlatConductor). c.global_names) 0 conductors) (λ k. k.0) ∙ sym f in
      let drawns : length (flat_map (λ c. c.drawn_names) conductors) ≡ c = sym (ap length drawns_flat) ∙ length-map (keyed_from (λ (c : FlatConductor). c.drawn_names) 0 conductors) (λ k. k.0) ∙ sym g in
      let all = length_sorts conductors in
      omega (arith, globals, drawns, all, e, x, y, z)

  -- names in either order leave the same numbers free
  free_either : (prefix : List ℕ) (ns : List ℕ) → filter (is_free prefix used) ns ≡ filter (is_free prefix sorted_names) ns
  free_either prefix ns = filter_agree (is_free prefix used) (is_free prefix sorted_names)
      (λ n. ap not (any_sorts (bytes_eq (prefix ++ decimal n)) (λ (c : FlatConductor). c.global_names) (λ (c : FlatConductor). c.drawn_names) conductors ∙ ap (list_any (bytes_eq (prefix ++ decimal n))) (sym names_flat))) ns

  -- numbers as they are given one by one are those of the definition
  numbers_same : (prefix : List ℕ) (sort : NetSort) (kept : List NetClassData)
      → numbered prefix sort (free_below prefix (taken_names prefix sorted_names) 1 (1 + (length kept + length used))) (once_in_order by_least_pin kept)
      ≡ numbered_nets prefix sort used kept
  numbers_same prefix sort kept =
      let few = length_fold by_least_pin [] kept in
      let all = range_with_len 1 (length kept + length used) in
      let range : 1 + (length kept + length used) - 1 ≡ length kept + length used = omega arith in
      let free : free_below prefix (taken_names prefix sorted_names) 1 (1 + (length kept + length used)) ≡ filter (is_free prefix used) all =
      ap (λ (n : ℕ). filter (λ m. not (is_taken prefix (taken_names prefix sorted_names) m)) (range_with_len 1 n)) range ∙ sym (free_same prefix sorted_names all) ∙ sym (free_either prefix all) in
      ap (λ (ns : List ℕ). numbered prefix sort ns (once_in_order by_least_pin kept)) free
      ∙ sym (numbered_take prefix sort (length kept) (filter (is_free prefix used) all) (once_in_order by_least_pin kept) (omega (arith, few)))

  -- nets that grow by those of bodies, numbered
  numbers_grow : (prefix : List ℕ) (sort : NetSort) (taken : List (List ℕ)) (bodies : List ClassBody) (kept : List NetClassData) (old new : List Net)
      → taken ≡ taken_names prefix sorted_names → bodies ≡ map body_of (once_in_order by_least_pin kept) → AreNumbered prefix sort taken bodies old new
      → new ≡ old ++ numbered_nets prefix sort used kept
  numbers_grow prefix sort taken bodies kept old new e f numbers =
      let few = length_taken_names prefix sorted_names in
      let fewer = length_fold by_least_pin [] kept in
      let mapped = length-map (once_in_order by_least_pin kept) body_of in
      let stop = 1 + (length kept + length used) in
      let long : length taken + length bodies < stop = omega (arith, few, fewer, ap length e, ap length f, mapped, length_used) in
      numbers stop long
      ∙ ap (λ (names : List (List ℕ)). old ++ numbered_bodies prefix sort (free_below prefix names 1 stop) bodies) e
      ∙ ap (λ (bs : List ClassBody). old ++ numbered_bodies prefix sort (free_below prefix (taken_names prefix sorted_names) 1 stop) bs) f
      ∙ ap (λ (nets : List Net). old ++ nets) (numbered_same prefix sort (free_below prefix (taken_names prefix sorted_names) 1 stop) (once_in_order by_least_pin kept) ∙ numbers_same prefix sort kept)

-- ---- classes

-- nets put in one by one are those of the classes that have members and a name
with_nets : (ks : List Net) (cs : List NetClassData) → fold with_named ks cs ≡ ks ++ map named_net (filter is_named (filter has_pins cs))
with_nets ks [] = sym (append-nil ks)
with_nets ks (c ∷ cs) = with_nets (with_named ks c) cs ∙ by (has_pins c) (is_named c) refl
  where
    by : (a b : Bool) → is_named c ≡ b
        → cond (a && b) (ks ++ named_net c ∷ []) ks ++ map named_net (filter is_named (filter has_pins cs))
        ≡ ks ++ map named_net (filter is_named (cond a (c ∷ filter has_pins cs) (filter has_pins cs)))
    by true true e = rw e (append_assoc ks (named_net c ∷ []) (map named_net (filter is_named (filter has_pins cs))))
    by true false e = rw e refl
    by false b e = refl

filter_image : (t : NetClassData → Bool) (f : ℕ → NetClassData) (rs : List ℕ) → filter t (map f rs) ≡ map f (filter (λ r. t (f r)) rs)
filter_image t f [] = refl
filter_image t f (r ∷ rs) = by (t (f r)) (filter_image t f rs)
  where
    by : (b : Bool) → filter t (map f rs) ≡ map f (filter (λ r. t (f r)) rs)
        → cond b (f r ∷ filter t (map f rs)) (filter t (map f rs)) ≡ map f (cond b (r ∷ filter (λ r. t (f r)) rs) (filter (λ r. t (f r)) rs))
    by true h = ap (λ (cs : List NetClassData). f r ∷ cs) h
    by false h = h

module _ (conductors : List FlatConductor) (labels : List ℕ) (len : length labels ≡ length conductors) (below : All (λ label. label < length conductors) labels) where
  abbrev C : ℕ → NetClassData
  C = net_class_of (labelled_from 0 conductors labels)

  abbrev classes : List NetClassData
  classes = net_classes (labelled_from 0 conductors labels) (length conductors)

  -- bodies of labels as they are met are those of the classes in order
  bodies_met : (sort : NetSort) → bodies_of conductors labels sort (met (label_of labels) (pins_in_order conductors)) ≡ map body_of (once_in_order by_least_pin (filter (is_numbered sort) classes))
  bodies_met sort =
      ap (λ (ps : List ClassPinData). bodies_of conductors labels sort (met (label_of labels) ps)) (ordered_are conductors labels len)
      ∙ ap (map body_of) (filter_image (is_numbered sort) C (met (label_of labels) once_ordered) ∙ sym (classes_met conductors labels len (is_numbered sort) (λ i h. All-get_or (λ label. label < length conductors) labels i 0 h below)))
    where
      once_ordered : List ClassPinData
      once_ordered = ordered conductors labels len

  -- the nets of conductors: first the named ones, then the unnamed and the unconnected ones
  pub nets_by_steps : (count : ℕ) (met_labels : List ℕ) (taken taken_alone : List (List ℕ)) (nets_named named nets all : List Net)
      → count ≡ length conductors → met_labels ≡ met (label_of labels) (pins_in_order conductors)
      → taken ≡ taken_names (codes "unnamed_net") (sorted_names conductors)
      → taken_alone ≡ taken_names (codes "unconnected_pin-") (sorted_names conductors)
      → nets_named ≡ named_of conductors labels (range_with_len 0 count) → named ≡ once_in_order by_net_name nets_named
      → AreNumbered (codes "unnamed_net") sorts.Unnamed taken (bodies_of conductors labels sorts.Unnamed met_labels) named nets
      → AreNumbered (codes "unconnected_pin-") sorts.Unconnected taken_alone (bodies_of conductors labels sorts.Unconnected met_labels) nets all
      → all ≡ nets_by conductors labels
  nets_by_steps count met_labels taken taken_alone nets_named named nets all counted m t a n o first second =
      let used = flat_map names_of conductors in
      let sorted : named ≡ once_in_order by_net_name (map named_net (filter is_named classes)) =
      o ∙ ap (once_in_order by_net_name) (n ∙ ap (λ (k : ℕ). named_of conductors labels (range_with_len 0 k)) counted ∙ with_nets [] (map C (range_with_len 0 (length conductors)))) in
      let bodies_unnamed = ap (bodies_of conductors labels sorts.Unnamed) m ∙ bodies_met sorts.Unnamed in
      let bodies_alone = ap (bodies_of conductors labels sorts.Unconnected) m ∙ bodies_met sorts.Unconnected in
      let with_unnamed = numbers_grow conductors (codes "unnamed_net") sorts.Unnamed taken (bodies_of conductors labels sorts.Unnamed met_labels) (filter is_unnamed classes) named nets t bodies_unnamed first in
      let with_alone = numbers_grow conductors (codes "unconnected_pin-") sorts.Unconnected taken_alone (bodies_of conductors labels sorts.Unconnected met_labels) (filter is_unconnected classes) nets all a bodies_alone second in
      let alone = numbered_nets (codes "unconnected_pin-") sorts.Unconnected used (filter is_unconnected classes) in
      let middle = numbered_nets (codes "unnamed_net") sorts.Unnamed used (filter is_unnamed classes) in
      with_alone ∙ ap (λ (x : List Net). x ++ alone) (with_unnamed ∙ ap (λ (x : List Net). x ++ middle) sorted)
