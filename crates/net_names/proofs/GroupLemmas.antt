-- The groups of the conductors of sheets as rows of keys: each key has the key of the first
-- conductor of its group.
use Rattle.std.proofs.Common.{◌≡◌, ◌<◌, ℕ, zero, suc, List, [], ◌∷◌, Option, Some, None, length, get_or, refl, sym, ap, ◌∙◌, inl, inr, arith}
use Rattle.std.specs.List.{slice_get}
use Rattle.std.specs.List.Sorted.{IsStrictlySortedBy}
use Rattle.std.specs.declared.cmp.Ordering.TheVariants.{Less, Equal}
use Rattle.std.specs.Cmp.{tied_itself}
use Rattle.std.proofs.lemmas.Bool.{cases_lt}
use Rattle.std.proofs.lemmas.List.{get_or-map, get_or_default, length-map}
use Rattle.std.proofs.lemmas.Map.Keys.{Less-from_sorted}
use Rattle.std.proofs.lemmas.Option.{get_or_from_slice_get, none-some, same_Some, slice_get-get_or, slice_get_within}
use Rattle.geda_geom.specs.declared.conductor.Key.{Key}
use Rattle.geda_geom.specs.Keys.{by_key}
use Rattle.geda_geom.proofs.KeyLemmas.{by_key_total}
use Rattle.geda_geom.proofs.TouchLemmas.{touch_turn}
use Rattle.project_model.specs.Projects.{ProjectData}
use Rattle.sheet_groups.specs.Conductors.{SheetConductor, sheet_conductors}
use Rattle.sheet_groups.specs.Groups.{AreGroups, AreTouching, DoTouch, TouchAt, group_rows}
use Rattle.sheet_groups.proofs.GroupLemmas.{groups_rise}
use Rattle.sheet_groups.proofs.OrderLemmas.{conductor_keys_rise, keys_at}
use Rattle.link_classes.specs.InstanceGroups.{groups_by}
use Rattle.link_classes.proofs.RowLemmas.{group_of_row}
use Rattle.pair_classes.proofs.LabelLemmas.{label_inside, labels_agree}

-- the row at a place
row_at : (all cs : List SheetConductor) (labels : List ℕ) (a : ℕ) (c : SheetConductor) → length labels ≡ length cs → slice_get cs a ≡ Some c
    → slice_get (group_rows all cs labels) a ≡ Some (c.key, (get_or all (get_or labels a 0) c).key)
row_at all [] labels a c len at = absurd (none-some c at)
row_at all (d ∷ cs) [] a c len at = absurd (omega (arith, len))
row_at all (d ∷ cs) (label ∷ labels) zero c len at = ap (λ (x : SheetConductor). Some (x.key, (get_or all label x).key)) (same_Some d c at)
row_at all (d ∷ cs) (label ∷ labels) (suc a) c len at = row_at all cs labels a c (omega (arith, len)) at

-- one key is that of one place
earlier_apart : (cs : List SheetConductor) → IsStrictlySortedBy by_key (keys_at cs) → (a b : ℕ) (c d : SheetConductor) → slice_get cs a ≡ Some c → slice_get cs b ≡ Some d
    → a < b → c.key ≡ d.key → ⊥
earlier_apart cs rising a b c d first second lt same =
    let within = slice_get_within cs a c first in
    let inside = slice_get_within cs b d second in
    let len = length-map cs (λ (x : SheetConductor). x.key) in
    let one : get_or (keys_at cs) a c.key ≡ c.key = get_or-map (λ (x : SheetConductor). x.key) cs a c c.key within ∙ ap (λ (x : SheetConductor). x.key) (get_or_from_slice_get cs a c c first) in
    let other : get_or (keys_at cs) b c.key ≡ d.key = get_or-map (λ (x : SheetConductor). x.key) cs b c c.key inside ∙ ap (λ (x : SheetConductor). x.key) (get_or_from_slice_get cs b d c second) in
    let less : by_key (get_or (keys_at cs) a c.key) (get_or (keys_at cs) b c.key) ≡ Less = Less-from_sorted by_key (keys_at cs) a b c.key rising lt (omega arith) in
    let tie : by_key c.key c.key ≡ Equal = tied_itself by_key_total c.key in
    let e : Less ≡ Equal = sym less ∙ (λ i. by_key (one i) ((other ∙ sym same) i)) ∙ tie in
    cc

pub one_place : (cs : List SheetConductor) → IsStrictlySortedBy by_key (keys_at cs) → (a b : ℕ) (c d : SheetConductor) → slice_get cs a ≡ Some c → slice_get cs b ≡ Some d
    → c.key ≡ d.key → a ≡ b
one_place cs rising a b c d first second same = elim (cases_lt a b) [
  | inl lt ↦ absurd (earlier_apart cs rising a b c d first second lt same)
  | inr le ↦ elim (cases_lt b a) [ inl lt ↦ absurd (earlier_apart cs rising b a d c second first lt (sym same)) | inr ge ↦ omega arith ]
]

-- touching goes both ways
do_touch_turn : (a b : Option SheetConductor) → DoTouch a b → DoTouch b a
do_touch_turn None None t = t
do_touch_turn None (Some d) t = t
do_touch_turn (Some c) None t = t
do_touch_turn (Some c) (Some d) t = record { together = sym t.together; touch = touch_turn c.shape d.shape t.touch }

pub touch_at_turn : (cs : List SheetConductor) (i j : ℕ) → TouchAt cs i j → TouchAt cs j i
touch_at_turn cs i j t = do_touch_turn (slice_get cs i) (slice_get cs j) t

-- what touches at two places
pub record Touching (first second : Option SheetConductor) : Type 0 where
  pub one : SheetConductor
  pub other : SheetConductor
  pub first_is : first ≡ Some one
  pub second_is : second ≡ Some other
  pub are : AreTouching one other

pub touching : (a b : Option SheetConductor) → DoTouch a b → Touching a b
touching None None t = absurd t
touching None (Some d) t = absurd t
touching (Some c) None t = absurd t
touching (Some c) (Some d) t = record { one = c; other = d; first_is = refl; second_is = refl; are = t }

module _ (p : ProjectData) (groups : List (Key × Key)) (are : AreGroups (sheet_conductors p) groups) where
  abbrev all : List SheetConductor
  all = sheet_conductors p

  -- the key of the first conductor of a group
  abbrev pub group_key : ℕ → SheetConductor → Key
  group_key a c = (get_or all (get_or are.labels a 0) c).key

  -- the group of a key
  pub group_at : (a : ℕ) (c : SheetConductor) → slice_get all a ≡ Some c → groups_by groups c.key ≡ Some (group_key a c)
  group_at a c at =
      let len = are.are_labels.len in
      group_of_row groups (groups_rise p groups are) a c.key (group_key a c)
      (ap (λ (rows : List (Key × Key)). slice_get rows a) are.are_rows ∙ row_at all all are.labels a c len at)

  label_within : (a : ℕ) (c : SheetConductor) → slice_get all a ≡ Some c → get_or are.labels a 0 < length all
  label_within a c at =
      let within = slice_get_within all a c at in
      let len = are.are_labels.len in
      label_inside (TouchAt all) (length all) are.labels are.are_labels a (omega arith)

  -- one group has one label
  pub label_of_group : (a b : ℕ) (c d : SheetConductor) (group : Key) → slice_get all a ≡ Some c → slice_get all b ≡ Some d
      → groups_by groups c.key ≡ Some group → groups_by groups d.key ≡ Some group → get_or are.labels a 0 ≡ get_or are.labels b 0
  label_of_group a b c d group first second one other =
      let same : group_key a c ≡ group_key b d =
      same_Some (group_key a c) (group_key b d) (sym (group_at a c first) ∙ one ∙ sym other ∙ group_at b d second) in
      one_place all (conductor_keys_rise p) (get_or are.labels a 0) (get_or are.labels b 0) (get_or all (get_or are.labels a 0) c) (get_or all (get_or are.labels b 0) d)
      (slice_get-get_or all (get_or are.labels a 0) c (label_within a c first)) (slice_get-get_or all (get_or are.labels b 0) d (label_within b d second)) same

  -- what touches is in one group
  pub group_of_touching : (a b : ℕ) (c d : SheetConductor) → slice_get all a ≡ Some c → slice_get all b ≡ Some d → TouchAt all a b
      → groups_by groups d.key ≡ Some (group_key a c)
  group_of_touching a b c d first second t =
      let same : get_or are.labels a 0 ≡ get_or are.labels b 0 =
      labels_agree (TouchAt all) (length all) are.labels are.are_labels (touch_at_turn all) a b (slice_get_within all a c first) (slice_get_within all b d second) t in
      group_at b d second
      ∙ ap (λ (n : ℕ). Some (get_or all n d).key) (sym same)
      ∙ ap (λ (x : SheetConductor). Some x.key) (get_or_default all (get_or are.labels a 0) d c (label_within a c first))
