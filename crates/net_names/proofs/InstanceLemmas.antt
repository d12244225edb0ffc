-- The groups of the conductors of sheets are groups in each instance: a chain of touching conductors
-- of a sheet is one in each instance of the sheet.
use Rattle.std.proofs.Common.{◌≡◌, ℕ, zero, suc, true, List, Option, Some, None, get_or, is_some, refl, sym, ap, ◌∙◌, subst, inl, true≢false}
use Rattle.std.specs.List.{slice_get}
use Rattle.std.proofs.lemmas.Option.{get_or_from_slice_get, same_Some, slice_get_within}
use Rattle.geda_defs.specs.Classes.{Chain, Joined}
use Rattle.geda_geom.specs.declared.conductor.Conductor.{Conductor}
use Rattle.geda_geom.specs.declared.conductor.Conductor.TheVariants.{Segment, End}
use Rattle.geda_geom.specs.declared.conductor.Key.{Key}
use Rattle.geda_geom.specs.Touch.{Touch}
use Rattle.project_model.specs.Projects.{ProjectData}
use Rattle.hierarchy.specs.declared.instances.Instance.{Instance}
use Rattle.hierarchy.specs.Instances.{instances_of}
use Rattle.sheet_groups.specs.Conductors.{SheetConductor, sheet_conductors}
use Rattle.sheet_groups.specs.Groups.{AreGroups, AreTouching as AreTouchingOnSheet, DoTouch, TouchAt}
use Rattle.flat_rows.specs.Conductors.{FlatConductor}
use Rattle.link_classes.specs.InstanceGroups.{AreGrouped, AreInstanceGroups, groups_by}
use Rattle.link_classes.specs.Links.{AreTouching, AtPlaces, ShapesTouch}
use Rattle.flat_sheets.specs.Conductors.{conductors_of}
use Rattle.pair_classes.proofs.LabelLemmas.{joined_back, joined_by, joined_self, joined_then}
use Rattle.net_names.proofs.DrawnLemmas.{IsDrawnAs, down, up}
use Rattle.net_names.proofs.GroupLemmas.{group_at, group_key, group_of_touching, label_of_group, touch_at_turn, touching}
use Rattle.net_names.proofs.PlaceLemmas.{at_place, is_there, place_in}

-- a conductor touches itself
touch_itself : (a : Conductor) → Touch a a
touch_itself (Segment p q) = inl (inl (inl (refl, refl)))
touch_itself (End at) = inl (refl, refl)

-- what is drawn has a shape
shape_there : (o : Option Conductor) → is_some o ≡ true → (s : Conductor) × (o ≡ Some s)
shape_there None e = absurd (true≢false (sym e))
shape_there (Some s) e = (s, refl)

-- shapes that touch
record Shapes (first second : Option Conductor) : Type 0 where
  one : Conductor
  other : Conductor
  first_is : first ≡ Some one
  second_is : second ≡ Some other
  touch : Touch one other

shapes_there : (a b : Option Conductor) → ShapesTouch a b → Shapes a b
shapes_there None None t = absurd t
shapes_there None (Some s) t = absurd t
shapes_there (Some s) None t = absurd t
shapes_there (Some s) (Some r) t = record { one = s; other = r; first_is = refl; second_is = refl; touch = t }

-- what is related stands at its places, and back
pub at_places : (R : FlatConductor → FlatConductor → Type 0) (fs : List FlatConductor) (i j : ℕ) (f g : FlatConductor) → slice_get fs i ≡ Some f → slice_get fs j ≡ Some g
    → R f g → AtPlaces R fs i j
at_places R fs i j f g first second r = record {
  first = slice_get_within fs i f first;
  second = slice_get_within fs j g second;
  related = λ d.
      subst (λ (x : FlatConductor). R x (get_or fs j d)) (sym (get_or_from_slice_get fs i f d first))
      (subst (λ (y : FlatConductor). R f y) (sym (get_or_from_slice_get fs j g d second)) r);
}

of_places : (R : FlatConductor → FlatConductor → Type 0) (fs : List FlatConductor) (i j : ℕ) (f g : FlatConductor) → slice_get fs i ≡ Some f → slice_get fs j ≡ Some g
    → AtPlaces R fs i j → R f g
of_places R fs i j f g first second at =
    subst (λ (y : FlatConductor). R f y) (get_or_from_slice_get fs j g f second)
    (subst (λ (x : FlatConductor). R x (get_or fs j f)) (get_or_from_slice_get fs i f f first) (at.related f))

-- what stands at a place of all conductors is what stands at a place of those of sheets, in the
-- instance at a place
record StandsFor (p : ProjectData) (m i a : ℕ) : Type 0 where
  flat : FlatConductor
  conductor : SheetConductor
  flat_at : slice_get (conductors_of p) i ≡ Some flat
  at : slice_get (sheet_conductors p) a ≡ Some conductor
  together : flat.instance ≡ m
  drawn : IsDrawnAs p flat conductor

module _ (p : ProjectData) where
  abbrev Links : ℕ → ℕ → Type 0
  Links = AtPlaces AreTouching (conductors_of p)

  linked : (m i j a b : ℕ) (x : StandsFor p m i a) (y : StandsFor p m j b) → Touch x.conductor.shape y.conductor.shape → Links i j
  linked m i j a b x y touch =
      let shapes : ShapesTouch x.flat.shape y.flat.shape =
      subst (λ (o : Option Conductor). ShapesTouch o y.flat.shape) (sym x.drawn.shape)
      (subst (λ (o : Option Conductor). ShapesTouch (Some x.conductor.shape) o) (sym y.drawn.shape) touch) in
      at_places AreTouching (conductors_of p) i j x.flat y.flat x.flat_at y.flat_at (record { together = x.together ∙ sym y.together; touch = shapes })

  -- what a link of the sheet leads to stands in the instance too
  next : (m i a b : ℕ) → StandsFor p m i a → TouchAt (sheet_conductors p) a b → (j : ℕ) × StandsFor p m j b × Links i j
  next m i a b x t =
      let pair = touching (slice_get (sheet_conductors p) a) (slice_get (sheet_conductors p) b) t in
      let same : pair.one ≡ x.conductor = same_Some pair.one x.conductor (sym pair.first_is ∙ x.at) in
      let sheet : pair.other.sheet ≡ x.drawn.instance.sheet = sym pair.are.together ∙ ap (λ (c : SheetConductor). c.sheet) same ∙ x.drawn.sheet in
      let at : slice_get (instances_of p) m ≡ Some x.drawn.instance = ap (slice_get (instances_of p)) (sym x.together) ∙ x.drawn.at in
      let there = up p m x.drawn.instance pair.other at (is_there (sheet_conductors p) b pair.other pair.second_is) sheet in
      let place = place_in (conductors_of p) there.0 there.1 in
      let y : StandsFor p m place.0 b = record { flat = there.0; conductor = pair.other; flat_at = place.1; at = pair.second_is; together = there.2; drawn = there.3 } in
      (place.0, y, linked m i place.0 a b x y (subst (λ (c : SheetConductor). Touch c.shape pair.other.shape) same pair.are.touch))

  -- so does what a chain leads to
  chain_in : (m i a n b : ℕ) → StandsFor p m i a → Chain (TouchAt (sheet_conductors p)) a n b → (j : ℕ) × StandsFor p m j b × Joined Links i j
  chain_in m i a zero b x e = (i, subst (λ (q : ℕ). StandsFor p m i q) e x, joined_self Links i)
  chain_in m i a (suc n) b x c =
      let before = chain_in m i a n c.0 x c.1 in
      let more = next m before.0 c.0 b before.1 c.2 in
      (more.0, more.1, joined_then Links i before.0 more.0 before.2 (joined_by Links before.0 more.0 more.2))

  joined_in : (m i j a b : ℕ) → StandsFor p m i a → StandsFor p m j b → Joined (TouchAt (sheet_conductors p)) a b → Joined Links i j
  joined_in m i j a b x y joined =
      let there = chain_in m i a joined.0 b x joined.1 in
      let same : there.1.conductor ≡ y.conductor = same_Some there.1.conductor y.conductor (sym there.1.at ∙ y.at) in
      let touch = subst (λ (c : SheetConductor). Touch c.shape y.conductor.shape) (sym same) (touch_itself y.conductor.shape) in
      joined_then Links i there.0 j there.2 (joined_by Links there.0 j (linked m there.0 j b b there.1 y touch))

  -- what is drawn stands for something
  stands_for : (i : ℕ) (f : FlatConductor) (s : Conductor) → slice_get (conductors_of p) i ≡ Some f → f.shape ≡ Some s → (a : ℕ) × StandsFor p f.instance i a
  stands_for i f s at shape =
      let c = down p f (is_there (conductors_of p) i f at) s shape in
      let place = place_in (sheet_conductors p) c.0 c.1.stands in
      (place.0, record { flat = f; conductor = c.0; flat_at = at; at = place.1; together = refl; drawn = c.1 })

  -- it has the key and the shape of that
  key_of : (m i a : ℕ) (x : StandsFor p m i a) (f : FlatConductor) → slice_get (conductors_of p) i ≡ Some f → f.key ≡ x.conductor.key
  key_of m i a x f at = ap (λ (g : FlatConductor). g.key) (same_Some f x.flat (sym at ∙ x.flat_at)) ∙ x.drawn.key

  shape_of : (m i a : ℕ) (x : StandsFor p m i a) (f : FlatConductor) (s : Conductor) → slice_get (conductors_of p) i ≡ Some f → f.shape ≡ Some s → s ≡ x.conductor.shape
  shape_of m i a x f s at shape =
      same_Some s x.conductor.shape (sym shape ∙ ap (λ (g : FlatConductor). g.shape) (same_Some f x.flat (sym at ∙ x.flat_at)) ∙ x.drawn.shape)

  module _ (groups : List (Key × Key)) (are : AreGroups (sheet_conductors p) groups) where
    abbrev Grouped : FlatConductor → FlatConductor → Type 0
    Grouped = AreGrouped (groups_by groups)

    sound : (i j : ℕ) → AtPlaces Grouped (conductors_of p) i j → Joined Links i j
    sound i j places =
        let all = sheet_conductors p in
        let f = at_place (conductors_of p) i places.first in
        let g = at_place (conductors_of p) j places.second in
        let both = of_places Grouped (conductors_of p) i j f.0 g.0 f.1 g.1 places in
        let s = shape_there f.0.shape both.first.drawn in
        let r = shape_there g.0.shape both.second.drawn in
        let one = stands_for i f.0 s.0 f.1 s.1 in
        let other = stands_for j g.0 r.0 g.1 r.1 in
        let x = one.1 in
        let y : StandsFor p f.0.instance j other.0 = subst (λ (m : ℕ). StandsFor p m j other.0) (sym both.together) other.1 in
        let first = key_of f.0.instance i one.0 x f.0 f.1 in
        let second = key_of f.0.instance j other.0 y g.0 g.1 in
        let label = label_of_group p groups are one.0 other.0 x.conductor y.conductor both.group x.at y.at
        (ap (groups_by groups) (sym first) ∙ both.first.has) (ap (groups_by groups) (sym second) ∙ both.second.has) in
        let touch = TouchAt all in
        let there = are.are_labels.chain one.0 (slice_get_within all one.0 x.conductor x.at) in
        let back = joined_back touch (touch_at_turn all) other.0 (get_or are.labels other.0 0) (are.are_labels.chain other.0 (slice_get_within all other.0 y.conductor y.at)) in
        joined_in f.0.instance i j one.0 other.0 x y
        (joined_then touch one.0 (get_or are.labels one.0 0) other.0 there (subst (λ (n : ℕ). Joined touch n other.0) (sym label) back))

    full : (i j : ℕ) → Links i j → AtPlaces Grouped (conductors_of p) i j
    full i j places =
        let all = sheet_conductors p in
        let f = at_place (conductors_of p) i places.first in
        let g = at_place (conductors_of p) j places.second in
        let both = of_places AreTouching (conductors_of p) i j f.0 g.0 f.1 g.1 places in
        let shapes = shapes_there f.0.shape g.0.shape both.touch in
        let one = stands_for i f.0 shapes.one f.1 shapes.first_is in
        let other = stands_for j g.0 shapes.other g.1 shapes.second_is in
        let x = one.1 in
        let y = other.1 in
        let c = x.conductor in
        let d = y.conductor in
        let first = shape_of f.0.instance i one.0 x f.0 shapes.one f.1 shapes.first_is in
        let second = shape_of g.0.instance j other.0 y g.0 shapes.other g.1 shapes.second_is in
        let instances = instances_of p in
        let instance : x.drawn.instance ≡ y.drawn.instance = same_Some x.drawn.instance y.drawn.instance
        (sym x.drawn.at ∙ ap (slice_get instances) (x.together ∙ both.together ∙ sym y.together) ∙ y.drawn.at) in
        let touch : Touch c.shape d.shape =
        subst (λ (q : Conductor). Touch q d.shape) first (subst (λ (q : Conductor). Touch shapes.one q) second shapes.touch) in
        let sheets : AreTouchingOnSheet c d = record { together = x.drawn.sheet ∙ ap (λ (k : Instance). k.sheet) instance ∙ sym y.drawn.sheet; touch = touch } in
        let at : TouchAt all one.0 other.0 =
        subst (λ (o : Option SheetConductor). DoTouch o (slice_get all other.0)) (sym x.at) (subst (λ (o : Option SheetConductor). DoTouch (Some c) o) (sym y.at) sheets) in
        at_places Grouped (conductors_of p) i j f.0 g.0 f.1 g.1 (record {
          together = both.together;
          group = group_key p groups are one.0 c;
          first = record {
            drawn = ap is_some shapes.first_is;
            has = ap (groups_by groups) (key_of f.0.instance i one.0 x f.0 f.1) ∙ group_at p groups are one.0 c x.at;
          };
          second = record {
            drawn = ap is_some shapes.second_is;
            has = ap (groups_by groups) (key_of g.0.instance j other.0 y g.0 g.1) ∙ group_of_touching p groups are one.0 other.0 c d x.at y.at at;
          };
        })

    -- the groups of the sheets are those of each instance
    pub instance_groups : AreInstanceGroups (conductors_of p) (groups_by groups)
    instance_groups = record { sound = sound; full = full }
