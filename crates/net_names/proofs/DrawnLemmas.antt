-- What is drawn in the instances of a sheet: the conductors of the sheet, each in each instance.
use Rattle.std.proofs.Common.{◌≡◌, ℕ, Bool, true, false, List, [], ◌∷◌, Option, Some, None, Contains, filter, is_some, map, not, option_map, refl, sym, ap, ◌∙◌, subst, true≢false}
use Rattle.std.specs.Prelude.{All, if◌then◌else◌}
use Rattle.std.specs.FinMap.{entries}
use Rattle.std.specs.List.{filter_map, flat_map, slice_get}
use Rattle.std.proofs.lemmas.List.Elements.{All-append, All-contains, All-contains_itself, All-weaker, Contains-append_left, filter_passes}
use Rattle.std.proofs.lemmas.Option.{none-some}
use Rattle.project_model.specs.declared.change.Placed.{Placed}
use Rattle.geda_model.specs.declared.object.Body.{Body}
use Rattle.geda_model.specs.declared.object.Body.TheVariants as bodies
use Rattle.geda_model.specs.declared.shape.Shape.TheVariants as shapes
use Rattle.geda_model.specs.Sheets.{ObjectData}
use Rattle.project_model.specs.Projects.{ProjectData}
use Rattle.attr_rules.specs.Libraries.{library_of}
use Rattle.geda_geom.specs.declared.conductor.Point.{Point}
use Rattle.geda_geom.specs.declared.conductor.Conductor.{Conductor}
use Rattle.geda_geom.specs.declared.conductor.Conductor.TheVariants.{End}
use Rattle.geda_geom.specs.declared.conductor.Key.{Key}
use Rattle.hierarchy.specs.declared.instances.Instance.{Instance}
use Rattle.hierarchy.specs.Instances.{instances_of}
use Rattle.hierarchy.proofs.ListLemmas.{all_flat_map, all_map, all_none, contains_flat_map, contains_map}
use Rattle.pin_place.specs.declared.pins.PlacedPin.{PlacedPin}
use Rattle.pin_place.specs.Pins.{conductors_of as drawn_on, drawn_end, is_drawn, pins_of}
use Rattle.sheet_groups.specs.Conductors.{SheetConductor, conductors_at, sheet_conductor, sheet_conductors}
use Rattle.flat_rows.specs.Conductors.{FlatConductor}
use Rattle.instance_objects.specs.Occurrences.{FlatObject, flat_objects}
use Rattle.instance_objects.proofs.FlatObjects.{flat, with_body}
use Rattle.flat_sheets.specs.Conductors.{RoleData, conductors_of, drawn_of, hidden_of, pin_conductor, role_of}
use Rattle.net_names.proofs.FlatLemmas.{IsFlat, are_flat, is_flat_in}
use Rattle.net_names.proofs.PlaceLemmas.{of_map}

-- where a conductor stands, and what is drawn
abbrev Seen : Type 0
Seen = ℕ × Key × Option Conductor

abbrev seen : FlatConductor → Seen
seen f = (f.instance, f.key, f.shape)

-- the same of a conductor of an object
abbrev seen_at : ℕ → ℕ → ℕ × Conductor → Seen
seen_at place id drawn = (place, record { id = id; place = drawn.0 }, Some drawn.1)

-- a pin with this end
abbrev with_end : PlacedPin → Option Point → PlacedPin
with_end pin end = record { place = pin.place; end = end; number = pin.number; label = pin.label; kind = pin.kind; nets = pin.nets }

pins_are : (place id : ℕ) (role : RoleData) (pins : List PlacedPin)
    → map seen (map (pin_conductor place id role) (filter is_drawn pins)) ≡ map (seen_at place id) (filter_map drawn_end pins)
pins_are place id role [] = refl
pins_are place id role (pin ∷ pins) = by pin.end (pins_are place id role pins)
  where
    by : (end : Option Point) → map seen (map (pin_conductor place id role) (filter is_drawn pins)) ≡ map (seen_at place id) (filter_map drawn_end pins)
        → map seen (map (pin_conductor place id role) (filter is_drawn (with_end pin end ∷ pins))) ≡ map (seen_at place id) (filter_map drawn_end (with_end pin end ∷ pins))
    by None h = h
    by (Some at) h = ap (λ (rest : List Seen). seen_at place id (pin.place, End at) ∷ rest) h

module _ (p : ProjectData) where
  -- what is drawn of an object in an instance is what is drawn of it on its sheet
  drawn_are : (f : FlatObject) → map seen (drawn_of p f) ≡ map (seen_at f.place f.id) (drawn_on f.object (library_of p f.object))
  drawn_are f = by f.object.body
    where
      by : (body : Body) → map seen (drawn_of p (with_body f body)) ≡ map (seen_at f.place f.id) (drawn_on (with_body f body).object (library_of p (with_body f body).object))
      by (bodies.Shape (shapes.Net x1 y1 x2 y2 color)) = refl
      by (bodies.Shape other) = refl
      by (bodies.Component c) =
          let g = with_body f (bodies.Component c) in
          let library = library_of p g.object in
          pins_are g.place g.id (role_of p g library) (pins_of g.object library)

  -- a hidden pin is not drawn
  abbrev IsHidden : FlatConductor → Type 0
  IsHidden f = f.shape ≡ None

  no_end : (end : Option Point) → not (is_some end) ≡ true → option_map End end ≡ None
  no_end None e = refl
  no_end (Some at) e = absurd (true≢false (sym e))

  hidden_pins_are : (f : FlatObject) (role : RoleData) (pins : List PlacedPin) (b : Bool)
      → All IsHidden (if b then map (pin_conductor f.place f.id role) (filter (λ pin. not (is_drawn pin)) pins) else [])
  hidden_pins_are f role pins true =
      let hidden : PlacedPin → Bool = λ pin. not (is_drawn pin) in
      all_map IsHidden (pin_conductor f.place f.id role) (filter hidden pins)
      (All-weaker (λ (pin : PlacedPin). hidden pin ≡ true) (λ (pin : PlacedPin). IsHidden (pin_conductor f.place f.id role pin)) (λ pin e. no_end pin.end e) (filter hidden pins) (filter_passes hidden pins))
  hidden_pins_are f role pins false = all_none IsHidden

  hidden_are : (f : FlatObject) → All IsHidden (hidden_of p f)
  hidden_are f = by f.object.body
    where
      by : (body : Body) → All IsHidden (hidden_of p (with_body f body))
      by (bodies.Shape s) = all_none IsHidden
      by (bodies.Component c) =
          let g = with_body f (bodies.Component c) in
          let library = library_of p g.object in
          let role = role_of p g library in
          hidden_pins_are g role (pins_of g.object library) (is_some role.refdes)

-- it is this conductor of its sheet, in an instance
pub record IsDrawnAs (p : ProjectData) (f : FlatConductor) (c : SheetConductor) : Type 0 where
  pub stands : Contains (sheet_conductors p) c
  pub key : f.key ≡ c.key
  pub shape : f.shape ≡ Some c.shape
  pub instance : Instance
  pub at : slice_get (instances_of p) f.instance ≡ Some instance
  pub sheet : c.sheet ≡ instance.sheet

-- the object of a conductor of a sheet
record IsOf (p : ProjectData) (c : SheetConductor) : Type 0 where
  row : ℕ × Placed
  drawn : ℕ × Conductor
  stands : Contains (entries p.objects) row
  has : Contains (drawn_on row.1.object (library_of p row.1.object)) drawn
  is : sheet_conductor row drawn ≡ c

module _ (p : ProjectData) where
  are_of : All (IsOf p) (sheet_conductors p)
  are_of =
      let rows = entries p.objects in
      all_flat_map (Contains rows) (IsOf p) (conductors_at p)
      (λ row stands. let drawn = drawn_on row.1.object (library_of p row.1.object) in
      all_map (IsOf p) (sheet_conductor row) drawn
      (All-weaker (Contains drawn) (λ (d : ℕ × Conductor). IsOf p (sheet_conductor row d)) (λ d has. record { row = row; drawn = d; stands = stands; has = has; is = refl }) drawn (All-contains_itself drawn)))
      rows (All-contains_itself rows)

  -- one that is drawn in an instance is one of the sheet
  abbrev Down : FlatConductor → Type 0
  Down f = (s : Conductor) → f.shape ≡ Some s → (c : SheetConductor) × IsDrawnAs p f c

  object_down : (f : FlatObject) → IsFlat p f → (g : FlatConductor) → Contains (drawn_of p f) g → Down g
  object_down f is g c s shape =
      let there : Contains (map seen (drawn_of p f)) (seen g) = contains_map seen (drawn_of p f) g c in
      let d = of_map (seen_at f.place f.id) (drawn_on f.object (library_of p f.object)) (seen g) (subst (λ (xs : List Seen). Contains xs (seen g)) (drawn_are p f) there) in
      let has : Contains (drawn_on is.row.1.object (library_of p is.row.1.object)) d.0 =
      subst (λ (o : ObjectData). Contains (drawn_on o (library_of p o)) d.0) (sym is.object) d.1 in
      let place : f.place ≡ g.instance = ap (λ (x : Seen). x.0) d.2 in
      let key : record { id = f.id; place = d.0.0 } ≡ g.key = ap (λ (x : Seen). x.1) d.2 in
      let same : Some d.0.1 ≡ g.shape = ap (λ (x : Seen). x.2) d.2 in (
        sheet_conductor is.row d.0,
        record {
          stands = contains_flat_map (conductors_at p) (entries p.objects) is.row (sheet_conductor is.row d.0) is.stands
              (contains_map (sheet_conductor is.row) (drawn_on is.row.1.object (library_of p is.row.1.object)) d.0 has);
          key = sym key ∙ ap (λ (id : ℕ). record { id = id; place = d.0.0 }) (sym is.id);
          shape = sym same;
          instance = f.instance;
          at = ap (slice_get (instances_of p)) (sym place) ∙ is.at;
          sheet = is.sheet;
        },
      )

  all_down : All Down (conductors_of p)
  all_down =
      let objects = flat_objects p in
      All-append Down (flat_map (drawn_of p) objects) (flat_map (hidden_of p) objects)
      (all_flat_map (IsFlat p) Down (drawn_of p)
      (λ f is. All-weaker (Contains (drawn_of p f)) Down (object_down f is) (drawn_of p f) (All-contains_itself (drawn_of p f))) objects (are_flat p))
      (all_flat_map (λ (f : FlatObject). Unit {0}) Down (hidden_of p)
      (λ f _. All-weaker (IsHidden p) Down (λ h none s e. absurd (none-some s (sym none ∙ e))) (hidden_of p f) (hidden_are p f)) objects (λ k d h. tt))

  pub down : (f : FlatConductor) → Contains (conductors_of p) f → Down f
  down f c = All-contains Down (conductors_of p) f all_down c

  -- and each one of a sheet is drawn in each instance of the sheet
  pub up : (m : ℕ) (i : Instance) (c : SheetConductor) → slice_get (instances_of p) m ≡ Some i → Contains (sheet_conductors p) c → c.sheet ≡ i.sheet
      → (f : FlatConductor) × Contains (conductors_of p) f × (f.instance ≡ m) × IsDrawnAs p f c
  up m i c at stands sheet =
      let of = All-contains (IsOf p) (sheet_conductors p) c are_of stands in
      let row = of.row in
      let on : row.1.sheet ≡ i.sheet = ap (λ (x : SheetConductor). x.sheet) of.is ∙ sheet in
      let o = flat m i row.0 row.1.object in
      let drawn = drawn_on row.1.object (library_of p row.1.object) in
      let there : Contains (map (seen_at m row.0) drawn) (seen_at m row.0 of.drawn) = contains_map (seen_at m row.0) drawn of.drawn of.has in
      let f = of_map seen (drawn_of p o) (seen_at m row.0 of.drawn) (subst (λ (xs : List Seen). Contains xs (seen_at m row.0 of.drawn)) (sym (drawn_are p o)) there) in
      let place : f.0.instance ≡ m = ap (λ (x : Seen). x.0) f.2 in
      let key : f.0.key ≡ (sheet_conductor row of.drawn).key = ap (λ (x : Seen). x.1) f.2 in
      let shape : f.0.shape ≡ Some of.drawn.1 = ap (λ (x : Seen). x.2) f.2 in (
        f.0,
        Contains-append_left (flat_map (drawn_of p) (flat_objects p)) (flat_map (hidden_of p) (flat_objects p)) f.0
            (contains_flat_map (drawn_of p) (flat_objects p) o f.0 (is_flat_in p m i row at of.stands on) f.1),
        place,
        record {
          stands = stands;
          key = key ∙ ap (λ (x : SheetConductor). x.key) of.is;
          shape = shape ∙ ap (λ (x : SheetConductor). Some x.shape) of.is;
          instance = i;
          at = ap (slice_get (instances_of p)) place ∙ at;
          sheet = sheet;
        },
      )
