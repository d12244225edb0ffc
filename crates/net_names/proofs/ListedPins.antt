-- Each pin of a listed part, drawn or hidden, stands among the conductors in each instance.
use Rattle.std.proofs.Common.{◌≡◌, ◌⊎◌, ℕ, Bool, true, false, List, [], Option, Some, Contains, filter, flat_map, is_some, map, not, option_map, refl, sym, ap, subst, inl, inr}
use Rattle.std.specs.Prelude.{if◌then◌else◌}
use Rattle.std.proofs.lemmas.List.Elements.{Contains-append_left, Contains-append_right}
use Rattle.std.proofs.lemmas.Option.{none-some}
use Rattle.geda_model.specs.declared.object.Body.{Body}
use Rattle.geda_model.specs.declared.object.Body.TheVariants as bodies
use Rattle.geda_model.specs.Sheets.{SymbolData}
use Rattle.project_model.specs.Projects.{ProjectData}
use Rattle.attr_rules.specs.Libraries.{library_of}
use Rattle.hierarchy.proofs.ListLemmas.{contains_flat_map, contains_map}
use Rattle.pin_place.specs.declared.pins.PlacedPin.{PlacedPin}
use Rattle.pin_place.specs.Pins.{is_drawn, pins_of}
use Rattle.flat_rows.specs.Conductors.{FlatConductor}
use Rattle.flat_sheets.specs.Conductors.{conductors_of, drawn_of, drawn_pins, hidden_of, hidden_pins, member_under, pin_conductor, role_of}
use Rattle.flat_sheets.specs.ListedParts.{listed_refdes}
use Rattle.instance_objects.specs.Occurrences.{FlatObject, flat_objects}
use Rattle.instance_objects.proofs.FlatObjects.{with_body}
use Rattle.net_names.specs.NetLaws.{EachPinStands}
use Rattle.net_names.proofs.PlaceLemmas.{contains_filter, place_in}

-- the pin is one of the conductors of the object, drawn or hidden
record IsOneOf (p : ProjectData) (f : FlatObject) (refdes : List ℕ) (pin : PlacedPin) : Type 0 where
  conductor : FlatConductor
  there : Contains (drawn_of p f) conductor ⊎ Contains (hidden_of p f) conductor
  prints : conductor.member ≡ Some (member_under pin refdes)

module _ (p : ProjectData) where
  -- a pin of a component that is listed is drawn or hidden
  drawn_or_hidden : (f : FlatObject) (library : Option SymbolData) (refdes : List ℕ) (pin : PlacedPin) → (role_of p f library).refdes ≡ Some refdes
      → Contains (pins_of f.object library) pin
      → Contains (drawn_pins p f library) (pin_conductor f.place f.id (role_of p f library) pin)
      ⊎ Contains (hidden_pins f library (role_of p f library)) (pin_conductor f.place f.id (role_of p f library) pin)
  drawn_or_hidden f library refdes pin listed has = by (is_drawn pin) refl
    where
      by : (b : Bool) → is_drawn pin ≡ b
          → Contains (drawn_pins p f library) (pin_conductor f.place f.id (role_of p f library) pin)
          ⊎ Contains (hidden_pins f library (role_of p f library)) (pin_conductor f.place f.id (role_of p f library) pin)
      by true e =
          let pins = pins_of f.object library in
          inl (contains_map (pin_conductor f.place f.id (role_of p f library)) (filter is_drawn pins) pin (contains_filter is_drawn pins pin has e))
      by false e =
          let pins = pins_of f.object library in
          let hidden : PlacedPin → Bool = λ pin. not (is_drawn pin) in
          let conductor = pin_conductor f.place f.id (role_of p f library) in
          inr (subst (λ (b : Bool). Contains (if b then map conductor (filter hidden pins) else []) (conductor pin)) (sym (ap is_some listed))
          (contains_map conductor (filter hidden pins) pin (contains_filter hidden pins pin has (ap not e))))

  pin_of : (f : FlatObject) (refdes : List ℕ) (pin : PlacedPin) → listed_refdes p f ≡ Some refdes
      → Contains (pins_of f.object (library_of p f.object)) pin
      → IsOneOf p f refdes pin
  pin_of f refdes pin = by f.object.body
    where
      by : (body : Body) → listed_refdes p (with_body f body) ≡ Some refdes
          → Contains (pins_of (with_body f body).object (library_of p (with_body f body).object)) pin → IsOneOf p (with_body f body) refdes pin
      by (bodies.Shape s) listed has = absurd (none-some refdes listed)
      by (bodies.Component c) listed has =
          let g = with_body f (bodies.Component c) in
          let library = library_of p g.object in
          record {
            conductor = pin_conductor g.place g.id (role_of p g library) pin;
            there = drawn_or_hidden g library refdes pin listed has;
            prints = ap (option_map (member_under pin)) listed;
          }

  pub each_stands : EachPinStands p
  each_stands f refdes pin there listed has =
      let objects = flat_objects p in
      let one = pin_of f refdes pin listed has in
      let all : Contains (conductors_of p) one.conductor = elim one.there [
        | inl drawn ↦ Contains-append_left (flat_map (drawn_of p) objects) (flat_map (hidden_of p) objects) one.conductor
            (contains_flat_map (drawn_of p) objects f one.conductor there drawn)
        | inr hidden ↦ Contains-append_right (flat_map (drawn_of p) objects) (flat_map (hidden_of p) objects) one.conductor
            (contains_flat_map (hidden_of p) objects f one.conductor there hidden)
      ] in
      let k = place_in (conductors_of p) one.conductor all in
      (k.0, record { conductor = one.conductor; stands = k.1; prints = one.prints })
