-- What each object adds to the conductors and the listed parts of a project.
use Rattle.std.proofs.Common.{◌≡◌, ℕ, Bool, true, false, List, [], ◌∷◌, ◌++◌, Option, Some, None, map, refl, sym, ap, subst, ◌∙◌}
use Rattle.std.specs.Prelude.{filter, not, is_some}
use Rattle.std.specs.List.{cons_option, filter_map, flat_map}
use Rattle.std.specs.Option.{option_to_list}
use Rattle.geda_model.specs.declared.shape.Shape.{Shape}
use Rattle.geda_model.specs.declared.object.Body.TheVariants as bodies
use Rattle.geda_model.specs.Data.{TextData}
use Rattle.geda_model.specs.Shapes.{ComponentData}
use Rattle.geda_model.specs.Sheets.{ObjectData}
use Rattle.project_model.specs.Projects.{ProjectData}
use Rattle.attr_rules.specs.Attributes.{attrs, attached, or_else}
use Rattle.attr_rules.specs.Libraries.{library_of}
use Rattle.pin_place.specs.declared.pins.PlacedPin.{PlacedPin}
use Rattle.pin_place.specs.Pins.{is_drawn, pins_of}
use Rattle.instance_objects.specs.Occurrences.{FlatObject, OccurrenceData, object_at}
use Rattle.instance_objects.proofs.FlatObjects.{with_body, with_body-same}
use Rattle.net_list.specs.declared.package.Package.{Package}
use Rattle.flat_sheets.specs.ListedParts.{listed_part}
use Rattle.flat_sheets.specs.Conductors.{RoleData, drawn_of, hidden_of, hidden_pins, pin_conductor}
use Rattle.flat_sheets.specs.steps.ObjectContents.{drawn_if, drawn_in, drawn_of_component, drawn_pin, hidden_if, hidden_in, hidden_of_component, hidden_pin, part_if, parts_in, role_at}

or_else-none : (values : List (List ℕ)) → or_else values [] ≡ values
or_else-none [] = refl
or_else-none (v ∷ vs) = refl

-- a shape inherits nothing
attrs-shape : (name : List ℕ) (s : Shape) (texts : List TextData)
    → attrs (record { body = bodies.Shape s; attrs = texts }) None name ≡ attached (record { body = bodies.Shape s; attrs = texts }) name
unfolding attrs
attrs-shape name s texts = or_else-none _

-- the attributes of a shape are the attached ones
pub attrs-of_shape : (name : List ℕ) (o : ObjectData) (s : Shape) → o.body ≡ bodies.Shape s → attrs o None name ≡ attached o name
attrs-of_shape name o s e = rw e (attrs-shape name s o.attrs)

module _ (place id : ℕ) (role : RoleData) where
  -- the drawn pins of a component
  drawn_pins-are : (pins : List PlacedPin) → map (pin_conductor place id role) (filter is_drawn pins) ≡ flat_map (drawn_pin place id role) pins
  drawn_pins-are [] = refl
  drawn_pins-are (pin ∷ pins) = by (is_drawn pin) refl (drawn_pins-are pins)
    where
      by : (b : Bool) → is_drawn pin ≡ b
          → map (pin_conductor place id role) (filter is_drawn pins) ≡ flat_map (drawn_pin place id role) pins
          → map (pin_conductor place id role) (filter is_drawn (pin ∷ pins)) ≡ flat_map (drawn_pin place id role) (pin ∷ pins)
      by true e h = rw e (ap (λ rest. pin_conductor place id role pin ∷ rest) h)
      by false e h = rw e h

  -- its hidden pins, where it is a listed part
  hidden_pins-are : is_some role.refdes ≡ true → (pins : List PlacedPin)
      → map (pin_conductor place id role) (filter (λ pin. not (is_drawn pin)) pins) ≡ flat_map (hidden_pin place id role) pins
  hidden_pins-are listed [] = refl
  hidden_pins-are listed (pin ∷ pins) = by (is_drawn pin) refl (hidden_pins-are listed pins)
    where
      by : (b : Bool) → is_drawn pin ≡ b
          → map (pin_conductor place id role) (filter (λ pin. not (is_drawn pin)) pins) ≡ flat_map (hidden_pin place id role) pins
          → map (pin_conductor place id role) (filter (λ pin. not (is_drawn pin)) (pin ∷ pins)) ≡ flat_map (hidden_pin place id role) (pin ∷ pins)
      by true e h = rw (e, listed) h
      by false e h = rw (e, listed) (ap (λ rest. pin_conductor place id role pin ∷ rest) h)

  -- one that is none has none
  no_hidden_pins : is_some role.refdes ≡ false → (pins : List PlacedPin) → flat_map (hidden_pin place id role) pins ≡ []
  no_hidden_pins unlisted [] = refl
  no_hidden_pins unlisted (pin ∷ pins) = rw unlisted (no_hidden_pins unlisted pins)

module _ (p : ProjectData) where
  drawn_of-pins : (f : FlatObject) → map (pin_conductor f.place f.id (role_at p f)) (filter is_drawn (pins_of f.object (library_of p f.object))) ≡ drawn_of_component p f
  drawn_of-pins f = drawn_pins-are f.place f.id (role_at p f) (pins_of f.object (library_of p f.object))

  hidden_of-pins : (f : FlatObject) → hidden_pins f (library_of p f.object) (role_at p f) ≡ hidden_of_component p f
  hidden_of-pins f = by (is_some (role_at p f).refdes) refl
    where
      by : (b : Bool) → is_some (role_at p f).refdes ≡ b → hidden_pins f (library_of p f.object) (role_at p f) ≡ hidden_of_component p f
      by true e = rw e (hidden_pins-are f.place f.id (role_at p f) e (pins_of f.object (library_of p f.object)))
      by false e = rw e (sym (no_hidden_pins f.place f.id (role_at p f) e (pins_of f.object (library_of p f.object))))

  -- what is drawn of a component
  pub drawn_of-component : (f : FlatObject) (c : ComponentData) → f.object.body ≡ bodies.Component c → drawn_of_component p f ≡ drawn_of p f
  drawn_of-component f c e =
      subst (λ (x : FlatObject). drawn_of_component p x ≡ drawn_of p x) (with_body-same f (bodies.Component c) e) (sym (drawn_of-pins (with_body f (bodies.Component c))))

  -- its hidden pins
  pub hidden_of-component : (f : FlatObject) (c : ComponentData) → f.object.body ≡ bodies.Component c → hidden_of_component p f ≡ hidden_of p f
  hidden_of-component f c e =
      subst (λ (x : FlatObject). hidden_of_component p x ≡ hidden_of p x) (with_body-same f (bodies.Component c) e) (sym (hidden_of-pins (with_body f (bodies.Component c))))

module _ (p : ProjectData) where
  -- what is drawn of the objects that stand there
  pub drawn_in-are : (os : List OccurrenceData) → drawn_in p os ≡ flat_map (drawn_of p) (filter_map (object_at p) os)
  drawn_in-are [] = refl
  drawn_in-are (o ∷ os) = by (object_at p o) (drawn_in-are os)
    where
      by : (f : Option FlatObject) → drawn_in p os ≡ flat_map (drawn_of p) (filter_map (object_at p) os)
          → drawn_if p f ++ drawn_in p os ≡ flat_map (drawn_of p) (cons_option f (filter_map (object_at p) os))
      by None h = h
      by (Some f) h = ap (λ rest. drawn_of p f ++ rest) h

  -- their hidden pins
  pub hidden_in-are : (os : List OccurrenceData) → hidden_in p os ≡ flat_map (hidden_of p) (filter_map (object_at p) os)
  hidden_in-are [] = refl
  hidden_in-are (o ∷ os) = by (object_at p o) (hidden_in-are os)
    where
      by : (f : Option FlatObject) → hidden_in p os ≡ flat_map (hidden_of p) (filter_map (object_at p) os)
          → hidden_if p f ++ hidden_in p os ≡ flat_map (hidden_of p) (cons_option f (filter_map (object_at p) os))
      by None h = h
      by (Some f) h = ap (λ rest. hidden_of p f ++ rest) h

  part_first : (part : Option Package) (parts : List Package) → option_to_list part ++ parts ≡ cons_option part parts
  part_first None parts = refl
  part_first (Some part) parts = refl

  -- the listed parts among them
  pub parts_in-are : (os : List OccurrenceData) → parts_in p os ≡ filter_map (listed_part p) (filter_map (object_at p) os)
  parts_in-are [] = refl
  parts_in-are (o ∷ os) = by (object_at p o) (parts_in-are os)
    where
      by : (f : Option FlatObject) → parts_in p os ≡ filter_map (listed_part p) (filter_map (object_at p) os)
          → part_if p f ++ parts_in p os ≡ filter_map (listed_part p) (cons_option f (filter_map (object_at p) os))
      by None h = h
      by (Some f) h = ap (λ rest. option_to_list (listed_part p f) ++ rest) h ∙ part_first (listed_part p f) (filter_map (listed_part p) (filter_map (object_at p) os))
