-- Pins of parts at places, as the pins of components in their roles.
use Rattle.std.proofs.Common.{◌≡◌, ◌∙◌, ◌&&◌, not, ℕ, Bool, true, false, List, [], ◌∷◌, ◌++◌, Option, None, Some, length, refl, sym, ap}
use Rattle.std.specs.Prelude.{if◌then◌else◌, is_some}
use Rattle.std.specs.Option.{option_map}
use Rattle.pin_place.specs.declared.pins.PlacedPin.{PlacedPin}
use Rattle.pin_place.specs.Pins.{is_drawn}
use Rattle.net_list.specs.declared.package.Package.{Package}
use Rattle.flat_rows.specs.Rows.{IsPartOf, conductor_of, member_of, named_conductor, plain_conductor, refdes_at}
use Rattle.flat_sheets.specs.Conductors.{RoleData, member_under, pin_conductor, pins_below}
use Rattle.flat_sheets.specs.declared.conductors.PartRole.{PartRole}
use Rattle.flat_sheets.specs.steps.ObjectContents.{drawn_pin, hidden_pin}
use Rattle.flat_sheets.specs.steps.PartRoles.{HasNoPorts, IsPlaceOf, IsPlainPin, new_pin, pin_row, role_in, row_member}

-- the last part has its refdes
pub refdes_last : (parts : List Package) (part : Package) → refdes_at (parts ++ part ∷ []) (length parts) ≡ part.refdes
refdes_last [] part = refl
refdes_last (p ∷ parts) part = refdes_last parts part

-- a pin has the place of its part
pub pin_has_part : (count : ℕ) (pin : PlacedPin) (part : Option ℕ) → IsPlaceOf count part → IsPartOf count (option_map (row_member pin) part)
pin_has_part count pin None is = is
pin_has_part count pin (Some part) is = is

member_is : (parts : List Package) (pin : PlacedPin) (part : Option ℕ) → option_map (member_of parts) (option_map (row_member pin) part) ≡ option_map (member_under pin) (option_map (refdes_at parts) part)
member_is parts pin None = refl
member_is parts pin (Some part) = refl

-- and is a pin of a component in its role
pub new_pin_is : (parts : List Package) (place id : ℕ) (role : PartRole) (pin : PlacedPin) → conductor_of parts (new_pin place id role pin) ≡ pin_conductor place id (role_in parts role) pin
new_pin_is parts place id role pin =
    let member = member_is parts pin role.part in
    let made = pin_conductor place id (role_in parts role) pin in
    λ i. record {
      instance = made.instance;
      key = made.key;
      shape = made.shape;
      global_names = made.global_names;
      drawn_names = made.drawn_names;
      member = member i;
      leads_down = made.leads_down;
      leads_up = made.leads_up;
      directive = made.directive;
    }

no_pins_below : (place id : ℕ) (label : Option (List ℕ)) → pins_below place id false label ≡ None
no_pins_below place id None = refl
no_pins_below place id (Some label) = refl

-- one without names and ports too
pub plain_pin_is : (parts : List Package) (place id : ℕ) (role : PartRole) (pin : PlacedPin) → IsPlainPin role pin
    → conductor_of parts (plain_conductor (pin_row place id role pin) (option_map (row_member pin) role.part)) ≡ pin_conductor place id (role_in parts role) pin
plain_pin_is parts place id role pin plain =
    let member = member_is parts pin role.part in
    let nets : [] ≡ pin.nets = sym plain.nets in
    let down : None ≡ pins_below place id role.leads_down pin.label = sym (ap (λ (b : Bool). pins_below place id b pin.label) plain.down ∙ no_pins_below place id pin.label) in
    let up : None ≡ role.leads_up = sym plain.up in
    let made = pin_conductor place id (role_in parts role) pin in
    λ i. record {
      instance = made.instance;
      key = made.key;
      shape = made.shape;
      global_names = nets i;
      drawn_names = made.drawn_names;
      member = member i;
      leads_down = down i;
      leads_up = up i;
      directive = made.directive;
    }

-- and one without ports
pub named_pin_is : (parts : List Package) (place id : ℕ) (role : PartRole) (pin : PlacedPin) → HasNoPorts role
    → conductor_of parts (named_conductor (pin_row place id role pin) (option_map (row_member pin) role.part) pin.nets) ≡ pin_conductor place id (role_in parts role) pin
named_pin_is parts place id role pin none =
    let member = member_is parts pin role.part in
    let down : None ≡ pins_below place id role.leads_down pin.label = sym (ap (λ (b : Bool). pins_below place id b pin.label) none.down ∙ no_pins_below place id pin.label) in
    let up : None ≡ role.leads_up = sym none.up in
    let made = pin_conductor place id (role_in parts role) pin in
    λ i. record {
      instance = made.instance;
      key = made.key;
      shape = made.shape;
      global_names = made.global_names;
      drawn_names = made.drawn_names;
      member = member i;
      leads_down = down i;
      leads_up = up i;
      directive = made.directive;
    }

module _ (place id : ℕ) (role : RoleData) (pin : PlacedPin) (drawn : is_drawn pin ≡ true) where
  -- a drawn pin joins as one
  pub drawn_joins : drawn_pin place id role pin ≡ pin_conductor place id role pin ∷ []
  drawn_joins = rw drawn refl

  -- and not as a hidden one
  pub drawn_not_hidden : hidden_pin place id role pin ≡ []
  drawn_not_hidden = rw drawn (by (is_some role.refdes))
    where
      by : (listed : Bool) → (if listed && not true then pin_conductor place id role pin ∷ [] else []) ≡ []
      by true = refl
      by false = refl
