-- What is told of the drawn pins of a component that has those of its library symbol.
use Rattle.std.proofs.Common.{◌≡◌, ◌∙◌, ℕ, ◌+◌, List, [], ◌∷◌, ◌++◌, Option, None, filter, map, refl, ap, sym}
use Rattle.std.specs.Prelude.{codes, length, not}
use Rattle.std.specs.List.{cons_option, filter_map}
use Rattle.geda_model.specs.declared.object.Body.TheVariants as bodies
use Rattle.geda_model.specs.Shapes.{ComponentData}
use Rattle.geda_model.specs.Sheets.{ObjectData, SymbolData}
use Rattle.attr_rules.specs.Attributes.{attr}
use Rattle.attr_rules.specs.declared.nets.NetEntry.{NetEntry}
use Rattle.pin_place.specs.declared.pins.PlacedPin.{PlacedPin}
use Rattle.pin_place.specs.SymbolPins.{SymbolPin, symbol_pins}
use Rattle.pin_place.specs.GlobalNames.{mentioned}
use Rattle.pin_place.specs.Pins.{has_number, hidden_pin, is_drawn}
use Rattle.pin_place.specs.Plans.{IsPlain, drawn_plan, hidden_plan, library_parts, plan_entries, plan_from, plan_numbers, plan_pin, put_pin}
use Rattle.pin_place.proofs.PlanLaws.{pins_of-plan}
use Rattle.component_checks.specs.steps.ToldPins.{AreAlike, drawn_of, unknown_number}

-- hidden pins are not drawn
no_hidden : (entries : List NetEntry) (numbers : List (List ℕ)) → filter is_drawn (map (hidden_pin entries) numbers) ≡ []
no_hidden entries [] = refl
no_hidden entries (n ∷ ns) = no_hidden entries ns

module _ (c : ComponentData) where
  -- placed ones are, and hidden ones behind them are left out
  drawn_first : (numbers : List (List ℕ)) (entries : List NetEntry) (place : ℕ) (pins : List SymbolPin) (hidden : List PlacedPin) → filter is_drawn hidden ≡ []
      → filter is_drawn (map (put_pin c) (plan_from numbers entries place pins) ++ hidden) ≡ map (put_pin c) (plan_from numbers entries place pins)
  drawn_first numbers entries place [] hidden none = none
  drawn_first numbers entries place (pin ∷ pins) hidden none =
      ap (λ (rest : List PlacedPin). put_pin c (plan_pin numbers entries place pin) ∷ rest) (drawn_first numbers entries (place + 1) pins hidden none)

  drawn_of-plan : (library : Option SymbolData) (slot : Option (List ℕ))
      → filter is_drawn (map (put_pin c) (drawn_plan library slot) ++ hidden_plan library slot) ≡ map (put_pin c) (drawn_plan library slot)
  unfolding drawn_plan hidden_plan
  drawn_of-plan library slot =
      drawn_first (plan_numbers library slot) (plan_entries library) 0 (symbol_pins (library_parts library)) _
      (no_hidden (plan_entries library) (filter (λ (n : List ℕ). not (has_number (drawn_plan library slot) n)) (mentioned (plan_entries library))))

  -- placing changes neither how many there are, nor their numbers and kinds
  same_count : (pins : List PlacedPin) → length (map (put_pin c) pins) ≡ length pins
  same_count [] = refl
  same_count (pin ∷ pins) = rw (same_count pins) refl

  same_unknown : (pins : List PlacedPin) → filter_map unknown_number (map (put_pin c) pins) ≡ filter_map unknown_number pins
  same_unknown [] = refl
  same_unknown (pin ∷ pins) = ap (cons_option (unknown_number pin)) (same_unknown pins)

-- the drawn pins of its symbol under its slot, and those of the component itself
pub plan_alike : (o : ObjectData) (library : Option SymbolData) (c : ComponentData) → o.body ≡ bodies.Component c → c.embedded ≡ None → IsPlain o library
    → (slot : Option (List ℕ)) → slot ≡ attr o library (codes "slot") → (pins : List PlacedPin) → pins ≡ drawn_plan library slot → AreAlike pins (drawn_of o library)
plan_alike o library c body alone plain slot is pins are =
    let own = attr o library (codes "slot") in
    let placed : drawn_of o library ≡ map (put_pin c) pins = ap (filter is_drawn) (pins_of-plan o library c body alone plain) ∙ drawn_of-plan c library own
    ∙ ap (λ (s : Option (List ℕ)). map (put_pin c) (drawn_plan library s)) (sym is) ∙ ap (map (put_pin c)) (sym are) in
    record {
      count = sym (ap (λ (ps : List PlacedPin). length ps) placed ∙ same_count c pins);
      unknown = sym (ap (filter_map unknown_number) placed ∙ same_unknown c pins);
    }
