-- What is found on pins of kind unknown, by their numbers.
use Rattle.std.proofs.Common.{◌≡◌, ℕ, Bool, true, false, ◌&&◌, cond, List, [], ◌∷◌, ◌++◌, Some, None, map, refl, ap}
use Rattle.std.specs.List.{cons_option, filter_map, flat_map}
use Rattle.attr_rules.specs.declared.kinds.PinKind.TheVariants as kinds
use Rattle.pin_matrix.specs.Matrices.{same_kind}
use Rattle.pin_place.specs.declared.pins.PlacedPin.{PlacedPin}
use Rattle.text_tallies.specs.Levels.{found_if}
use Rattle.drc_findings.specs.declared.finding.Finding.{Finding}
use Rattle.component_checks.specs.CheckedComponents.{CheckedData}
use Rattle.component_checks.specs.OnComponents.{is_listed_part, unknown_pin}
use Rattle.component_checks.specs.steps.FoundBy.{unknown_at}
use Rattle.component_checks.specs.steps.ToldPins.{unknown_number}

module _ (c : CheckedData) where
  one : (number : List ℕ) (numbers : List (List ℕ)) (rest : List Finding) → map (unknown_at c) numbers ≡ rest → (l b : Bool) → l ≡ true
      → map (unknown_at c) (cons_option (cond b (Some number) None) numbers) ≡ found_if (l && b) (unknown_at c number) ++ rest
  one number numbers rest ih true true e = ap (λ (fs : List Finding). unknown_at c number ∷ fs) ih
  one number numbers rest ih true false e = ih
  one number numbers rest ih false b e = absurd (let h = e in cc)

  -- on a listed part
  pub unknown_listed : is_listed_part c ≡ true → (pins : List PlacedPin) → map (unknown_at c) (filter_map unknown_number pins) ≡ flat_map (unknown_pin c) pins
  unknown_listed listed [] = refl
  unknown_listed listed (pin ∷ pins) =
      one pin.number (filter_map unknown_number pins) (flat_map (unknown_pin c) pins) (unknown_listed listed pins) (is_listed_part c) (same_kind pin.kind kinds.Unknown) listed

  no_one : (number : List ℕ) (rest : List Finding) → rest ≡ [] → (l b : Bool) → l ≡ false → found_if (l && b) (unknown_at c number) ++ rest ≡ []
  no_one number rest ih false b e = ih
  no_one number rest ih true b e = absurd (let h = e in cc)

  -- and on no other component
  pub unknown_other : is_listed_part c ≡ false → (pins : List PlacedPin) → flat_map (unknown_pin c) pins ≡ []
  unknown_other other [] = refl
  unknown_other other (pin ∷ pins) =
      no_one pin.number (flat_map (unknown_pin c) pins) (unknown_other other pins) (is_listed_part c) (same_kind pin.kind kinds.Unknown) other
