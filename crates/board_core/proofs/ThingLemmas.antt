-- The things of a change as sets.
use Rattle.std.proofs.Common.{◌≡◌, ◌||◌, ℕ, ◌+◌, ◌<◌, Bool, true, false, not, List, [], ◌∷◌, length, take, get_or, refl, sym, ap, ◌∙◌, arith}
use Rattle.std.specs.Prelude.{cond}
use Rattle.std.specs.List.{list_any}
use Rattle.std.proofs.lemmas.List.Folds.{list_any_more}
use Rattle.project_model.specs.declared.change.Thing.{Thing}
use Rattle.project_model.specs.Items.{Item}
use Rattle.board_core.specs.Changed.{has_thing, is_object, is_symbol}
use Rattle.board_core.specs.steps.ChangedThings.{AddsId, AddsSymbol, HasThings}
use Rattle.board_core.specs.steps.SymbolNames.{HasNoneKnown, Known}

either : (a b : Bool) → cond b true a ≡ (a || b)
either true true = refl
either true false = refl
either false true = refl
either false false = refl

-- one more thing
has_more : (is : Thing → Bool) (items : List Item) (i : ℕ) (item : Item) (old new : Bool) → i < length items → item ≡ get_or items i item
    → old ≡ has_thing is (take i items) → new ≡ cond (is item.0) true old → new ≡ has_thing is (take (i + 1) items)
has_more is items i item old new lt here had adds =
    adds ∙ either old (is item.0) ∙ ap (λ (b : Bool). b || is item.0) had
    ∙ ap (λ (x : Item). has_thing is (take i items) || is x.0) here
    ∙ sym (list_any_more (λ (x : Item). is x.0) items i item lt)

pub things_more : (items : List Item) (i : ℕ) (item : Item) (ids more_ids : ℕ → Bool) (names more_names : List ℕ → Bool) → i < length items → item ≡ get_or items i item
    → HasThings (take i items) ids names → AddsId item.0 ids more_ids → AddsSymbol item.0 names more_names → HasThings (take (i + 1) items) more_ids more_names
things_more items i item ids more_ids names more_names lt here has adds_id adds_symbol = record {
  objects = λ id. has_more (is_object id) items i item (ids id) (more_ids id) lt here (has.objects id) (adds_id id);
  names = λ name. has_more (is_symbol name) items i item (names name) (more_names name) lt here (has.names name) (adds_symbol name);
}

-- one more item, which is no symbol of a known name
pub none_more : (known : Known) (items : List Item) (i : ℕ) (item : Item) → i < length items → item ≡ get_or items i item
    → HasNoneKnown known (take i items) → ((name : List ℕ) → known name ≡ true → is_symbol name item.0 ≡ false) → HasNoneKnown known (take (i + 1) items)
none_more known items i item lt here had is name e =
    list_any_more (λ (x : Item). is_symbol name x.0) items i item lt
    ∙ ap (λ (x : Item). has_thing (is_symbol name) (take i items) || is_symbol name x.0) (sym here)
    ∙ (λ j. had name e j || is name e j)

pub not_false : (b : Bool) → not b ≡ false → b ≡ true
not_false true e = refl
not_false false e = absurd (let h : true ≡ false = e in cc)

pub none_in_empty : {X : Type 0} (p : X → Bool) (xs : List X) → length xs ≡ 0 → list_any p xs ≡ false
none_in_empty p [] e = refl
none_in_empty p (x ∷ xs) e = absurd (omega (arith, e))
