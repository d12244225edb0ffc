-- Steps of the code; no public clause cites them.
-- The things of a change as sets of ids and of names of symbols.
use Rattle.std.specs.Prelude.{◌≡◌, ℕ, Bool, true, false, cond, List}
use Rattle.std.specs.BTreeSet.{BTreeSet, contains}
use Rattle.std.specs.Ordering.{nat_cmp}
use Rattle.project_model.specs.declared.change.Thing.{Thing}
use Rattle.project_model.specs.Items.{Item}
use Rattle.board_core.specs.Changed.{has_thing, is_object, is_symbol}

-- the set has this id
abbrev pub has_id : BTreeSet ℕ → ℕ → Bool
has_id ids = contains nat_cmp ids

-- sets of ids and of names that have exactly the objects and the symbols of a change
pub record HasThings (items : List Item) (ids : ℕ → Bool) (symbols : List ℕ → Bool)
    : Type 0 where
  pub objects : (id : ℕ) → ids id ≡ has_thing (is_object id) items
  pub names : (name : List ℕ) → symbols name ≡ has_thing (is_symbol name) items

-- the ids with that of one more thing, if it is an object
abbrev pub AddsId : Thing → (ℕ → Bool) → (ℕ → Bool) → Type 0
AddsId thing old new = (id : ℕ) → new id ≡ cond (is_object id thing) true (old id)

-- the names with that of one more thing, if it is a symbol
abbrev pub AddsSymbol : Thing → (List ℕ → Bool) → (List ℕ → Bool) → Type 0
AddsSymbol thing old new = (name : List ℕ) → new name ≡ cond (is_symbol name thing) true (old name)

-- no symbol is among the things of a change
abbrev pub HasNoSymbol : List Item → Type 0
HasNoSymbol items = (name : List ℕ) → has_thing (is_symbol name) items ≡ false
