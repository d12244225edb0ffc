-- Steps of the code; no public clause cites them.
-- What is taken of a row, and what a list that is being read keeps.
use Rattle.std.specs.Prelude.{◌≡◌, ◌≤◌, ℕ, Bool, true, false, List, [], ◌∷◌, length, Option, Some, None, Result, Ok, Err}
use Rattle.geda_model.specs.Limits.{most_objects}
use Rattle.geda_model.specs.Data.{TextData}
use Rattle.geda_model.specs.Shapes.{PartData}
use Rattle.geda_model.specs.Sheets.{ObjectData}
use Rattle.geda_model.specs.declared.shape.Shape.{Shape}
use Rattle.geda_model.specs.declared.object.Body.{Body}
use Rattle.geda_grammar.specs.declared.mode.Mode.{Mode}
use Rattle.geda_grammar.specs.declared.mode.Mode.TheVariants.{Settled, Last, Block}
use Rattle.geda_grammar.specs.steps.Levels.{Level}
use Rattle.geda_read.specs.declared.refusal.Refusal.{Refusal}
use Rattle.geda_read.specs.declared.refusal.Refusal.TheVariants as refusals
use Rattle.geda_read.specs.declared.tail.Tail.{Tail}
use Rattle.geda_read.specs.declared.tail.Tail.TheVariants.{Done, Bare, Open}

-- a refusal says that nothing is taken; want of memory says nothing
abbrev pub IsRefused : {Y : Type 0} → Refusal → Option Y → Type 0
IsRefused refusals.NoMemory taken = Unit {0}
IsRefused refusals.Stray taken = taken ≡ None

-- what a function returned, seen by view, is what is taken, unless memory ran out
abbrev pub Takes : {X Y : Type 0} → (X → Y) → Result X Refusal → Option Y → Type 0
Takes view (Ok x) taken = taken ≡ Some (view x)
Takes view (Err e) taken = IsRefused e taken

-- how many a mode stands for
abbrev pub count_of : {B : Type 0} → Mode B → ℕ
count_of Settled = 0
count_of mode = 1

-- whether a block may come, or is open
abbrev pub is_bare : Tail → Bool
is_bare Bare = true
is_bare tail = false

abbrev pub is_open : Tail → Bool
is_open Open = true
is_open tail = false

-- the same as the grammar's mode, without what stands in it
abbrev pub mode_of : Tail → Mode (Unit {0})
mode_of Done = Settled
mode_of Bare = Last tt
mode_of Open = Block tt []

-- a list with its last one apart
abbrev pub with_first : {A B : Type 0} → A → Level A B → Level A B
with_first a l = record { kept = a ∷ l.kept; mode = l.mode }

abbrev pub last_apart : {A B : Type 0} → (A → Mode B) → List A → Level A B
last_apart f [] = record { kept = []; mode = Settled }
last_apart f (a ∷ []) = record { kept = []; mode = f a }
last_apart f (a ∷ b ∷ rest) = with_first a (last_apart f (b ∷ rest))

-- the list and how far its last one is, as the grammar's machine has them
unfoldable pub level_of : {A B : Type 0} → (A → B) → (A → List TextData) → List A → Tail →
    Level A B
level_of body texts items Done = record { kept = items; mode = Settled }
level_of body texts items Bare = last_apart (λ a. Last (body a)) items
level_of body texts items Open = last_apart (λ a. Block (body a) (texts a)) items

-- this holds of the last one, which is there
abbrev pub LastIs : {A : Type 0} → (A → Type 0) → List A → Type 0
LastIs P [] = ⊥
LastIs P (a ∷ []) = P a
LastIs P (a ∷ b ∷ rest) = LastIs P (b ∷ rest)

-- where a block may come, the last one is there and has no text yet
abbrev pub TailStands : {A : Type 0} → (A → List TextData) → List A → Tail → Type 0
TailStands texts items Done = Unit {0}
TailStands texts items Bare = LastIs (λ a. texts a ≡ []) items
TailStands texts items Open = LastIs (λ a. Unit {0}) items

-- a list that is being read: they are not too many
pub record LevelStands {A : Type 0} (texts : A → List TextData) (items : List A) (tail : Tail) :
    Type 0 where
  pub last : TailStands texts items tail
  pub few : length items ≤ most_objects

-- the parts of a symbol
abbrev pub parts_level : List PartData → Tail → Level PartData Shape
parts_level items tail = level_of (λ p. p.shape) (λ p. p.attrs) items tail

abbrev pub PartsStand : List PartData → Tail → Type 0
PartsStand items tail = LevelStands (λ p. p.attrs) items tail

-- the objects of a sheet
abbrev pub objects_level : List ObjectData → Tail → Level ObjectData Body
objects_level items tail = level_of (λ o. o.body) (λ o. o.attrs) items tail

abbrev pub ObjectsStand : List ObjectData → Tail → Type 0
ObjectsStand items tail = LevelStands (λ o. o.attrs) items tail
