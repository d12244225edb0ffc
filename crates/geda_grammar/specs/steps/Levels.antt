-- Steps of the code; no public clause cites them.
-- A list of objects or parts that is being read, row by row (own).
use Rattle.std.specs.Prelude.{ℕ, nat_lt, if◌then◌else◌, List, [], ◌∷◌, ◌++◌, length, Option, Some, None}
use Rattle.std.specs.Option.{option_map}
use Rattle.geda_model.specs.Data.{TextData}
use Rattle.geda_model.specs.declared.shape.Shape.{Shape}
use Rattle.geda_model.specs.declared.shape.Shape.TheVariants.{Text}
use Rattle.geda_grammar.specs.declared.row.Row.{Row}
use Rattle.geda_grammar.specs.declared.row.Row.TheVariants.{Drawn, OpenBlock, CloseBlock}
use Rattle.geda_grammar.specs.declared.mode.Mode.{Mode}
use Rattle.geda_grammar.specs.declared.mode.Mode.TheVariants.{Settled, Last, Block}

-- those before it, and the one that may take a block
pub record Level (A B : Type 0) : Type 0 where
  pub kept : List A
  pub mode : Mode B

-- the text that a shape is, if it is one
abbrev pub text_in : Shape → Option TextData
text_in (Text t) = Some t
text_in shape = None

-- all of them, where they are fewer than so many and no block is open
abbrev pub room : {A B : Type 0} → (B → List TextData → A) → ℕ → List A → Mode B → Option (List A)
room make most kept Settled = if nat_lt (length kept) most then Some kept else None
room make most kept (Last c) =
    if nat_lt (length (kept ++ make c [] ∷ [])) most then Some (kept ++ make c [] ∷ []) else None
room make most kept (Block c ts) = None

-- one more, which may take a block
abbrev pub begun : {A B : Type 0} → B → List A → Level A B
begun b items = record { kept = items; mode = Last b }

-- one more, where there is room
abbrev pub push : {A B : Type 0} → (B → List TextData → A) → ℕ → B → List A → Mode B →
    Option (Level A B)
push make most b kept mode = option_map (begun b) (room make most kept mode)

-- one more text of the block
abbrev pub with_text : {A B : Type 0} → List A → B → List TextData → Option TextData →
    Option (Level A B)
with_text kept b ts None = None
with_text kept b ts (Some t) = Some (record { kept = kept; mode = Block b (ts ++ t ∷ []) })

-- a shape: a text of the block that is open, else one more
abbrev pub put : {A B : Type 0} → (B → List TextData → A) → (Shape → B) → ℕ → Shape → List A →
    Mode B → Option (Level A B)
put make wrap most s kept Settled = push make most (wrap s) kept Settled
put make wrap most s kept (Last c) = push make most (wrap s) kept (Last c)
put make wrap most s kept (Block c ts) = with_text kept c ts (text_in s)

-- `{` behind one that may take a block
abbrev pub open_block : {A B : Type 0} → List A → Mode B → Option (Level A B)
open_block kept (Last b) = Some (record { kept = kept; mode = Block b [] })
open_block kept mode = None

-- `}` in a block
abbrev pub close_block : {A B : Type 0} → (B → List TextData → A) → List A → Mode B →
    Option (Level A B)
close_block make kept Settled = None
close_block make kept (Last b) = None
close_block make kept (Block b ts) = Some (record { kept = kept ++ make b ts ∷ []; mode = Settled })

-- those that are there where no block is open
abbrev pub closed : {A B : Type 0} → (B → List TextData → A) → List A → Mode B → Option (List A)
closed make kept Settled = Some kept
closed make kept (Last b) = Some (kept ++ make b [] ∷ [])
closed make kept (Block b ts) = None

-- what a row changes among shapes
abbrev pub level_step : {A B : Type 0} → (B → List TextData → A) → (Shape → B) → ℕ → List A →
    Mode B → Row → Option (Level A B)
level_step make wrap most kept mode (Drawn s) = put make wrap most s kept mode
level_step make wrap most kept mode OpenBlock = open_block kept mode
level_step make wrap most kept mode CloseBlock = close_block make kept mode
level_step make wrap most kept mode row = None
