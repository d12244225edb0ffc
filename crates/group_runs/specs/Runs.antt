-- Conductors of several sheets that leave and come one after the other, and what that may cost
-- (own).
use Rattle.std.specs.Prelude.{◌≡◌, ◌+◌, ◌-◌, ◌^◌, ⊤, ℕ, cond, None, List, [], ◌∷◌, length, IsSome, min}
use Rattle.std.specs.FinMap.{get, insert, remove}
use Rattle.std.specs.Str.{bytes_eq}
use Rattle.geda_geom.specs.declared.conductor.Conductor.{Conductor}
use Rattle.geda_geom.specs.declared.conductor.Key.{Key}
use Rattle.net_flood.specs.Grouping.{Conductors, IsGroup}

-- a sheet is known by the bytes of its name
abbrev pub SheetName : Type 0
SheetName = List ℕ

-- the conductors of each sheet
abbrev pub BySheet : Type 0
BySheet = SheetName → Conductors

-- a conductor that leaves, by its sheet and its key
abbrev pub Leaving : Type 0
Leaving = SheetName × Key

-- a conductor that comes
abbrev pub Coming : Type 0
Coming = SheetName × (Key × Conductor)

-- one sheet has other conductors, and each other sheet what it had
abbrev pub with_sheet : BySheet → SheetName → Conductors → BySheet
with_sheet at sheet cs = λ s. cond (bytes_eq sheet s) cs (at s)

-- without one conductor
abbrev pub less : BySheet → Leaving → BySheet
less at l = with_sheet at l.0 (remove (at l.0) l.1)

-- with one conductor more
abbrev pub more : BySheet → Coming → BySheet
more at c = with_sheet at c.0 (insert (at c.0) c.1.0 c.1.1)

-- what is left when conductors have left one after the other
abbrev pub without : BySheet → List Leaving → BySheet
without at [] = at
without at (l ∷ ls) = without (less at l) ls

-- what is there when conductors have come one after the other
abbrev pub with_all : BySheet → List Coming → BySheet
with_all at [] = at
with_all at (c ∷ cs) = with_all (more at c) cs

-- each is there when its turn to leave comes
abbrev pub AreThere : BySheet → List Leaving → Type 0
AreThere at [] = ⊤
AreThere at (l ∷ ls) = IsSome (get (at l.0) l.1) × AreThere (less at l) ls

-- the key of each is free when its turn to come comes
abbrev pub AreFree : BySheet → List Coming → Type 0
AreFree at [] = ⊤
AreFree at (c ∷ cs) = (get (at c.0) c.1.0 ≡ None) × AreFree (more at c) cs

-- the sum of the sizes of the groups of conductors that leave, each just before it leaves
abbrev pub SizesSum : BySheet → List Leaving → ℕ → Type 0
SizesSum at [] sum = sum ≡ 0
SizesSum at (l ∷ ls) sum = (keys : List Key) × (rest : ℕ) × IsGroup (at l.0) l.1 keys
    × SizesSum (less at l) ls rest × (sum ≡ length keys + rest)

-- how many steps a change may take: one for each conductor that comes, and for each that leaves the
-- size of its group just before; at most 2^64 - 1
pub record IsRunBound (at : BySheet) (leaving : List Leaving) (coming : ℕ) (bound : ℕ)
    : Type 0 where
  pub sum : ℕ
  pub sizes : SizesSum at leaving sum
  pub total : bound ≡ min (sum + coming) (2 ^ 64 - 1)

-- the sheets of conductors
abbrev pub sheets_of : List Leaving → List SheetName
sheets_of [] = []
sheets_of (l ∷ ls) = l.0 ∷ sheets_of ls

abbrev pub sheets_in : List Coming → List SheetName
sheets_in [] = []
sheets_in (c ∷ cs) = c.0 ∷ sheets_in cs
