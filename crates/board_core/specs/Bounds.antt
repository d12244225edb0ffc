-- How many steps a change may cost groups that are kept: one for each conductor that comes, and for
-- each that leaves the size that its group has just before (own).
use Rattle.std.specs.Prelude.{◌≡◌, ◌+◌, ◌-◌, ◌^◌, ◌&&◌, ℕ, Bool, true, false, not, List, [], ◌∷◌, ◌++◌, Some, min, length, map, filter}
use Rattle.std.specs.FinMap.{entries}
use Rattle.std.specs.List.{flat_map, sum_by}
use Rattle.project_model.specs.declared.change.Placed.{Placed}
use Rattle.project_model.specs.declared.change.Thing.TheVariants as things
use Rattle.project_model.specs.declared.change.Value.TheVariants as values
use Rattle.project_model.specs.Items.{Item}
use Rattle.project_model.specs.Projects.{ProjectData}
use Rattle.project_model.specs.Changes.{put}
use Rattle.sheet_groups.specs.Conductors.{SheetConductor, conductors_at}
use Rattle.board_core.specs.GroupSizes.{IsGroupSize}
use Rattle.board_core.specs.Changed.{has_symbol_of, has_thing, is_changed, is_object}

-- a conductor, and whether it leaves
abbrev pub Leaving : Type 0
Leaving = SheetConductor × Bool

-- the conductors of a project, each with whether a change takes it away
abbrev pub leaving : ProjectData → List Item → List Leaving
leaving p items = flat_map
    (λ row. map (λ c. (c, is_changed items row)) (conductors_at p row)) (entries p.objects)

-- the sum of the sizes that the groups of the leaving conductors have, each just before it leaves:
-- they leave in order, `kept` stand before those that are yet to be looked at and stay
abbrev pub SizesSum : List SheetConductor → List Leaving → ℕ → Type 0
SizesSum kept [] sum = sum ≡ 0
SizesSum kept ((c, false) ∷ cs) sum = SizesSum (kept ++ c ∷ []) cs sum
SizesSum kept ((c, true) ∷ cs) sum = (size : ℕ) × (rest : ℕ)
    × IsGroupSize (kept ++ c ∷ map (λ d. d.0) cs) (length kept) size
    × SizesSum kept cs rest × (sum ≡ size + rest)

-- how many conductors the object that an item of a change gives has, with the symbols of a project
abbrev pub given_count : ProjectData → Item → ℕ
given_count p (things.Object id, Some (values.Object placed)) =
    length (conductors_at p (id, placed))
given_count p other = 0

-- the change has the library symbol of this object of a project, but not the object
abbrev pub is_renewed : List Item → ℕ × Placed → Bool
is_renewed items row =
    not (has_thing (is_object row.0) items) && has_symbol_of items row.1.object

-- how many conductors come with a change: those of the objects that it gives, and those that each
-- other object has by a symbol that it has
abbrev pub coming_count : ProjectData → List Item → ℕ
coming_count p items = sum_by (given_count (put p items)) items
    + length (flat_map (conductors_at (put p items))
    (filter (is_renewed items) (entries p.objects)))

-- the bound of a change, at most 2^64 - 1
pub record IsBound (p : ProjectData) (items : List Item) (bound : ℕ) : Type 0 where
  pub sizes : ℕ
  pub left : SizesSum [] (leaving p items) sizes
  pub total : bound ≡ min (sizes + coming_count p items) (2 ^ 64 - 1)
