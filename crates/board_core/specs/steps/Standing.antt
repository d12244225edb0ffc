-- Steps of the code; no public clause cites them.
-- The conductors of a project sheet by sheet, and those that leave and come with a change (own).
use Rattle.std.specs.Prelude.{ℕ, List, [], ◌∷◌, ◌++◌, Option, Some, None, map, filter}
use Rattle.std.specs.FinMap.{empty, entries, get}
use Rattle.std.specs.List.{filter_map, flat_map}
use Rattle.std.specs.Option.{option_map}
use Rattle.project_model.specs.declared.change.Placed.{Placed}
use Rattle.project_model.specs.declared.change.Thing.TheVariants as things
use Rattle.project_model.specs.declared.change.Value.TheVariants as values
use Rattle.project_model.specs.Items.{Item}
use Rattle.project_model.specs.Projects.{ProjectData, is_on}
use Rattle.project_model.specs.Changes.{put}
use Rattle.group_runs.specs.Runs.{BySheet, Coming, Leaving, SheetName, with_all}
use Rattle.sheet_groups.specs.Conductors.{SheetConductor, conductors_at, sheet_conductors}
use Rattle.board_core.specs.Changed.{has_thing, is_changed, is_object}
use Rattle.board_core.specs.Bounds.{is_renewed}

-- a conductor as it comes to its sheet
abbrev pub come : SheetConductor → Coming
come c = (c.sheet, (c.key, c.shape))

-- a conductor as it leaves its sheet
abbrev pub leave : SheetConductor → Leaving
leave c = (c.sheet, c.key)

-- what comes, as it leaves
abbrev pub without_shape : Coming → Leaving
without_shape c = (c.0, c.1.0)

-- the conductors of each sheet, by key
abbrev pub by_sheet : List SheetConductor → BySheet
by_sheet cs = with_all (λ s. empty) (map come cs)

-- the conductors of each sheet of a project, by key
abbrev pub on_sheet : ProjectData → BySheet
on_sheet p = by_sheet (sheet_conductors p)

-- the conductors of objects under ids, with the symbols of a project
abbrev pub drawn_in : ProjectData → List (ℕ × Placed) → List SheetConductor
drawn_in p rows = flat_map (conductors_at p) rows

-- what there is, as a list
abbrev pub some_row : {X : Type 0} → Option X → List X
some_row None = []
some_row (Some x) = x ∷ []

-- those of these ids that stand in a project
abbrev pub found_row : ProjectData → ℕ → Option (ℕ × Placed)
found_row p id = option_map (λ placed. (id, placed)) (get p.objects id)

abbrev pub found_rows : ProjectData → List ℕ → List (ℕ × Placed)
found_rows p ids = filter_map (found_row p) ids

-- the objects of a project that a change has
abbrev pub own_rows : ProjectData → List Item → List (ℕ × Placed)
own_rows p items = filter (λ row. has_thing (is_object row.0) items) (entries p.objects)

-- the objects of a project on a sheet
abbrev pub rows_on : ProjectData → SheetName → List (ℕ × Placed)
rows_on p sheet = filter (is_on sheet) (entries p.objects)

-- the objects whose conductors leave
abbrev pub changed_rows : ProjectData → List Item → List (ℕ × Placed)
changed_rows p items = filter (is_changed items) (entries p.objects)

-- the objects that the items of a change give
abbrev pub given_row : Item → Option (ℕ × Placed)
given_row (things.Object id, Some (values.Object placed)) = Some (id, placed)
given_row other = None

abbrev pub given_rows : List Item → List (ℕ × Placed)
given_rows items = filter_map given_row items

-- the other objects whose library symbols a change has
abbrev pub renewed_rows : ProjectData → List Item → List (ℕ × Placed)
renewed_rows p items = filter (is_renewed items) (entries p.objects)

-- the objects whose conductors come
abbrev pub coming_rows : ProjectData → List Item → List (ℕ × Placed)
coming_rows p items = given_rows items ++ renewed_rows p items

-- the conductors that leave
abbrev pub leaving_drawn : ProjectData → List Item → List SheetConductor
leaving_drawn p items = drawn_in p (changed_rows p items)

-- the conductors that come
abbrev pub coming_drawn : ProjectData → List Item → List SheetConductor
coming_drawn p items = drawn_in (put p items) (coming_rows p items)
