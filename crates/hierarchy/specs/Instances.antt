-- The instances of a project's sheets, what is left out of them, and when there are too many (own).
use Rattle.std.specs.Prelude.{◌≡◌, ℕ, ◌==◌, ◌&&◌, ◌-◌, Bool, true, false, if◌then◌else◌, List, [], ◌∷◌, Option, None, length, map, take}
use Rattle.std.specs.List.{position}
use Rattle.std.specs.Str.{bytes_eq}
use Rattle.project_model.specs.Projects.{ProjectData}
use Rattle.hierarchy.specs.declared.way.Step.{Step}
use Rattle.hierarchy.specs.declared.instances.Instance.{Instance}
use Rattle.hierarchy.specs.declared.lost.Lost.{Lost}
use Rattle.hierarchy.specs.Texts.{path_of}
use Rattle.hierarchy.specs.SheetTable.{TableSheetData, sheet_at, sheet_table}
use Rattle.hierarchy.specs.Ways.{WayData, last_sheet, ways}
use Rattle.hierarchy.specs.Crowded.{HasTooMany}
use Rattle.hierarchy.specs.Lost.{lost}

-- two steps are the same
abbrev pub same_step : Step → Step → Bool
same_step s t = (s.id == t.id) && (bytes_eq s.refdes t.refdes && (s.sheet == t.sheet))

-- two lists of steps are the same
abbrev pub same_steps : List Step → List Step → Bool
same_steps [] [] = true
same_steps [] (t ∷ ts) = false
same_steps (s ∷ ss) [] = false
same_steps (s ∷ ss) (t ∷ ts) = same_step s t && same_steps ss ts

-- a way is another without its last step
abbrev pub is_upper : WayData → WayData → Bool
is_upper w u = (u.root == w.root) && same_steps u.steps (take (length w.steps - 1) w.steps)

-- where a way without its last step stands among some ways; none for a way without steps
abbrev pub parent_of : List WayData → WayData → Option ℕ
parent_of ws w = if length w.steps == 0 then None else position (is_upper w) ws

-- the instance to which a way leads, given the place of the one above: the sheet on which it ends
abbrev pub instance_with : List TableSheetData → WayData → Option ℕ → Instance
instance_with sheets w parent = record {
  sheet = (sheet_at sheets (last_sheet w)).name;
  path = path_of w.steps;
  route = map (λ s. s.id) w.steps;
  parent = parent;
}

-- the same among all ways
abbrev pub instance_of : List TableSheetData → List WayData → WayData → Instance
instance_of sheets ws w = instance_with sheets w (parent_of ws w)

-- the instances of all ways, in order
abbrev pub instances : List TableSheetData → List Instance
instances sheets = map (instance_of sheets (ways sheets)) (ways sheets)

-- the instances of a project: from the roots on, each directly before its children
abbrev pub instances_of : ProjectData → List Instance
instances_of p = instances (sheet_table p)

-- two instances differ in their route or in their sheet
abbrev pub AreApart : Instance → Instance → Type 0
AreApart a b = ¬ ((a.route ≡ b.route) × (a.sheet ≡ b.sheet))

-- what the hierarchy of a project leaves out
abbrev pub lost_of : ProjectData → List Lost
lost_of p = lost (sheet_table p)

-- the project has over 4,096 instances, a route of over 16 ids, or too great a weight
abbrev pub IsCrowded : ProjectData → Type 0
IsCrowded p = HasTooMany (sheet_table p)
