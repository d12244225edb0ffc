-- What is told of a run of the work (own).
use Rattle.std.specs.Prelude.{◌≡◌, ◌≤◌, ◌==◌, ◌&&◌, ℕ, Bool, List, ◌∷◌, ◌++◌, Contains, length, codes, count_by}
use Rattle.std.specs.FinMap.{entries}
use Rattle.std.specs.Fmt.{decimal}
use Rattle.geda_defs.specs.Lines.{ended}
use Rattle.geda_geom.specs.declared.conductor.Key.{Key}
use Rattle.net_list.specs.declared.nets.Nets.{Nets}
use Rattle.net_names.specs.NetLists.{IsNetListOf}
use Rattle.sheet_groups.specs.Conductors.{sheet_conductors}
use Rattle.sheet_groups.specs.Groups.{AreGroups}
use Rattle.board_core.specs.Boards.{BoardData}
use Rattle.work_run.specs.Runs.{IsRun, RunData}

-- a number under its name
abbrev pub named_number : List ℕ → ℕ → List ℕ
named_number name number = ended (name ++ 32 ∷ decimal number)

-- the row is that of the first conductor of its group
abbrev pub is_first : Key × Key → Bool
is_first row = (row.0.id == row.1.id) && (row.0.place == row.1.place)

-- seven lines: what was asked; then objects, conductors, groups and nets at the end; the sum of the
-- bounds, and the steps that the groups took
abbrev pub run_text : ℕ → ℕ → RunData → List (Key × Key) → ℕ → Nets → List ℕ
run_text start count run groups calls nets =
    ended (codes "work " ++ decimal start ++ 32 ∷ decimal count)
    ++ named_number (codes "live") (length (entries run.project.objects))
    ++ named_number (codes "conductors") (length (sheet_conductors run.project))
    ++ named_number (codes "groups") (count_by is_first groups)
    ++ named_number (codes "nets") (length nets.nets)
    ++ named_number (codes "bound") run.bound
    ++ named_number (codes "calls") calls

-- the text of so many steps from a start, on a board that has the project they come to and kept the
-- groups of all its sheets: the steps that it tells are those of the board, within the sum of the
-- bounds
pub record WorkComesTo (start count : ℕ) (text : List ℕ) : Type 0 where
  pub run : RunData
  pub is_run : IsRun start count run
  pub groups : List (Key × Key)
  pub are_groups : AreGroups (sheet_conductors run.project) groups
  pub nets : Nets
  pub is_net_list : IsNetListOf run.project nets
  pub board : BoardData
  pub shows : board.project ≡ run.project
  pub kept : (sheet : List ℕ) → ¬ (Contains board.invalidated sheet)
  pub few : board.asked ≤ run.bound
  pub told : text ≡ run_text start count run groups board.asked nets

-- two texts are the same but for the number in their last line, that of the calls
pub record AgreeButForCalls (one other : List ℕ) : Type 0 where
  pub front : List ℕ
  pub calls : ℕ
  pub other_calls : ℕ
  pub one_is : one ≡ front ++ named_number (codes "calls") calls
  pub other_is : other ≡ front ++ named_number (codes "calls") other_calls
