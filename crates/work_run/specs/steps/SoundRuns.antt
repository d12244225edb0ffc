-- What a run keeps from step to step, so that the next one can be made (own).
use Rattle.std.specs.Prelude.{◌≡◌, ◌-◌, ◌^◌, ◌≤◌, ℕ, Contains, List, min}
use Rattle.std.specs.FinMap.{keys}
use Rattle.board_core.specs.Boards.{BoardData}
use Rattle.gaf_work.specs.DrawnSteps.{IdsAreBelow}
use Rattle.work_run.specs.Runs.{RunData}

-- a run with its board: the number drawn last, the live ids, the board, and the sum of the bounds
pub record OpenRun : Type 0 where
  pub state : ℕ
  pub live : List ℕ
  pub board : BoardData
  pub bound : ℕ

-- the run that is told
abbrev pub run_of : OpenRun → RunData
run_of run = record { state = run.state; project = run.board.project; bound = run.bound }

-- the groups of all sheets are kept, and took no more steps than the bounds allow, where both
-- counts stay at 2^64 - 1
pub record IsSoundBoard (board : BoardData) (bound : ℕ) : Type 0 where
  pub kept : (sheet : List ℕ) → ¬ (Contains board.invalidated sheet)
  pub few : min board.asked (2 ^ 64 - 1) ≤ bound

-- so they are, the live ids are those of the project, and after so many steps there are at most as
-- many ids
pub record IsSoundRun (count : ℕ) (run : OpenRun) : Type 0 where
  pub board : IsSoundBoard run.board run.bound
  pub live : run.live ≡ keys run.board.project.objects
  pub below : IdsAreBelow run.board.project
  pub few : run.board.project.next_id ≤ count
