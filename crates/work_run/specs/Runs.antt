-- A run of the work: its steps on one project, and what their changes may cost (own).
use Rattle.std.specs.Prelude.{◌≡◌, ◌+◌, ◌-◌, ◌^◌, ℕ, zero, suc, List, Option, None, Some, min}
use Rattle.project_model.specs.Items.{Item}
use Rattle.project_model.specs.Projects.{ProjectData, empty_project}
use Rattle.project_model.specs.Changes.{put}
use Rattle.board_core.specs.Bounds.{IsBound}
use Rattle.gaf_work.specs.Draws.{drawn, first_state}
use Rattle.gaf_work.specs.Opening.{opening}
use Rattle.gaf_work.specs.DrawnSteps.{step}

-- the number that was drawn last, the project, and the sum of the bounds of its changes
pub record RunData : Type 0 where
  pub state : ℕ
  pub project : ProjectData
  pub bound : ℕ

-- the bound of a change is added to a sum, which stays at 2^64 - 1
pub record AddsBound (p : ProjectData) (items : List Item) (old new : ℕ) : Type 0 where
  pub bound : ℕ
  pub is_bound : IsBound p items bound
  pub sum : new ≡ min (old + bound) (2 ^ 64 - 1)

-- a change is put in, where there is one
abbrev pub PutsIn : Option (List Item) → RunData → RunData → Type 0
PutsIn None old new = (new.project ≡ old.project) × (new.bound ≡ old.bound)
PutsIn (Some items) old new =
    (new.project ≡ put old.project items) × AddsBound old.project items old.bound new.bound

-- a step draws a number, and puts in the change that it makes
pub record IsStep (old new : RunData) : Type 0 where
  pub state : new.state ≡ drawn old.state
  pub change : PutsIn (step old.project (drawn old.state)) old new

-- so many steps, one after the other
abbrev pub Steps : ℕ → RunData → RunData → Type 0
Steps zero old new = new ≡ old
Steps (suc n) old new = (before : RunData) × Steps n old before × IsStep before new

-- the run before its first step: the opening is put into the empty project
pub record IsOpened (start : ℕ) (run : RunData) : Type 0 where
  pub state : run.state ≡ first_state start
  pub project : run.project ≡ put empty_project opening
  pub bound : AddsBound empty_project opening 0 run.bound

-- the run of so many steps from a start
pub record IsRun (start count : ℕ) (run : RunData) : Type 0 where
  pub opened : RunData
  pub is_opened : IsOpened start opened
  pub steps : Steps count opened run
