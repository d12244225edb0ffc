-- What a run keeps from step to step.
use Rattle.std.proofs.Common.{◌≡◌, ℕ, suc, ◌≤◌, ◌<◌, ◌+◌, ◌-◌, ◌^◌, ◌==◌, ◌%◌, ◌/◌, min, Bool, true, false, List, [], Option, None, Some, option_map, cond, nat_lt, refl, sym, ap, subst, ◌∙◌, arith}
use Rattle.std.specs.List.{Contains}
use Rattle.std.specs.FinMap.{keys}
use Rattle.project_model.specs.Items.{Item}
use Rattle.geda_model.specs.Sheets.{ObjectData}
use Rattle.project_model.specs.Changes.{put}
use Rattle.project_model.specs.Projects.{ProjectData, empty_project}
use Rattle.board_core.specs.Bounds.{IsBound}
use Rattle.board_core.specs.Boards.{BoardData, RenewsGroups, StaysInBound}
use Rattle.gaf_work.specs.Draws.{drawn}
use Rattle.gaf_work.specs.Live.{Follows}
use Rattle.gaf_work.specs.DrawnSteps.{IdsAreBelow, coming, id_at, leaving, part, step, wire}
use Rattle.gaf_work.specs.Opening.{opening}
use Rattle.gaf_work.proofs.IdsBelow.{IdsAreBelow-empty_project, IdsAreBelow-put}
use Rattle.gaf_work.proofs.RowIds.{id_has_row}
use Rattle.work_run.specs.Runs.{AddsBound, IsRun, IsStep, PutsIn, RunData}
use Rattle.work_run.specs.steps.SoundRuns.{IsSoundBoard, IsSoundRun, OpenRun}

-- a board stays sound as a change is put in, with the sum of the bounds
pub IsSoundBoard-next : (old new : BoardData) (items : List Item) (sum bound next : ℕ) → IsSoundBoard old sum → RenewsGroups old items new → StaysInBound old items new → IsBound old.project items bound → next ≡ min (sum + bound) (2 ^ 64 - 1) → IsSoundBoard new next
IsSoundBoard-next old new items sum bound next sound renewed few is_bound e = record {
  kept = λ sheet given_up. sound.kept sheet (renewed sheet given_up).0;
  few =
      let now : new.asked ≤ old.asked + bound = few (λ sheet touched. sound.kept sheet) bound is_bound in
      let before : min old.asked (2 ^ 64 - 1) ≤ sum = sound.few in
      omega arith;
}

comes : (p : ProjectData) (object : ObjectData) (items : List Item) → Some (coming p object) ≡ Some items → (put p items).next_id ≤ p.next_id + 1
comes p object items e = let same : coming p object ≡ items = cc in subst (λ given. (put p given).next_id ≤ p.next_id + 1) same (omega arith)

leaves : (p : ProjectData) (q : ℕ) (items : List Item) → IdsAreBelow p → (found : Option ℕ) → id_at (keys p.objects) q ≡ found → option_map leaving found ≡ Some items → (put p items).next_id ≤ p.next_id + 1
leaves p q items below None e given = absurd (let nothing : option_map leaving None ≡ Some items = given in cc)
leaves p q items below (Some id) e given =
    let same : leaving id ≡ items = (let some : Some (leaving id) ≡ Some items = given in cc) in
    let at : id < p.next_id = below id (id_has_row p.objects q id e) in
    subst (λ gives. (put p gives).next_id ≤ p.next_id + 1) same (omega arith)

-- a step gives at most one id more
pub next_id-step : (p : ProjectData) (r : ℕ) (items : List Item) → IdsAreBelow p → step p r ≡ Some items → (put p items).next_id ≤ p.next_id + 1
next_id-step p r items below given = by (nat_lt (r % 8) 5) (r % 8 == 5) given
  where
    by : (wires parts : Bool) → cond wires (Some (coming p (wire (r / 8)))) (cond parts (Some (coming p (part (r / 8) p.next_id))) (option_map leaving (id_at (keys p.objects) (r / 8)))) ≡ Some items → (put p items).next_id ≤ p.next_id + 1
    by true parts e = comes p (wire (r / 8)) items e
    by false true e = comes p (part (r / 8) p.next_id) items e
    by false false e = leaves p (r / 8) items below (id_at (keys p.objects) (r / 8)) refl e

-- a run and one step more
pub IsRun-next : (start count : ℕ) (run next : RunData) → IsRun start count run → IsStep run next → IsRun start (count + 1) next
IsRun-next start count run next is_run is_step =
    let e : suc count ≡ count + 1 = omega arith in
    subst (λ n. IsRun start n next) e (record { opened = is_run.opened; is_opened = is_run.is_opened; steps = (run, is_run.steps, is_step) })

-- a new board is sound
pub IsSoundBoard-new : (board : BoardData) → board.invalidated ≡ [] → board.asked ≡ 0 → IsSoundBoard board 0
IsSoundBoard-new board fresh none_asked = record {
  kept = λ sheet given_up. nothing_in sheet (subst (λ names. Contains names sheet) fresh given_up);
  few = omega (arith, none_asked);
}
  where
    nothing_in : (sheet : List ℕ) → Contains {X = List ℕ} [] sheet → ⊥
    nothing_in sheet has = absurd (let within = has.1 in omega arith)

-- so is a run that is opened
pub IsSoundRun-opened : (run : OpenRun) → IsSoundBoard run.board run.bound → run.board.project ≡ put empty_project opening → run.live ≡ keys run.board.project.objects → IsSoundRun 0 run
IsSoundRun-opened run board project live = record {
  board = board;
  live = live;
  below = subst IdsAreBelow (sym project) (IdsAreBelow-put empty_project opening IdsAreBelow-empty_project);
  few = subst (λ (p : ProjectData). p.next_id ≤ 0) (sym project) (omega arith);
}

-- a change that is put in is a step
pub IsStep-put : (old new : RunData) (p : ProjectData) (items : List Item) → p ≡ old.project → Some items ≡ step p (drawn old.state) → new.state ≡ drawn old.state → new.project ≡ put old.project items → AddsBound old.project items old.bound new.bound → IsStep old new
IsStep-put old new p items same given state project adds = record {
  state = state;
  change = subst (λ change. PutsIn change old new) (given ∙ ap (λ q. step q (drawn old.state)) same) (project, adds);
}

-- and keeps a run sound
pub IsSoundRun-put : (count : ℕ) (old new : OpenRun) (p : ProjectData) (items : List Item) → p ≡ old.board.project → Some items ≡ step p (drawn old.state) → new.board.project ≡ put old.board.project items → (IsSoundBoard old.board old.bound → IsSoundBoard new.board new.bound) → Follows items old.live new.live → IsSoundRun count old → IsSoundRun (count + 1) new
IsSoundRun-put count old new p items same given project board follows sound =
    let made : step old.board.project (drawn old.state) ≡ Some items = sym (given ∙ ap (λ q. step q (drawn old.state)) same) in
    let few : (put old.board.project items).next_id ≤ old.board.project.next_id + 1 = next_id-step old.board.project (drawn old.state) items sound.below made in
    let before : old.board.project.next_id ≤ count = sound.few in
    record {
      board = board sound.board;
      live = follows old.board.project sound.live ∙ ap (λ (q : ProjectData). keys q.objects) (sym project);
      below = subst IdsAreBelow (sym project) (IdsAreBelow-put old.board.project items sound.below);
      few = subst (λ (q : ProjectData). q.next_id ≤ count + 1) (sym project) (omega arith);
    }
