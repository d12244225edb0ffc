-- What is told of a run.
use Rattle.std.proofs.Common.{◌≡◌, ℕ, ◌≤◌, ◌<◌, ◌-◌, ◌^◌, min, List, Ok, Err, inl, inr, refl, subst, sym, arith}
use Rattle.sheet_groups.specs.Conductors.{sheet_conductors}
use Rattle.sheet_groups.specs.Groups.{AreGroups}
use Rattle.geda_geom.specs.declared.conductor.Key.{Key}
use Rattle.project_model.specs.Projects.{ProjectData}
use Rattle.hierarchy.specs.Instances.{IsCrowded}
use Rattle.hierarchy.specs.declared.fault.ElabFault.TheVariants as faults
use Rattle.net_list.specs.declared.nets.Nets.{Nets}
use Rattle.net_names.specs.NetLists.{IsNetListOf}
use Rattle.reports.specs.NetLists.{OfNetList}
use Rattle.work_run.specs.Runs.{IsRun}
use Rattle.work_run.specs.RunText.{WorkComesTo, run_text}
use Rattle.work_run.specs.steps.SoundRuns.{IsSoundRun, OpenRun, run_of}

-- a net list that is come to is that of the project
pub net_list_of : (p : ProjectData) (nets : Nets) → OfNetList faults.TooManyInstances (λ (n : Nets). n) p (Ok nets) → IsNetListOf p nets
net_list_of p nets (inl (crowded, e)) = absurd (let h = e in cc)
net_list_of p nets (inr (free, (found, is, e))) = let same : nets ≡ found = (let h = e in cc) in subst (IsNetListOf p) (sym same) is

-- within the limits there is one
pub not_crowded : (p : ProjectData) → ¬ (IsCrowded p) → OfNetList faults.TooManyInstances (λ (n : Nets). n) p (Err faults.TooManyInstances) → ⊥
not_crowded p free (inl (crowded, e)) = free crowded
not_crowded p free (inr (within, (found, is, e))) = absurd (let h = e in cc)

-- it is told in the text
pub WorkComesTo-text : (start count : ℕ) (run : OpenRun) (p : ProjectData) (groups : List (Key × Key)) (nets : Nets) (text : List ℕ)
    → p ≡ run.board.project → IsRun start count (run_of run) → IsSoundRun count run → run.board.asked < 2 ^ 64
    → AreGroups (sheet_conductors run.board.project) groups → IsNetListOf p nets
    → text ≡ run_text start count (run_of run) groups run.board.asked nets → WorkComesTo start count text
WorkComesTo-text start count run p groups nets text same is_run sound calls are_groups is_net_list told = record {
  run = run_of run;
  is_run = is_run;
  groups = groups;
  are_groups = are_groups;
  nets = nets;
  is_net_list = subst (λ (q : ProjectData). IsNetListOf q nets) same is_net_list;
  board = run.board;
  shows = refl;
  kept = sound.board.kept;
  few = let few : min run.board.asked (2 ^ 64 - 1) ≤ run.bound = sound.board.few in omega arith;
  told = told;
}
