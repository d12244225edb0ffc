-- What a project comes to by its net list, with the faults of the program.
use Rattle.std.proofs.Common.{◌≡◌, ◌∙◌, Ok, Err, inl, inr, refl, ap}
use Rattle.project_model.specs.Projects.{ProjectData}
use Rattle.hierarchy.specs.declared.fault.ElabFault.{ElabFault}
use Rattle.hierarchy.specs.declared.fault.ElabFault.TheVariants as elaboration
use Rattle.net_list.specs.declared.nets.Nets.{Nets}
use Rattle.reports.specs.NetLists.{Elaborates, OfNetList}
use Rattle.gafd_run.specs.declared.fault.RunFault.{RunFault}
use Rattle.gafd_run.specs.Answers.{ByNets, Outcome}
use Rattle.gafd_run.specs.steps.Passing.{ComesOf, FromElaboration}

module _ (p : ProjectData) where
  -- the net list of the project
  abbrev pub Lists : Nets → Type 0
  Lists nets = OfNetList elaboration.TooManyInstances (λ (n : Nets). n) p (Ok nets)

  module _ (end : Nets → Outcome) where
    -- what it comes to the project comes to
    pub by_list : (nets : Nets) (outcome : Outcome) → Lists nets → outcome ≡ end nets → ByNets end p outcome
    by_list nets outcome (inl (crowded, is)) made = absurd cc
    by_list nets outcome (inr (room, (listed, list, is))) made =
        let same : nets ≡ listed = cc in
        inr (room, (listed, list, made ∙ ap end same))

    -- there is no net list
    pub nothing_listed : (e : ElabFault) (f : RunFault) → FromElaboration e f → Elaborates (OfNetList elaboration.TooManyInstances (λ (n : Nets). n) p) (Err e) → ComesOf (ByNets end p) (Err f)
    nothing_listed elaboration.NoMemory f from made = rw from tt
    nothing_listed elaboration.TooManyInstances f from (inl (crowded, is)) = rw from (inl (crowded, refl))
    nothing_listed elaboration.TooManyInstances f from (inr (room, (nets, list, is))) = absurd cc
