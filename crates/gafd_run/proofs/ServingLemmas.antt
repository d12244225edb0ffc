-- How a serving ends with the fault that is reported.
use Rattle.std.proofs.Common.{◌≡◌, ◌⊎◌, ℕ, Err, inl, inr, subst, ap, ◌∙◌}
use Rattle.sinks.specs.Streams.{Stream}
use Rattle.hall_server.specs.Serving.{Outside, ServesTo}
use Rattle.hall_server.specs.declared.fault.ServeFault.{ServeFault}
use Rattle.hall_server.specs.declared.fault.ServeFault.TheVariants as serve_faults
use Rattle.gafd_run.specs.declared.fault.RunFault.{RunFault}
use Rattle.gafd_run.specs.declared.fault.RunFault.TheVariants as faults
use Rattle.gafd_run.specs.Endings.{ServingEnds}
use Rattle.gafd_run.specs.Faults.{error_line, serve_fault, status_of}
use Rattle.gafd_run.specs.Runs.{SaidLine}
use Rattle.gafd_run.specs.steps.Passing.{Reports, TakesMemory}

module _ (outside : Outside) (out err : Stream) (status : ℕ) where
  -- before a line that takes memory, nothing went out
  as_want : (fault : ServeFault) → ServesTo outside out (Err fault) → TakesMemory (serve_fault fault) → ServesTo outside out (Err serve_faults.NoMemory)
  as_want serve_faults.GateFault h made = absurd made
  as_want serve_faults.KeeperFault h made = absurd made
  as_want (serve_faults.RowRefused serial) h made = inl h.1
  as_want serve_faults.NoPlace h made = absurd made
  as_want serve_faults.OutputFault h made = absurd made
  as_want serve_faults.NoMemory h made = absurd made

  -- a serving ends with the fault that is reported, or with want of memory
  pub serving_reported : (fault : ServeFault) → ServesTo outside out (Err fault) → Reports err (serve_fault fault) status → ServingEnds outside out err status
  serving_reported fault h r = go r.same
    where
      go : (r.reported ≡ serve_fault fault) ⊎ ((r.reported ≡ faults.NoMemory) × TakesMemory (serve_fault fault)) → ServingEnds outside out err status
      go (inl same) = record {
        served = Err fault;
        cause = h;
        said = subst (λ (f : RunFault). SaidLine err (error_line f)) same r.said;
        status_is = r.status_is ∙ ap status_of same;
      }
      go (inr (same, made)) = record {
        served = Err serve_faults.NoMemory;
        cause = as_want fault h made;
        said = subst (λ (f : RunFault). SaidLine err (error_line f)) same r.said;
        status_is = r.status_is ∙ ap status_of same;
      }
