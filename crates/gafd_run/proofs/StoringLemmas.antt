-- How a copying ends with the fault that is reported.
use Rattle.std.proofs.Common.{◌≡◌, ◌⊎◌, ℕ, Err, inl, inr, subst, ap, ◌∙◌}
use Rattle.sinks.specs.Streams.{Stream}
use Rattle.store_copy.specs.Storing.{Keepers, StoresTo}
use Rattle.store_copy.specs.declared.storing_fault.StoringFault.{StoringFault}
use Rattle.store_copy.specs.declared.storing_fault.StoringFault.TheVariants as storing_faults
use Rattle.gafd_run.specs.declared.fault.RunFault.{RunFault}
use Rattle.gafd_run.specs.declared.fault.RunFault.TheVariants as faults
use Rattle.gafd_run.specs.Endings.{StoringEnds}
use Rattle.gafd_run.specs.Faults.{error_line, status_of, storing_fault}
use Rattle.gafd_run.specs.Runs.{SaidLine}
use Rattle.gafd_run.specs.steps.Passing.{Reports, TakesMemory}

module _ (keepers : Keepers) (out err : Stream) (status : ℕ) where
  -- before a line that takes memory, nothing went out
  as_want : (fault : StoringFault) → StoresTo keepers out (Err fault) → TakesMemory (storing_fault fault) → StoresTo keepers out (Err storing_faults.NoMemory)
  as_want storing_faults.KeeperFault h made = absurd made
  as_want (storing_faults.RowRefused serial) h made = (inl h.1, h.2)
  as_want (storing_faults.RowDiffers serial) h made = (inl h.1, h.2)
  as_want storing_faults.OutputFault h made = absurd made
  as_want storing_faults.NoMemory h made = absurd made

  -- a copying ends with the fault that is reported, or with want of memory
  pub storing_reported : (fault : StoringFault) → StoresTo keepers out (Err fault) → Reports err (storing_fault fault) status → StoringEnds keepers out err status
  storing_reported fault h r = go r.same
    where
      go : (r.reported ≡ storing_fault fault) ⊎ ((r.reported ≡ faults.NoMemory) × TakesMemory (storing_fault fault)) → StoringEnds keepers out err status
      go (inl same) = record {
        stored = Err fault;
        cause = h;
        said = subst (λ (f : RunFault). SaidLine err (error_line f)) same r.said;
        status_is = r.status_is ∙ ap status_of same;
      }
      go (inr (same, made)) = record {
        stored = Err storing_faults.NoMemory;
        cause = as_want fault h made;
        said = subst (λ (f : RunFault). SaidLine err (error_line f)) same r.said;
        status_is = r.status_is ∙ ap status_of same;
      }
