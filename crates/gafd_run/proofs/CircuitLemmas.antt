-- What a project comes to as a circuit for SPICE, with the faults of the program.
use Rattle.std.proofs.Common.{◌≡◌, List, ℕ, None, Ok, Err, sym, ap, ◌∙◌}
use Rattle.project_model.specs.Projects.{ProjectData}
use Rattle.net_list.specs.declared.nets.Nets.{Nets}
use Rattle.spice_out.specs.declared.fault.SpiceFault.{SpiceFault}
use Rattle.spice_out.specs.declared.fault.SpiceFault.TheVariants as spice_faults
use Rattle.spice_out.specs.Faults.{SpiceFails, spice_fault}
use Rattle.spice_out.specs.SpiceText.{spice_text}
use Rattle.gafd_run.specs.Answers.{AnswerData, CircuitOf, all_well, circuit, circuit_or_fault}
use Rattle.gafd_run.specs.Faults.{circuit_fault}
use Rattle.gafd_run.specs.steps.Passing.{ComesOf}
use Rattle.gafd_run.proofs.NetListLemmas.{Lists, by_list}

module _ (p : ProjectData) where
  -- there is a text
  pub circuit_made : (nets : Nets) (text : List ℕ) (answer : AnswerData) → Lists p nets → text ≡ spice_text nets → spice_fault nets ≡ None → answer ≡ all_well text → CircuitOf p (Ok answer)
  circuit_made nets text answer lists is none made =
      by_list p circuit nets (Ok answer) lists (ap Ok (made ∙ ap all_well is) ∙ sym (ap (circuit_or_fault (spice_text nets)) none))

  -- a package has a fault
  pub circuit_refused : (nets : Nets) (e : SpiceFault) → Lists p nets → SpiceFails e (spice_fault nets) → ComesOf (CircuitOf p) (Err (circuit_fault e))
  circuit_refused nets spice_faults.NoMemory lists fails = tt
  circuit_refused nets e lists fails = by_list p circuit nets (Err (circuit_fault e)) lists (sym (ap (circuit_or_fault (spice_text nets)) fails))
