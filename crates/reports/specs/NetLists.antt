-- What a project comes to by its net list (own).
use Rattle.std.specs.Prelude.{◌≡◌, ◌⊎◌, ⊤, ℕ, Bool, List, Result, Ok, Err, Vec}
use Rattle.std.specs.Result.{result_map_both}
use Rattle.std.specs.declared.alloc.Global.{Global}
use Rattle.std.specs.List.{list_any}
use Rattle.project_model.specs.Projects.{ProjectData}
use Rattle.hierarchy.specs.Instances.{IsCrowded}
use Rattle.hierarchy.specs.declared.fault.ElabFault.{ElabFault}
use Rattle.hierarchy.specs.declared.fault.ElabFault.TheVariants as faults
use Rattle.net_list.specs.declared.nets.Nets.{Nets}
use Rattle.net_names.specs.NetLists.{IsNetListOf}
use Rattle.pin_matrix.specs.declared.level.Level.{Level}
use Rattle.drc_findings.specs.declared.finding.Finding.{Finding}
use Rattle.drc_findings.specs.Report.{is_error, report_text}
use Rattle.drc_rules.specs.Findings.{findings}

-- the net list of a project comes to this
abbrev pub HasNetList : {A : Type 0} → (Nets → A) → ProjectData → A → Type 0
HasNetList answer p a = (nets : Nets) × IsNetListOf p nets × (a ≡ answer nets)

-- what a project comes to, given what its net list comes to; a fault, where its sheets have too
-- many instances
abbrev pub OfNetList : {A E : Type 0} → E → (Nets → A) → ProjectData → Result A E → Type 0
OfNetList crowded answer p outcome =
    (IsCrowded p × (outcome ≡ Err crowded))
    ⊎ (¬ (IsCrowded p) × HasNetList (λ nets. Ok (answer nets)) p outcome)

-- the text of a check, and whether an error is among what it found
pub record CheckData : Type 0 where
  pub text : List ℕ
  pub has_error : Bool

-- the report of what was found
abbrev pub reported : List Finding → CheckData
reported found = record { text = report_text found; has_error = list_any is_error found }

-- the check of a project under a matrix
abbrev pub checked : ProjectData → List Level → Nets → CheckData
checked p matrix nets = reported (findings p nets matrix)

-- what is come to, or want of memory
abbrev pub Elaborates : {A : Type 0} → (Result A ElabFault → Type 0) → Result A ElabFault → Type 0
Elaborates Comes (Err faults.NoMemory) = ⊤
Elaborates Comes outcome = Comes outcome

-- a text as contracts see it
abbrev pub seen_text : {E : Type 0} → Result (Vec ℕ Global) E → Result (List ℕ) E
seen_text result = result_map_both (λ text. text.items) (λ fault. fault) result
