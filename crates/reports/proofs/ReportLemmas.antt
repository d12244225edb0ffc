-- Reports by the net list of a project.
use Rattle.std.proofs.Common.{ℕ, List, Vec, Result, Ok, Err, Global}
use Rattle.std.specs.Result.{IsErrAnd}
use Rattle.project_model.specs.Projects.{ProjectData}
use Rattle.hierarchy.specs.declared.fault.ElabFault.{ElabFault}
use Rattle.hierarchy.specs.declared.fault.ElabFault.TheVariants as elaboration
use Rattle.net_list.specs.declared.form.Form.{Form}
use Rattle.backends.specs.Forms.{net_text}
use Rattle.pin_matrix.specs.declared.level.Level.{Level}
use Rattle.reports.specs.declared.fault.ReportFault.{ReportFault}
use Rattle.reports.specs.declared.fault.ReportFault.TheVariants as faults
use Rattle.reports.specs.declared.what.What.TheVariants.{Net, Drc}
use Rattle.reports.specs.NetLists.{CheckData, Elaborates, OfNetList, checked, seen_text}
use Rattle.reports.specs.Reports.{Reports}
use Rattle.reports.specs.Faults.{FromElaboration}
use Rattle.reports.proofs.NetListLemmas.{further}

-- the fault of a report by a fault of the hierarchy
abbrev as_report : ElabFault → ReportFault
as_report elaboration.TooManyInstances = faults.TooManyInstances
as_report elaboration.NoMemory = faults.NoMemory

-- a net list that there is
pub net_told : (p : ProjectData) (matrix : List Level) (form : Form) (text : List ℕ) → OfNetList elaboration.TooManyInstances (net_text form) p (Ok text) → Reports p matrix (Net form) (Ok text)
net_told p matrix form text made = further elaboration.TooManyInstances (net_text form) (λ t. t) as_report p (Ok text) made

-- a net list that there is not
pub net_refused : (p : ProjectData) (matrix : List Level) (form : Form) (f : ElabFault) (r : Result (Vec ℕ Global) ReportFault) → IsErrAnd r (FromElaboration f) → Elaborates (OfNetList elaboration.TooManyInstances (net_text form) p) (Err f) → Reports p matrix (Net form) (seen_text r)
net_refused p matrix form f (Ok text) is made = absurd is
net_refused p matrix form elaboration.TooManyInstances (Err e) is made = rw is (further elaboration.TooManyInstances (net_text form) (λ t. t) as_report p (Err elaboration.TooManyInstances) made)
net_refused p matrix form elaboration.NoMemory (Err e) is made = rw is tt

-- a check that there is
pub check_told : (p : ProjectData) (matrix : List Level) (check : CheckData) → OfNetList elaboration.TooManyInstances (checked p matrix) p (Ok check) → Reports p matrix Drc (Ok check.text)
check_told p matrix check made = further elaboration.TooManyInstances (checked p matrix) (λ c. c.text) as_report p (Ok check) made
