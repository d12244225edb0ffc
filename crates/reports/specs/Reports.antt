-- What each report on a project comes to (own).
use Rattle.std.specs.Prelude.{◌≡◌, ⊤, ℕ, List, Option, Some, None, Result, Ok, Err}
use Rattle.std.specs.FinMap.{get}
use Rattle.project_model.specs.Projects.{ProjectData}
use Rattle.geda_grammar.specs.Canonical.{sheet_text, symbol_text}
use Rattle.backends.specs.Forms.{net_text}
use Rattle.pin_matrix.specs.declared.level.Level.{Level}
use Rattle.reports.specs.declared.fault.ReportFault.{ReportFault}
use Rattle.reports.specs.declared.fault.ReportFault.TheVariants as faults
use Rattle.reports.specs.declared.what.What.{What}
use Rattle.reports.specs.declared.what.What.TheVariants.{Net, Drc, Sheet, Symbol, Objects, Sheets}
use Rattle.reports.specs.NetLists.{OfNetList, checked}
use Rattle.reports.specs.SheetTexts.{objects_text, sheet_under, sheets_text}

-- the text of what is there; a fault, where nothing is
abbrev pub text_or : {A : Type 0} →
    ReportFault → (A → List ℕ) → Option A → Result (List ℕ) ReportFault
text_or fault text None = Err fault
text_or fault text (Some a) = Ok (text a)

-- what a report on a project comes to; the check is by the matrix
abbrev pub ReportsTo :
    ProjectData → List Level → What → Result (List ℕ) ReportFault → Type 0
ReportsTo p matrix (Net form) outcome =
    OfNetList faults.TooManyInstances (λ nets. net_text form nets) p outcome
ReportsTo p matrix Drc outcome =
    OfNetList faults.TooManyInstances (λ nets. (checked p matrix nets).text) p outcome
ReportsTo p matrix (Sheet name) outcome =
    outcome ≡ text_or faults.NoSheet (λ head. sheet_text (sheet_under p name head))
    (get p.sheets name)
ReportsTo p matrix (Symbol name) outcome =
    outcome ≡ text_or faults.NoSymbol symbol_text (get p.symbols name)
ReportsTo p matrix (Objects name) outcome =
    outcome ≡ text_or faults.NoSheet (λ head. objects_text p name) (get p.sheets name)
ReportsTo p matrix Sheets outcome = outcome ≡ Ok (sheets_text p)

-- what a report comes to, or want of memory
abbrev pub Reports : ProjectData → List Level → What → Result (List ℕ) ReportFault → Type 0
Reports p matrix what (Err faults.NoMemory) = ⊤
Reports p matrix what outcome = ReportsTo p matrix what outcome
