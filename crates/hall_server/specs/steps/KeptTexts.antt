-- The reports whose text is kept, and what a kept text is (own).
use Rattle.std.specs.Prelude.{ℕ, List, Ok}
use mathlib.Core.List.{IsPrefix}
use Rattle.edit_entries.specs.Entries.{EntryData}
use Rattle.edit_rules.specs.Histories.{project}
use Rattle.pin_matrix.specs.Matrices.{usual}
use Rattle.reports.specs.Reports.{ReportsTo}
use Rattle.reports.specs.declared.what.What.{What}
use Rattle.reports.specs.declared.what.What.TheVariants as reports
use Rattle.hall_server.specs.declared.report_kind.ReportKind.{ReportKind}
use Rattle.hall_server.specs.declared.report_kind.ReportKind.TheVariants as kinds

-- the report of a kind
abbrev pub what_of : ReportKind → What
what_of (kinds.Net form) = reports.Net form
what_of kinds.Drc = reports.Drc

-- the report on the project of these entries comes to this text; the check is by the usual matrix
abbrev pub IsReportText : List EntryData → ReportKind → List ℕ → Type 0
IsReportText h kind text = ReportsTo (project h) usual (what_of kind) (Ok text)

-- a text of a kind, with entries that begin with these
pub record IsTextAfter (h : List EntryData) (kind : ReportKind) (told : List EntryData × List ℕ)
    : Type 0 where
  pub begins : IsPrefix h told.0
  pub text : IsReportText told.0 kind told.1

-- a text, with the entries and the kind that it is of
pub record KeptData : Type 0 where
  pub entries : List EntryData
  pub kind : ReportKind
  pub text : List ℕ
