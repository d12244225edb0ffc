use Rattle.std.proofs.Common.{◌≡◌, List, ◌∙◌, subst}
use Rattle.std.specs.Prelude.{IfOk, IsErrOf, OnOk}
use Rattle.hierarchy.specs.declared.fault.ElabFault.TheVariants.{TooManyInstances}
use Rattle.hierarchy.specs.SheetTable.{TableSheetData, sheet_table}
use Rattle.hierarchy.specs.Crowded.{HasTooMany}
use Rattle.hierarchy.specs.Instances.{instances}
use Rattle.hierarchy.specs.Lost.{lost}
use Rattle.hierarchy.proofs.OnceLemmas.{ways_once}
use Rattle.hierarchy.proofs.SourceLemmas.{table_once}
use Rattle.hierarchy.proofs.TableLemmas.{table_inside}
use Rattle.hierarchy.proofs.elaboration.elaborate.Goals as goal

pub hierarchy_of-requires-clause-once : goal.hierarchy_of-requires-clause-once
hierarchy_of-requires-clause-once c = rw (c.as_slice.ensures.value, c.in_ok-sheets.ensures) (ways_once (sheet_table c.args.project.now.contents) (table_once c.args.project.now.contents))

pub hierarchy_of-requires-clause-sources : goal.hierarchy_of-requires-clause-sources
hierarchy_of-requires-clause-sources c = rw (c.as_slice.ensures.value, c.in_ok-sheets.ensures) (table_inside c.args.project.now.contents)

pub returns-clause-instances : goal.returns-clause-instances
returns-clause-instances c =
    let same = c.as_slice.ensures.value ∙ c.in_ok-sheets.ensures in
    subst (λ (sheets : List TableSheetData). IfOk c.hierarchy_of.result (λ hierarchy. hierarchy.instances ≡ instances sheets)) same c.hierarchy_of.ensures.instances

pub returns-clause-lost : goal.returns-clause-lost
returns-clause-lost c =
    let same = c.as_slice.ensures.value ∙ c.in_ok-sheets.ensures in
    subst (λ (sheets : List TableSheetData). IfOk c.hierarchy_of.result (λ hierarchy. hierarchy.lost ≡ lost sheets)) same c.hierarchy_of.ensures.lost

pub returns-clause-accepted : goal.returns-clause-accepted
returns-clause-accepted c =
    let same = c.as_slice.ensures.value ∙ c.in_ok-sheets.ensures in
    subst (λ (sheets : List TableSheetData). OnOk c.hierarchy_of.result (HasTooMany sheets → ⊥)) same c.hierarchy_of.ensures.few

pub returns-clause-refused : goal.returns-clause-refused
returns-clause-refused c =
    let same = c.as_slice.ensures.value ∙ c.in_ok-sheets.ensures in
    subst (λ (sheets : List TableSheetData). IsErrOf c.hierarchy_of.result TooManyInstances → HasTooMany sheets) same c.hierarchy_of.ensures.crowded
