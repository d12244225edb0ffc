use Rattle.std.proofs.Common.{◌≡◌, sym, ap, ◌∙◌, arith}
use Rattle.geda_model.specs.Sheets.{ObjectData}
use Rattle.geda_model.specs.declared.object.Body.TheVariants as bodies
use Rattle.project_files.specs.ProjectFiles.{with_view}
use Rattle.project_files.specs.steps.Progress.{AskedData, Asks}
use Rattle.project_files.specs.steps.Asking.{AsksComponent, AsksObject}
use Rattle.project_files.proofs.Passing.{answer_then}
use Rattle.project_files.proofs.AskingLemmas.{asks_as, leads_self, object_of_component, object_of_shape}
use Rattle.project_files.proofs.asking.Asked.ask_object.Goals as goal

pub returns-in-Shape-clause-read : goal.returns-in-Shape-clause-read
returns-in-Shape-clause-read g c =
    let old : AskedData = c.args.self.now in
    let object : ObjectData = c.args.object.now in
    let is : object.body ≡ bodies.Shape c.in-Shape.field-0 = ap (λ (o : ObjectData). o.body) (sym c.object.view_is) ∙ c.in-Shape.is in
    leads_self (g.F.Folder.files c.args.folder.now) old _ (object_of_shape old object c.in-Shape.field-0 is)

pub returns-in-Component-clause-read : goal.returns-in-Component-clause-read
returns-in-Component-clause-read g c =
    let old : AskedData = c.args.self.now in
    let new : AskedData = c.ask_component.new.self in
    let object : ObjectData = c.args.object.now in
    let files = g.F.Folder.files c.args.folder.now in
    let before = g.F.Folder.faults c.args.folder.now in
    let is : object.body ≡ bodies.Component c.in-Component.field-0 = ap (λ (o : ObjectData). o.body) (sym c.object.view_is) ∙ c.in-Component.is in
    answer_then before before _ (Asks files old (AsksComponent old object)) (Asks files old (AsksObject old object)) (λ _. new) (λ _. new) c.ask_component.result (omega arith)
    (λ o. asks_as files old (AsksComponent old object) (AsksObject old object) (with_view (λ _. new) o) (λ known. object_of_component old object c.in-Component.field-0 known (with_view (λ _. new) o) is))
    c.ask_component.ensures.read
