use Rattle.std.proofs.Common.{List, ◌≤◌, ◌-◌, ◌^◌, ◌∙◌, ap, min, subst, sym}
use Rattle.geda_model.specs.Data.{TextData}
use Rattle.geda_model.specs.Sheets.{ObjectData}
use Rattle.project_files.specs.Opening.{object_bytes}
use Rattle.project_files.specs.steps.Bounds.{attached_most}
use Rattle.project_files.proofs.BoundLemmas.{object_short}
use Rattle.project_files.proofs.bounds.object_bound.Goals as goal

pub returns-in-Some : goal.returns-in-Some
returns-in-Some c =
    let own : ObjectData = record { body = c.object.inside.body; attrs = c.object.inside.attrs } in
    let attached = c.attached_bound.ensures ∙ ap (λ (texts : List TextData). min (attached_most texts) (2 ^ 64 - 1)) c.as_slice.ensures.texts in
    subst (λ (o : ObjectData). min (object_bytes o) (2 ^ 64 - 1) ≤ c.saturating_add.result) c.object.view_is
    (object_short own c.in-Some.bytes c.attached_bound.result c.saturating_add.result (record { body = c.object.invariant.body; attrs = c.object.invariant.attrs }) (sym c.body_bound.ensures ∙ c.in-Some.is) attached c.saturating_add.ensures)
