use Rattle.std.proofs.Common.{◌≡◌, ◌++◌, ◌∷◌, [], ap, sym, ◌∙◌}
use Rattle.std.specs.List.{slice_get}
use Rattle.edit_desk.specs.Desks.{DeskView}
use Rattle.hall_core.proofs.Showing.{goes_on, lists}
use Rattle.hall_core.proofs.published.PublishedDesk.list_next.Goals as goal

pub add-requires-clause-accepted : goal.add-requires-clause-accepted
add-requires-clause-accepted g c = rw c.again-listed.ensures (goes_on _ _ _ _ _ c.self.invariant _ _ c.len-serial.ensures.length (ap (λ (d : DeskView). slice_get d.history c.len-serial.result) (sym c.desk.ensures) ∙ sym c.in-Some.ensures)).1

pub invariant_of-self : goal.invariant_of-self
invariant_of-self g c =
    let next = goes_on _ _ _ _ _ c.self.invariant _ _ c.len-serial.ensures.length (ap (λ (d : DeskView). slice_get d.history c.len-serial.result) (sym c.desk.ensures) ∙ sym c.in-Some.ensures) in
    let grown : c.add.new.self ≡ c.again-listed.result ++ c.in-Some.entry.now ∷ [] = c.if-not-add.ensures in
    lists _ _ _ _ _ c.self.invariant _ (grown ∙ ap (λ l. l ++ c.in-Some.entry.now ∷ []) c.again-listed.ensures ∙ next.0)

pub returns-clause-listed : goal.returns-clause-listed
returns-clause-listed g c =
    let next = goes_on _ _ _ _ _ c.self.invariant _ _ c.len-serial.ensures.length (ap (λ (d : DeskView). slice_get d.history c.len-serial.result) (sym c.desk.ensures) ∙ sym c.in-Some.ensures) in
    let grown : c.add.new.self ≡ c.again-listed.result ++ c.in-Some.entry.now ∷ [] = c.if-not-add.ensures in
    grown ∙ ap (λ l. l ++ c.in-Some.entry.now ∷ []) c.again-listed.ensures ∙ next.0
