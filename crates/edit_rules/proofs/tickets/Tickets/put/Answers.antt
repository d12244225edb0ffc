use Rattle.std.proofs.Common.{◌==◌, ◌&&◌, Some, ap, cond, ◌∙◌}
use Rattle.edit_rules.specs.TicketRows.{ticket}
use Rattle.edit_rules.proofs.tickets.Tickets.put.Goals as goal

pub returns-clause-rows : goal.returns-clause-rows
returns-clause-rows c =
    let updates = rw c.unwrap.ensures at c.insert-put.ensures.updates in
    λ s n. updates.0 (s, n) ∙ ap (λ t. cond ((c.args.session == s) && (c.args.number == n)) (Some c.args.serial) (ticket t.rows s n)) c.self.view_is
