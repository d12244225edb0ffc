use Rattle.std.proofs.Common.{ap, ◌∙◌}
use Rattle.edit_rules.specs.TicketRows.{ticket}
use Rattle.edit_rules.proofs.tickets.Tickets.reserve.Goals as goal

pub returns-clause-rows : goal.returns-clause-rows
returns-clause-rows c = λ s n. c.reserve.ensures.entries.2 (s, n) ∙ ap (λ t. ticket t.rows s n) c.self.view_is
