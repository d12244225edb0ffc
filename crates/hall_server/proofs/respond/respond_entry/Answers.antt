use Rattle.std.proofs.Common.{rules, ◌≡◌, true, false}
use Rattle.web_heads.specs.Accesses.{speaks_as}
use Rattle.web_requests.specs.declared.request.Request.TheVariants.{Edit}
use Rattle.hall_server.proofs.Responses.{of_other, of_request}
use Rattle.hall_server.proofs.respond.respond_entry.Goals as goal

pub returns-then-not-speaks_as-clause-responds :
    goal.returns-then-not-speaks_as-clause-responds
returns-then-not-speaks_as-clause-responds g c =
    let other : speaks_as c.args.message.now.user c.args.entry.session ≡ false =
    search rules in
    of_other _ _ c.args.message.now c.args.entry c.args.closing _ c.decline.result c.requires
    other c.decline.ensures.declines

pub returns-clause-responds : goal.returns-clause-responds
returns-clause-responds g c =
    let own : speaks_as c.args.message.now.user c.args.entry.session ≡ true = search rules in
    of_request _ _ c.args.message.now (Edit c.args.entry) c.args.closing _
    c.respond_edit.result c.requires own c.respond_edit.ensures.responds
