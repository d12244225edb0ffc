use Rattle.std.proofs.Common.{sym}
use Rattle.link_classes.proofs.RowLemmas.{group_found}
use Rattle.link_classes.proofs.groups.group_at.Goals as goal

pub returns : goal.returns
returns c =
    sym (group_found c.args.rows.now c.requires.rising c.args.key c.in_ok-at.at c.in_ok-at.ensures
    (record { id = 0; place = 0 }, record { id = 0; place = 0 }))
