use Rattle.std.proofs.Common.{is_some, ap, ◌∙◌}
use Rattle.std.specs.FinMap as map
use Rattle.edit_rules.specs.HomeRows.{home_count}
use Rattle.edit_rules.proofs.HomeLemmas.{entered}
use Rattle.edit_rules.proofs.RowLemmas.{kept_rows}
use Rattle.edit_rules.proofs.rehoming.enter.Goals as goal

pub returns-clause-entered : goal.returns-clause-entered
returns-clause-entered c =
    λ n. ap (λ m. home_count (map.get m n)) c.set.ensures ∙ entered c.args.homes.now.rows c.args.name.now n c.count-count.result c.count-count.ensures

pub returns-clause-kept : goal.returns-clause-kept
returns-clause-kept c = λ n. ap (λ m. is_some (map.get m n)) c.set.ensures ∙ kept_rows c.args.homes.now.rows c.args.name.now n _ c.requires.there
