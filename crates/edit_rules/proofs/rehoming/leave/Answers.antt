use Rattle.std.proofs.Common.{◌+◌, ◌<◌, cond, is_some, ap, ◌∙◌, arith}
use Rattle.std.specs.FinMap as map
use Rattle.std.specs.Str.{bytes_eq}
use Rattle.edit_rules.specs.HomeRows.{home_count}
use Rattle.edit_rules.proofs.HomeLemmas.{left}
use Rattle.edit_rules.proofs.RowLemmas.{kept_rows, there}
use Rattle.edit_rules.proofs.rehoming.leave.Goals as goal

pub set-requires : goal.set-requires
set-requires c = there _ c.requires

pub returns-clause-left : goal.returns-clause-left
returns-clause-left c =
    let some : 0 < c.count-count.result = omega (arith, c.count-count.ensures, c.requires) in
    λ n. ap (λ m. home_count (map.get m n) + cond (bytes_eq n c.args.name.now) 1 0) c.set.ensures
    ∙ left c.args.homes.now.rows c.args.name.now n c.count-count.result c.count-count.ensures some

pub returns-clause-kept : goal.returns-clause-kept
returns-clause-kept c = λ n. ap (λ m. is_some (map.get m n)) c.set.ensures ∙ kept_rows c.args.homes.now.rows c.args.name.now n _ (there _ c.requires)
