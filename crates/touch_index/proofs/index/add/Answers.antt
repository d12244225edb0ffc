use Rattle.std.proofs.Common.{ap, sym, ◌∙◌}
use Rattle.touch_index.specs.steps.Sifting.{conductor_at}
use Rattle.touch_index.proofs.MapLemmas.{indexed_kept, indexed_more}
use Rattle.touch_index.proofs.index.add.Goals as goal

pub returns-in_err-enter-clause-indexed : goal.returns-in_err-enter-clause-indexed
returns-in_err-enter-clause-indexed c =
    indexed_kept c.args.conductors.now.entries c.args.grid.now c.enter.new.self c.enter.ensures.rows c.enter.ensures.columns c.requires

pub returns-in_err-insert-clause-indexed : goal.returns-in_err-insert-clause-indexed
returns-in_err-insert-clause-indexed c =
    let kept = indexed_kept c.args.conductors.now.entries c.args.grid.now c.enter.new.self c.enter.ensures.rows c.enter.ensures.columns c.requires in
    λ k d h. kept k d (ap (λ es. conductor_at es k) (sym c.in_err-insert.ensures.err) ∙ h)

pub returns-clause-indexed : goal.returns-clause-indexed
returns-clause-indexed c =
    indexed_more c.args.conductors.now.entries c.insert.new.self.entries c.args.grid.now c.enter.new.self c.args.key c.args.conductor c.in_ok-insert.ensures.updates.0
    c.in_ok-enter.ensures.has c.enter.ensures.rows c.enter.ensures.columns c.requires
