use Rattle.touch_index.specs.steps.Sifting.{conductor_at}
use Rattle.touch_index.proofs.MapLemmas.{drawn_none, indexed_none}
use Rattle.touch_index.proofs.index.TouchIndex.new.Goals as goal

pub invariant_of-result : goal.invariant_of-result
invariant_of-result c = (
  indexed_none c.new.result.entries c.new-2.result c.new.ensures.empty,
  drawn_none (conductor_at c.new.result.entries) c.new-2.result c.new-2.ensures,
)
