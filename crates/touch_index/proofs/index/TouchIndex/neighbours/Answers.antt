use Rattle.std.proofs.Common.{ap, sym, ◌∙◌}
use Rattle.std.proofs.lemmas.Result.{IfOk-weaker}
use Rattle.std.specs.FinMap as map
use Rattle.geda_geom.specs.declared.conductor.Key.{Key}
use Rattle.touch_index.specs.steps.Sifting.{conductor_at}
use Rattle.touch_index.proofs.MapLemmas.{get_key}
use Rattle.touch_index.proofs.NeighbourLemmas.{neighbours_alike}
use Rattle.touch_index.proofs.index.TouchIndex.neighbours.Goals as goal

pub returns-clause-same : goal.returns-clause-same
returns-clause-same c =
    let same = λ (q : Key). sym (get_key c.self.inside.conductors.entries q) ∙ ap (λ t. map.get t.conductors q) c.self.view_is in
    IfOk-weaker c.touching.result _ _ (λ keys h. neighbours_alike (conductor_at c.self.inside.conductors.entries) (map.get c.args.self.now.conductors) same c.args.key keys.items h) c.touching.ensures.same
