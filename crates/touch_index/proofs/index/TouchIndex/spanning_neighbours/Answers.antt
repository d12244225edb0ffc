use Rattle.std.proofs.Common.{Option, ap, subst, sym, ◌∙◌, ◌≡◌}
use Rattle.std.proofs.lemmas.Result.{IfOk-weaker}
use Rattle.std.specs.FinMap as map
use Rattle.geda_geom.specs.declared.conductor.Key.{Key}
use Rattle.geda_geom.specs.declared.conductor.Conductor.{Conductor}
use Rattle.touch_index.specs.Index.{IsSpanning}
use Rattle.touch_index.specs.steps.Sifting.{conductor_at}
use Rattle.touch_index.proofs.MapLemmas.{get_key}
use Rattle.touch_index.proofs.index.TouchIndex.spanning_neighbours.Goals as goal

pub returns-clause-spanning : goal.returns-clause-spanning
returns-clause-spanning c =
    let same : (q : Key) → conductor_at c.self.inside.conductors.entries q ≡ map.get c.args.self.now.conductors q =
    λ q. sym (get_key c.self.inside.conductors.entries q) ∙ ap (λ t. map.get t.conductors q) c.self.view_is in
    IfOk-weaker c.spanning.result _ _
    (λ keys h. subst (λ (at : Key → Option Conductor). IsSpanning at c.args.key keys.items) (λ i q. same q i) h) c.spanning.ensures.spanning
