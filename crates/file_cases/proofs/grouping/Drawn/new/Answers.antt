use Rattle.std.proofs.Common.{ap, is_some, sym, ◌∙◌}
use Rattle.std.specs.FinMap.{get, get-empty}
use Rattle.geda_geom.specs.Keys.{by_key}
use Rattle.net_flood.specs.Grouping.{GroupsData}
use Rattle.net_flood.proofs.SetLemmas.{set_none}
use Rattle.file_cases.proofs.grouping.Drawn.new.Goals as goal

pub invariant_of-result : goal.invariant_of-result
invariant_of-result c = record {
  are_fresh = ap (λ (g : GroupsData). g.fresh) c.new.ensures.empty;
  same = λ k. ap (λ (g : GroupsData). is_some (get g.conductors k)) c.new.ensures.empty ∙ ap is_some (get-empty by_key k) ∙ sym (set_none c.new-2.result c.new-2.ensures.empty k);
}
