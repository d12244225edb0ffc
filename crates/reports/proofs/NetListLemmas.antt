-- What a net list comes to, when more is made of it.
use Rattle.std.proofs.Common.{Result, inl, inr, ap}
use Rattle.std.specs.Result.{result_map_both}
use Rattle.project_model.specs.Projects.{ProjectData}
use Rattle.net_list.specs.declared.nets.Nets.{Nets}
use Rattle.reports.specs.NetLists.{OfNetList}

-- an answer by the net list is taken further, and so is a fault
pub further : {A B E F : Type 0} (crowded : E) (answer : Nets → A) (next : A → B) (pass : E → F) (p : ProjectData) (r : Result A E) → OfNetList crowded answer p r → OfNetList (pass crowded) (λ nets. next (answer nets)) p (result_map_both next pass r)
further crowded answer next pass p r (inl (is_crowded, is)) = inl (is_crowded, ap (result_map_both next pass) is)
further crowded answer next pass p r (inr (is_free, (nets, listed, is))) = inr (is_free, (nets, listed, ap (result_map_both next pass) is))
