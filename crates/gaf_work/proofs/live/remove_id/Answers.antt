use Rattle.std.proofs.Common.{List, ℕ, ap, remove, subst, ◌∙◌}
use Rattle.gaf_work.proofs.LiveLemmas.{IsFound, found, remove_found, remove_missing}
use Rattle.gaf_work.proofs.live.remove_id.Goals as goal

pub returns-in-Ok : goal.returns-in-Ok
returns-in-Ok c = λ objects same.
    let is = found objects c.args.id c.binary_search.result c.deref.result.now (c.deref.ensures.value ∙ same) c.binary_search.ensures.position in
    c.remove.ensures.items ∙ ap (λ (ids : List ℕ). remove ids c.in-Ok.place) same
    ∙ remove_found objects c.args.id c.in-Ok.place (subst (IsFound objects c.args.id) c.in-Ok.is is)

pub returns-in_default : goal.returns-in_default
returns-in_default c = λ objects same.
    let is = found objects c.args.id c.binary_search.result c.deref.result.now (c.deref.ensures.value ∙ same) c.binary_search.ensures.position in
    same ∙ remove_missing objects c.args.id c.in_default.field-0 (subst (IsFound objects c.args.id) c.in_default.is is)
