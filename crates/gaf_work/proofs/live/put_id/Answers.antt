use Rattle.std.proofs.Common.{List, ℕ, ap, insert, subst, ◌∙◌}
use Rattle.gaf_work.proofs.LiveLemmas.{IsFound, found, put_found, put_missing}
use Rattle.gaf_work.proofs.live.put_id.Goals as goal

pub returns-in_ok-insert : goal.returns-in_ok-insert
returns-in_ok-insert c = λ objects placed same.
    let is = found objects c.args.id c.binary_search.result c.deref.result.now (c.deref.ensures.value ∙ same) c.binary_search.ensures.position in
    c.in_ok-insert.ensures.items ∙ ap (λ (ids : List ℕ). insert ids c.in-Err.place c.args.id) same
    ∙ put_missing objects c.args.id c.in-Err.place placed (subst (IsFound objects c.args.id) c.in-Err.is is)

pub returns-in_default : goal.returns-in_default
returns-in_default c = λ objects placed same.
    let is = found objects c.args.id c.binary_search.result c.deref.result.now (c.deref.ensures.value ∙ same) c.binary_search.ensures.position in
    same ∙ put_found objects c.args.id c.in_default.field-0 placed (subst (IsFound objects c.args.id) c.in_default.is is)
