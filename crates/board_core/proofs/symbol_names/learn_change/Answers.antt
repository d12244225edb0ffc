use Rattle.std.proofs.Common.{◌≡◌, map, subst, ap, ◌∙◌}
use Rattle.std.specs.FinMap.{entries}
use Rattle.std.specs.HashSet.{contains_text}
use Rattle.project_model.specs.Tables.{row_now}
use Rattle.net_flood.proofs.Outcomes.{on_ok}
use Rattle.board_core.specs.steps.Standing.{given_rows}
use Rattle.board_core.specs.steps.SymbolNames.{AreKnown}
use Rattle.board_core.proofs.NameLemmas.{known_more, known_put}
use Rattle.board_core.proofs.symbol_names.learn_change.Goals as goal

pub returns-clause-still : goal.returns-clause-still
returns-clause-still c = λ p. known_more (contains_text c.args.names.now) (contains_text c.learn_rows.new.names) (entries p.objects) c.learn_rows.ensures.more

pub returns-clause-known : goal.returns-clause-known
returns-clause-known c =
    let items = c.args.change.now.items in
    let old = contains_text c.args.names.now in
    let new = contains_text c.learn_rows.new.names in
    let rows : map row_now c.deref.result.now ≡ given_rows items = ap (map row_now) c.deref.ensures.value ∙ c.in_ok-rows.ensures ∙ ap given_rows c.as_slice.ensures in
    on_ok c.learn_rows.result (λ known p are. known_put old new p items c.learn_rows.ensures.more (subst (AreKnown new) rows known) are) c.learn_rows.ensures.known
