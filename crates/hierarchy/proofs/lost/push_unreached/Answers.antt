use Rattle.std.proofs.Common.{ℕ, List, ◌++◌, length, map, ap, ◌∙◌}
use Rattle.std.specs.List.{list_any}
use Rattle.std.proofs.lemmas.Result.{on_ok_weaker}
use Rattle.hierarchy.specs.declared.lost.Lost.{Lost}
use Rattle.hierarchy.specs.Lost.{unreached_at}
use Rattle.hierarchy.specs.Ways.{is_on}
use Rattle.hierarchy.proofs.WideningLemmas.{marks_are}
use Rattle.hierarchy.proofs.lost.push_unreached.Goals as goal

pub returns : goal.returns
returns c =
    let f : ℕ → Lost = unreached_at c.args.sheets.now in
    let count = length c.args.sheets.now in
    let are = marks_are c.args.reached.now c.mark_ways.new.reached count (λ place. list_any (λ w. is_on w place) c.args.ways.now) c.requires c.mark_ways.ensures in
    on_ok_weaker c.push_sheets.result (λ same. same ∙ ap (λ (places : List ℕ). c.args.lost.now.items ++ map f places) are) c.push_sheets.ensures
