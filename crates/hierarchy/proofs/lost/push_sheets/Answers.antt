use Rattle.std.proofs.Common.{ℕ, List, ◌++◌, not, filter, map, ap, ◌∙◌, append_assoc}
use Rattle.std.specs.Prelude.{false, slice_index_or}
use Rattle.std.specs.List.{range_with_len}
use Rattle.hierarchy.specs.declared.lost.Lost.{Lost}
use Rattle.hierarchy.specs.Lost.{unreached_at}
use Rattle.hierarchy.specs.steps.Widening.{if_unmarked}
use Rattle.hierarchy.proofs.WideningLemmas.{unmarked_more}
use Rattle.hierarchy.proofs.lost.push_sheets.Goals as goal

pub loop-place-preserved : goal.loop-place-preserved
loop-place-preserved c =
    let marks = c.args.reached.now in
    let n = c.loop-place.place in
    let f : ℕ → Lost = unreached_at c.args.sheets.now in
    let front : List Lost = map f (filter (λ place. not (slice_index_or marks place false)) (range_with_len 0 n)) in
    let last : List Lost = if_unmarked f (slice_index_or marks n false) n in
    c.in_ok-push_sheet.ensures
    ∙ ap (λ (ls : List Lost). ls ++ last) c.loop-place.invariant
    ∙ append_assoc c.args.lost.now.items front last
    ∙ ap (λ (ls : List Lost). c.args.lost.now.items ++ ls) (unmarked_more f marks n)
