use Rattle.std.proofs.Common.{◌≡◌, ◌++◌, ◌+◌, ◌<◌, ◌^◌, List, ℕ, length, true, decimal, arith, subst, sym, ap, ◌∙◌}
use Rattle.std.specs.List.{list_any}
use Rattle.std.specs.Set.{remove_key}
use Rattle.std.specs.BTreeMap.{is_at}
use Rattle.std.proofs.lemmas.Map.Made.{length-remove_key}
use Rattle.geda_defs.specs.Order.{by_bytes}
use Rattle.net_names.specs.steps.Numbering.{is_taken, TakeSame}
use Rattle.net_names.proofs.NumberingLemmas.{one_more, take_same}
use Rattle.net_names.proofs.numbering.free_name.Goals as goal

pub loop-alloc-preserved : goal.loop-alloc-preserved
loop-alloc-preserved c =
    let kept = c.loop-alloc.invariant in
    let prefix = c.args.prefix.now in
    let from = c.args.from in
    let number = c.loop-alloc.number in
    let first = c.args.taken.now.keys in
    let taken = c.loop-alloc.taken.keys in
    let text = prefix ++ decimal number in
    let hit : is_taken prefix taken number ≡ true = ap (λ (t : List ℕ). list_any (is_at (by_bytes t)) taken) (sym kept.name) ∙ sym c.take_out.ensures.test ∙ c.loop-alloc-test.true in
    let left : c.take_out.new.taken.keys ≡ remove_key (is_at (by_bytes text)) taken = c.take_out.ensures.keys ∙ ap (λ (t : List ℕ). remove_key (is_at (by_bytes t)) taken) kept.name in
    let fewer = length-remove_key (is_at (by_bytes text)) taken hit in
    let small : number < 2 ^ 64 = omega (arith, kept.fewer, c.requires) in
    record {
      stem = c.in_ok-name-2.ensures.stem;
      name = c.in_ok-name-2.ensures.name;
      above = omega (arith, kept.above);
      skipped = one_more prefix first taken from number small kept.skipped kept.same hit;
      same = subst (λ (keys : List (List ℕ)). TakeSame prefix first keys (number + 1)) (sym left) (take_same prefix first taken number small kept.same);
      fewer = omega (arith, kept.fewer, fewer, ap length left);
    }

pub loop-alloc-smaller : goal.loop-alloc-smaller
loop-alloc-smaller c =
    let taken = c.loop-alloc.taken.keys in
    let hit : list_any (is_at (by_bytes c.loop-alloc.name)) taken ≡ true = sym c.take_out.ensures.test ∙ c.loop-alloc-test.true in
    omega (arith, length-remove_key (is_at (by_bytes c.loop-alloc.name)) taken hit, ap length c.take_out.ensures.keys)
