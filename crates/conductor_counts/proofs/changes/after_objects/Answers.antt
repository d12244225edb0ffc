use Rattle.std.proofs.Common.{◌≡◌, ◌+◌, arith, rules}
use Rattle.project_model.specs.Changes.{values_in}
use Rattle.edit_rules.specs.Weights.{weight_in}
use Rattle.conductor_counts.specs.Conductors.{conductor_weights}
use Rattle.conductor_counts.proofs.Counting.{after_change, taken_is_less}
use Rattle.conductor_counts.proofs.changes.after_objects.Goals as goal

pub overflow_sub-result : goal.overflow_sub-result
overflow_sub-result c =
    let p = c.args.project.now.contents in
    let items = c.args.change.now.items in
    let less = taken_is_less p items c.requires.can_apply in
    let added : c.in_ok-added.added ≡ weight_in (conductor_weights p.symbols) items = search rules in
    let gone : c.in_ok-gone.gone ≡ weight_in (conductor_weights p.symbols) (values_in p items) = search rules in
    let all : c.in_ok-all.all ≡ c.args.before + c.in_ok-added.added = search rules in
    omega (arith, less, added, gone, all, c.requires.before)

pub returns : goal.returns
returns c =
    let p = c.args.project.now.contents in
    let items = c.args.change.now.items in
    let balance = after_change p items c.requires.can_apply c.requires.objects in
    let added : c.in_ok-added.added ≡ weight_in (conductor_weights p.symbols) items = search rules in
    let gone : c.in_ok-gone.gone ≡ weight_in (conductor_weights p.symbols) (values_in p items) = search rules in
    let all : c.in_ok-all.all ≡ c.args.before + c.in_ok-added.added = search rules in
    omega (arith, balance, added, gone, all, c.requires.before)
