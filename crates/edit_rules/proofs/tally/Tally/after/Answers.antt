use Rattle.std.proofs.Common.{◌≡◌, ◌+◌, ◌-◌, ◌^◌, min, ◌∙◌, arith}
use Rattle.project_model.specs.Changes.{put, values_in}
use Rattle.edit_rules.proofs.WeightLemmas.{weigh_put, taken_le}
use Rattle.edit_rules.specs.Weights.{weigh, weight_in}
use Rattle.edit_rules.proofs.Summing.{after_exact, after_over}
use Rattle.edit_rules.specs.Tallies.{weights_of}
use Rattle.edit_rules.proofs.tally.Tally.after.Goals as goal

pub returns-clause-over : goal.returns-clause-over
returns-clause-over c =
    let w = weights_of c.args.which in
    let p = c.args.project.now.contents in
    let items = c.args.items.now in
    let before : c.have-before.result ≡ weigh w p = c.have-before.ensures ∙ c.requires.tallied.numbers c.args.which in
    let is : c.saturating_sub.result ≡ min (weigh w p + min (weight_in w items) (2 ^ 64 - 1)) (2 ^ 64 - 1) - min (weight_in w (values_in p items))
    (2 ^ 64 - 1) =
    omega (arith, before, c.put_in-added.ensures, c.taken_out-gone.ensures, c.saturating_sub.ensures, c.saturating_add.ensures) in
    after_over (weigh w p) (weight_in w items) (weight_in w (values_in p items)) (weigh w (put p items)) c.saturating_sub.result
    (weigh_put w p items c.requires.distinct) (taken_le w p items c.requires.distinct) (c.requires.tallied.low c.args.which) is

pub returns-clause-exact : goal.returns-clause-exact
returns-clause-exact c =
    let w = weights_of c.args.which in
    let p = c.args.project.now.contents in
    let items = c.args.items.now in
    let before : c.have-before.result ≡ weigh w p = c.have-before.ensures ∙ c.requires.tallied.numbers c.args.which in
    let is : c.saturating_sub.result ≡ min (weigh w p + min (weight_in w items) (2 ^ 64 - 1)) (2 ^ 64 - 1) - min (weight_in w (values_in p items))
    (2 ^ 64 - 1) =
    omega (arith, before, c.put_in-added.ensures, c.taken_out-gone.ensures, c.saturating_sub.ensures, c.saturating_add.ensures) in
    after_exact (weigh w p) (weight_in w items) (weight_in w (values_in p items)) (weigh w (put p items)) c.saturating_sub.result
    (weigh_put w p items c.requires.distinct) (taken_le w p items c.requires.distinct) (c.requires.tallied.low c.args.which) is
