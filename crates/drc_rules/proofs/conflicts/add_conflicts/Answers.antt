use Rattle.std.proofs.Common.{◌≡◌, ◌<◌, List, length, rules, subst, true}
use Rattle.net_list.specs.declared.member.Member.{Member}
use Rattle.drc_rules.specs.steps.Meetings.{all_may_meet}
use Rattle.drc_rules.proofs.ConflictLemmas.{few_found}
use Rattle.drc_rules.proofs.MeetingLemmas.{nothing_found}
use Rattle.drc_rules.proofs.conflicts.add_conflicts.Goals as goal

pub returns-then-as_slice-lt2 : goal.returns-then-as_slice-lt2
returns-then-as_slice-lt2 c =
    let few : length c.args.net.now.members < 2 = search rules in
    few_found c.args.found.now.items c.args.matrix.now c.args.net.now few

pub returns-then-few_may_meet : goal.returns-then-few_may_meet
returns-then-few_may_meet c =
    let members : c.as_slice-2.result.now ≡ c.args.net.now.members = search rules in
    let may = c.few_may_meet.ensures (let h = c.if-few_may_meet.true in cc) in
    nothing_found c.args.matrix.now c.args.net.now (subst (λ (ms : List Member). all_may_meet c.args.matrix.now ms ≡ true) members may) c.args.found.now.items
