use Rattle.std.proofs.Common.{◌≡◌, ◌<◌, get_or, length, refl, ◌∙◌, arith}
use Rattle.std.proofs.lemmas.List.{get_or_read}
use Rattle.net_names.specs.steps.Gathering.{empty_class}
use Rattle.net_names.proofs.BodyLemmas.{body_is}
use Rattle.net_names.proofs.net_classes.NetClasses.body.Goals as goal

pub returns : goal.returns
returns c = λ conductors labels are.
    let classes = c.args.self.now in
    let label = c.args.label in
    let heads = classes.chains.heads.items in
    let inside : label < length heads = omega (arith, c.requires.label, c.requires.whole.heads) in
    let head : c.index-head.result.now ≡ get_or heads label 0 = get_or_read heads label c.index-head.result.now inside c.index-head.ensures 0 in
    let told = rw (c.deref.ensures.value, head) at c.in_ok-members.ensures in
    body_is conductors labels are.labels_len classes are label c.in_ok-members.members _ (omega (arith, c.requires.label, are.len)) told _
    (c.growing.view_is ∙ get_or_read classes.growing.items label c.index-growing.result.now c.requires.label c.index-growing.ensures empty_class) refl
