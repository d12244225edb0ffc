use Rattle.std.proofs.Common.{◌≡◌, ◌<◌, Some, None, get_or, length, ap, sym, ◌∙◌, arith, rules}
use Rattle.net_list.specs.declared.nets.NetSort.TheVariants as sorts
use Rattle.net_names.specs.steps.Classes.{net_with}
use Rattle.std.proofs.lemmas.List.{get_or_read}
use Rattle.net_names.specs.steps.Gathering.{GrowingClassData, empty_class}
use Rattle.net_names.proofs.BodyLemmas.{nameless_named, none_named, one_named}
use Rattle.net_names.proofs.named.push_named.Goals as goal

pub returns-then-index-len : goal.returns-then-index-len
returns-then-index-len c = λ conductors labels are.
    let classes = c.args.classes.now in
    let label = c.args.label in
    let heads = classes.chains.heads.items in
    let inside : label < length heads = omega (arith, c.requires.label, c.requires.whole.heads) in
    let head : c.index.result.now ≡ get_or heads label 0 = get_or_read heads label c.index.result.now inside c.index.ensures 0 in
    none_named conductors labels are.labels_len classes are label c.args.named.now.items (omega (arith, c.requires.label, are.len)) (omega (arith, head, c.len.ensures))

pub returns-in_ok-push : goal.returns-in_ok-push
returns-in_ok-push c = λ conductors labels are.
    let classes = c.args.classes.now in
    let label = c.args.label in
    let heads = classes.chains.heads.items in
    let inside : label < length heads = omega (arith, c.requires.label, c.requires.whole.heads) in
    let head : c.index.result.now ≡ get_or heads label 0 = get_or_read heads label c.index.result.now inside c.index.ensures 0 in
    let read : c.index-2.result.now ≡ get_or classes.growing.items label empty_class = get_or_read classes.growing.items label c.index-2.result.now c.requires.label c.index-2.ensures empty_class in
    let found : c.index-2.result.now.least ≡ Some c.in_ok-name.name = search rules in
    let made : c.net_with-net.result ≡ net_with c.in_ok-name.name sorts.Named c.in_ok-body.body = search rules in
    one_named conductors labels are.labels_len classes are label c.args.named.now.items c.push.new.self.items c.in_ok-name.name c.in_ok-body.body c.net_with-net.result
    (omega (arith, c.requires.label, are.len)) (omega (arith, head, c.len.ensures)) (ap (λ (g : GrowingClassData). g.least) (sym read) ∙ found) (c.in_ok-body.ensures conductors labels are) made c.in_ok-push.ensures.items

pub returns-in_default : goal.returns-in_default
returns-in_default c = λ conductors labels are.
    let classes = c.args.classes.now in
    let label = c.args.label in
    let read : c.index-2.result.now ≡ get_or classes.growing.items label empty_class = get_or_read classes.growing.items label c.index-2.result.now c.requires.label c.index-2.ensures empty_class in
    let none : c.index-2.result.now.least ≡ None = search rules in
    nameless_named conductors labels are.labels_len classes are label c.args.named.now.items (omega (arith, c.requires.label, are.len)) (ap (λ (g : GrowingClassData). g.least) (sym read) ∙ none)
