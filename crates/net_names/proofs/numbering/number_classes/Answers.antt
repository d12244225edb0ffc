use Rattle.std.proofs.Common.{◌≡◌, [], ◌+◌, ◌<◌, ◌≤◌, ◌^◌, ℕ, List, true, false, drop, get_or, length, rules, arith, sym, subst, ap, ◌∙◌}
use Rattle.std.proofs.lemmas.List.{drop_all, get_or_read}
use Rattle.std.proofs.lemmas.List.Elements.{All-get_or}
use Rattle.net_names.specs.steps.Classes.{bodies_of, net_with}
use Rattle.net_names.specs.steps.Gathering.{empty_class, is_nameless}
use Rattle.net_names.specs.steps.Numbering.{GoesOn}
use Rattle.net_names.proofs.BodyLemmas.{left_skip, left_take}
use Rattle.net_names.proofs.NumberingLemmas.{goes_last, goes_take, take_later}
use Rattle.net_names.proofs.numbering.number_classes.Goals as goal

pub loop-at-preserved : goal.loop-at-preserved
loop-at-preserved c =
    let kept = c.loop-at.invariant in
    let classes = c.args.classes.now in
    let met = classes.met.items in
    let growing = classes.growing.items in
    let at = c.loop-at.at in
    let label = c.index-label.result.now in
    let prefix = c.args.prefix.now in
    let sort = c.args.sort in
    let first = c.args.taken.keys in
    let taken = c.loop-at.taken.keys in
    let later = c.free_name.new.taken.keys in
    let number = c.in_ok-number.number in
    let next = c.in_ok-number.ensures.number in
    let inside : at < length met = search (rules, arith) in
    let small : number < 2 ^ 64 = omega (arith, kept.small, kept.count, next.fewer, inside) in
    let label_is : label ≡ get_or met at 0 = get_or_read met at label inside c.index-label.ensures 0 in
    let known = All-get_or (λ (l : ℕ). l < length growing) met at 0 inside c.requires.whole.met in
    let below : label < length growing = omega (arith, known, label_is) in
    let read = get_or_read growing label c.index.result.now below c.index.ensures empty_class in
    let nameless : c.is_nameless.result ≡ true = search rules in
    let test : is_nameless sort (get_or growing label empty_class) ≡ true = ap (is_nameless sort) (sym read) ∙ sym c.is_nameless.ensures ∙ nameless in
    record {
      stem = c.in_ok-number.ensures.stem;
      small = kept.small;
      count = omega (arith, kept.count, next.fewer);
      same = take_later prefix first taken later c.loop-at.next number kept.same next;
      rest = λ conductors labels are.
          let made = c.net_with.ensures ∙ ap (λ (text : List ℕ). net_with text sort c.in_ok-body.body) (c.name.view_is ∙ c.in_ok-number.ensures.name) in
          let left = left_take conductors labels are.labels_len classes are sort met at label c.in_ok-body.body inside label_is (omega (arith, below, are.len)) test (c.in_ok-body.ensures conductors labels are) in
          goes_take prefix sort first taken later c.loop-at.next number c.in_ok-body.body (bodies_of conductors labels sort (drop (at + 1) met)) (bodies_of conductors labels sort (drop at met)) (bodies_of conductors labels sort met)
          c.net_with.result c.args.nets.now.items c.loop-at.nets.items c.push.new.self.items small kept.same next made c.in_ok-push.ensures.items left (kept.rest conductors labels are);
    }

pub loop-at-preserved-then-not-is_nameless : goal.loop-at-preserved-then-not-is_nameless
loop-at-preserved-then-not-is_nameless c =
    let kept = c.loop-at.invariant in
    let classes = c.args.classes.now in
    let met = classes.met.items in
    let growing = classes.growing.items in
    let at = c.loop-at.at in
    let label = c.index-label.result.now in
    let sort = c.args.sort in
    let inside : at < length met = search (rules, arith) in
    let label_is : label ≡ get_or met at 0 = get_or_read met at label inside c.index-label.ensures 0 in
    let known = All-get_or (λ (l : ℕ). l < length growing) met at 0 inside c.requires.whole.met in
    let below : label < length growing = omega (arith, known, label_is) in
    let read = get_or_read growing label c.index.result.now below c.index.ensures empty_class in
    let other : c.is_nameless.result ≡ false = search rules in
    let test : is_nameless sort (get_or growing label empty_class) ≡ false = ap (is_nameless sort) (sym read) ∙ sym c.is_nameless.ensures ∙ other in
    record {
      stem = kept.stem;
      small = kept.small;
      count = omega (arith, kept.count);
      same = kept.same;
      rest = λ conductors labels are.
          subst (GoesOn c.args.prefix.now sort c.args.taken.keys (length c.loop-at.taken.keys) c.loop-at.next c.args.nets.now.items c.loop-at.nets.items (bodies_of conductors labels sort met))
          (left_skip conductors labels are.labels_len classes are sort met at label inside label_is (omega (arith, below, are.len)) test)
          (kept.rest conductors labels are);
    }

pub returns : goal.returns
returns c = λ conductors labels are.
    let met = c.args.classes.now.met.items in
    let prefix = c.args.prefix.now in
    let sort = c.args.sort in
    let first = c.args.taken.keys in
    let more = length c.loop-at.taken.keys in
    let all = bodies_of conductors labels sort met in
    let over : length met ≤ c.loop-at.at = search (rules, arith) in
    let none : drop c.loop-at.at met ≡ [] = drop_all c.loop-at.at met over in
    goes_last prefix sort first more c.loop-at.next c.args.nets.now.items c.loop-at.nets.items all
    (subst (λ (rs : List ℕ). GoesOn prefix sort first more c.loop-at.next c.args.nets.now.items c.loop-at.nets.items all (bodies_of conductors labels sort rs)) none (c.loop-at.invariant.rest conductors labels are))
