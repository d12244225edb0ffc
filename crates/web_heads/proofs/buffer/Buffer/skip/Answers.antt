use Rattle.std.proofs.Common.{rules, ◌≡◌, ◌≤◌, ◌+◌, ◌-◌, length, take, drop, sym, ap, ◌∙◌, arith, length-drop}
use Rattle.std.specs.List.{copy_within}
use Rattle.std.proofs.lemmas.List.{with_items_is, places, drop-take}
use Rattle.std.proofs.lemmas.List.Edits.{take-paste}
use Rattle.web_heads.proofs.buffer.Buffer.skip.Goals as goal

pub returns : goal.returns
returns c =
    let xs = c.as_mut_slice.result.now in
    let have = c.self.inside.have in
    let left = have - c.args.count in
    let long : have ≤ length xs = search rules in
    let few : c.args.count ≤ have = search rules in
    let same : left ≡ 0 + left = omega arith in
    let all : c.args.count + left ≡ have = omega (arith, few) in
    let rest = length-drop c.args.count xs in
    ap (take left) (with_items_is c.self.inside.bytes c.copy_within.new.self (search (rules, places)) ∙ c.copy_within.ensures.after)
    ∙ ap (λ k. take k (copy_within xs c.args.count have 0)) same
    ∙ take-paste xs 0 (drop c.args.count xs) left (omega (arith, long, few, rest)) (omega (arith, long, few, rest))
    ∙ sym (drop-take c.args.count left xs)
    ∙ ap (λ k. drop c.args.count (take k xs)) all
    ∙ ap (drop c.args.count) (ap (take have) c.as_mut_slice.ensures.value ∙ c.self.view_is)
