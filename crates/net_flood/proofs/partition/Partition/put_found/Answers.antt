use Rattle.std.proofs.Common.{◌≡◌, ◌∷◌, rules, sym, subst, ◌∙◌}
use Rattle.net_flood.specs.steps.Found.{IsMovingFound}
use Rattle.net_flood.specs.steps.Partition.{Heads}
use Rattle.net_flood.proofs.FoundLemmas.{found_begins, found_more, found_past, head_free, head_known, key_free, key_known}
use Rattle.net_flood.proofs.partition.Partition.put_found.Goals as goal

pub loop-key-init : goal.loop-key-init
loop-key-init c =
    let gives = c.into_iter-key-iterator.ensures.into_iter_gives in
    subst (λ (es : Heads). IsMovingFound c.args.start c.args.found.now.entries es c.args.left.now c.args.left.now c.args.self.now c.args.self.now) (sym gives.0)
    (found_begins c.args.start c.args.found.now.entries c.args.left.now c.args.self.now gives.4 c.requires.partition)

pub put-requires-clause-there : goal.put-requires-clause-there
put-requires-clause-there c =
    let are : c.loop-key.key-iterator ≡ (c.in-Some.key.now, c.in-Some.head.now) ∷ c.next.new.self = search rules in
    head_known c.args.start c.args.found.now.entries c.args.left.now c.args.self.now c.in-Some.key.now c.in-Some.head.now c.loop-key.key-iterator c.next.new.self are c.loop-key.left c.loop-key.self c.loop-key.invariant c.requires.own c.requires.there c.requires.free

pub put-requires-clause-free : goal.put-requires-clause-free
put-requires-clause-free c =
    let are : c.loop-key.key-iterator ≡ (c.in-Some.key.now, c.in-Some.head.now) ∷ c.next.new.self = search rules in
    head_free c.args.start c.args.found.now.entries c.args.left.now c.args.self.now c.in-Some.key.now c.in-Some.head.now c.loop-key.key-iterator c.next.new.self are c.loop-key.left c.loop-key.self c.loop-key.invariant c.requires.own c.requires.there c.requires.free

pub put-requires-then-not-is_that-clause-there : goal.put-requires-then-not-is_that-clause-there
put-requires-then-not-is_that-clause-there c =
    let are : c.loop-key.key-iterator ≡ (c.in-Some.key.now, c.in-Some.head.now) ∷ c.next.new.self = search rules in
    key_known c.args.start c.args.found.now.entries c.args.left.now c.args.self.now c.in-Some.key.now c.in-Some.head.now c.loop-key.key-iterator c.next.new.self are c.loop-key.left c.loop-key.self c.loop-key.invariant c.requires.own c.requires.there c.requires.free
    c.put.new.self c.put.ensures.keys c.in_ok-put.ensures.puts

pub put-requires-then-not-is_that-clause-free : goal.put-requires-then-not-is_that-clause-free
put-requires-then-not-is_that-clause-free c =
    let are : c.loop-key.key-iterator ≡ (c.in-Some.key.now, c.in-Some.head.now) ∷ c.next.new.self = search rules in
    key_free c.args.start c.args.found.now.entries c.args.left.now c.args.self.now c.in-Some.key.now c.in-Some.head.now c.loop-key.key-iterator c.next.new.self are c.loop-key.left c.loop-key.self c.loop-key.invariant c.requires.own c.requires.there c.requires.free
    c.put.new.self c.put.ensures.keys c.in_ok-put.ensures.puts

pub loop-key-preserved-in-Continue-branch-2 : goal.loop-key-preserved-in-Continue-branch-2
loop-key-preserved-in-Continue-branch-2 c =
    let are : c.loop-key.key-iterator ≡ (c.in-Some.key.now, c.in-Some.head.now) ∷ c.next.new.self = search rules in
    found_more c.args.start c.args.found.now.entries c.args.left.now c.args.self.now c.in-Some.key.now c.in-Some.head.now c.loop-key.key-iterator c.next.new.self are c.loop-key.left c.loop-key.self c.loop-key.invariant c.requires.own c.requires.there c.requires.free
    c.put.new.self c.put.ensures.keys c.in_ok-put.ensures.puts c.put-then-not-is_that.new.self c.remove.new.self (sym c.is_that.ensures ∙ c.if-not-is_that.true)
    c.put-then-not-is_that.ensures.keys c.in_ok-put-2.ensures.puts c.remove.ensures.updates.0

pub loop-key-preserved : goal.loop-key-preserved
loop-key-preserved c =
    let are : c.loop-key.key-iterator ≡ (c.in-Some.key.now, c.in-Some.head.now) ∷ c.next.new.self = search rules in
    found_past c.args.start c.args.found.now.entries c.args.left.now c.args.self.now c.in-Some.key.now c.in-Some.head.now c.loop-key.key-iterator c.next.new.self are c.loop-key.left c.loop-key.self c.loop-key.invariant (sym c.is_that.ensures ∙ c.if-not-is_that.false)
