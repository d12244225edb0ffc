use Rattle.std.proofs.Common.{rules, ◌≡◌, None, Some, refl, sym}
use Rattle.touch_index.specs.declared.strips.Strips.{Strips}
use Rattle.touch_index.specs.steps.Strips.{strip_at, strip_of}
use Rattle.touch_index.proofs.StripLemmas.{differ_twice, keeps_last, keeps_less, takes_last, takes_nothing, takes_one}
use Rattle.touch_index.proofs.strips.Strips.leave.Goals as goal

pub returns-in_default-clause-kept : goal.returns-in_default-clause-kept
returns-in_default-clause-kept c = rw c.get_mut.follows.holds-at-none (λ s k apart h. h)

pub returns-in_default-clause-only : goal.returns-in_default-clause-only
returns-in_default-clause-only c =
    let none : None ≡ strip_at c.args.self.now (strip_of c.args.span.line) = search rules in
    rw c.get_mut.follows.holds-at-none (takes_nothing c.args.self.now c.args.span c.args.key (sym none))

pub returns-then-is_empty-clause-kept : goal.returns-then-is_empty-clause-kept
returns-then-is_empty-clause-kept c =
    let old = c.args.self.now in
    let after = c.leave.new.self in
    let mid : Strips = record { alloc = old.alloc; spans = c.get_mut.follows.lender after } in
    let new : Strips = record { alloc = old.alloc; spans = c.remove.new.self } in
    let there : Some c.in-Some.spans.now ≡ strip_at old (strip_of c.args.span.line) = c.in-Some.ensures.value in
    let differ = differ_twice old mid new (strip_of c.args.span.line) (Some after) None ((c.get_mut.follows.holds after).3 (rw (sym there) refl)).0 c.remove.ensures.updates.0 in
    keeps_last old new c.args.span c.args.key c.in-Some.spans.now after (sym there) differ (c.is_empty.ensures c.if-is_empty.true) c.leave.ensures.kept

pub returns-then-is_empty-clause-only : goal.returns-then-is_empty-clause-only
returns-then-is_empty-clause-only c =
    let old = c.args.self.now in
    let after = c.leave.new.self in
    let mid : Strips = record { alloc = old.alloc; spans = c.get_mut.follows.lender after } in
    let new : Strips = record { alloc = old.alloc; spans = c.remove.new.self } in
    let there : Some c.in-Some.spans.now ≡ strip_at old (strip_of c.args.span.line) = c.in-Some.ensures.value in
    let differ = differ_twice old mid new (strip_of c.args.span.line) (Some after) None ((c.get_mut.follows.holds after).3 (rw (sym there) refl)).0 c.remove.ensures.updates.0 in
    takes_last old new c.args.span c.args.key c.in-Some.spans.now after (sym there) differ (c.is_empty.ensures c.if-is_empty.true)

pub returns-else-is_empty-clause-kept : goal.returns-else-is_empty-clause-kept
returns-else-is_empty-clause-kept c =
    let old = c.args.self.now in
    let after = c.leave.new.self in
    let new : Strips = record { alloc = old.alloc; spans = c.get_mut.follows.lender after } in
    let there : Some c.in-Some.spans.now ≡ strip_at old (strip_of c.args.span.line) = c.in-Some.ensures.value in
    keeps_less old new c.args.span c.args.key c.in-Some.spans.now after (sym there) ((c.get_mut.follows.holds after).3 (rw (sym there) refl)).0 c.leave.ensures.kept

pub returns-else-is_empty-clause-only : goal.returns-else-is_empty-clause-only
returns-else-is_empty-clause-only c =
    let old = c.args.self.now in
    let after = c.leave.new.self in
    let new : Strips = record { alloc = old.alloc; spans = c.get_mut.follows.lender after } in
    let there : Some c.in-Some.spans.now ≡ strip_at old (strip_of c.args.span.line) = c.in-Some.ensures.value in
    takes_one old new c.args.span c.args.key c.in-Some.spans.now after (sym there) ((c.get_mut.follows.holds after).3 (rw (sym there) refl)).0 c.leave.ensures.only
