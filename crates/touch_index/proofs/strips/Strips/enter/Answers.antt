use Rattle.std.proofs.Common.{rules, ◌≡◌, None, Some, inl, refl, sym}
use Rattle.touch_index.specs.declared.strips.Strips.{Strips}
use Rattle.touch_index.specs.steps.Strips.{strip_at, strip_of}
use Rattle.touch_index.proofs.GridLemmas.{on_ok}
use Rattle.touch_index.proofs.StripLemmas.{adds_first_to, adds_more, adds_nothing, entered_at, keeps_all, keeps_first, keeps_more}
use Rattle.touch_index.proofs.strips.Strips.enter.Goals as goal

pub returns-in-Some-clause-entered : goal.returns-in-Some-clause-entered
returns-in-Some-clause-entered c =
    let old = c.args.self.now in
    let after = c.enter.new.self in
    let new : Strips = record { alloc = old.alloc; spans = c.get_mut.follows.lender after } in
    let there : Some c.in-Some.spans.now ≡ strip_at old (strip_of c.args.span.line) = c.in-Some.ensures.value in
    on_ok c.enter.result
    (λ entered same. entered_at old new c.args.span c.args.key c.in-Some.spans.now after (sym there) ((c.get_mut.follows.holds after).3 (rw (sym there) refl)).0 entered)
    c.enter.ensures.entered c.enter.ensures.entered

pub returns-in-Some-clause-kept : goal.returns-in-Some-clause-kept
returns-in-Some-clause-kept c =
    let old = c.args.self.now in
    let after = c.enter.new.self in
    let new : Strips = record { alloc = old.alloc; spans = c.get_mut.follows.lender after } in
    let there : Some c.in-Some.spans.now ≡ strip_at old (strip_of c.args.span.line) = c.in-Some.ensures.value in
    keeps_more old new c.args.span c.args.key c.in-Some.spans.now after (sym there) ((c.get_mut.follows.holds after).3 (rw (sym there) refl)).0 c.enter.ensures.kept

pub returns-in-Some-clause-only : goal.returns-in-Some-clause-only
returns-in-Some-clause-only c =
    let old = c.args.self.now in
    let after = c.enter.new.self in
    let new : Strips = record { alloc = old.alloc; spans = c.get_mut.follows.lender after } in
    let there : Some c.in-Some.spans.now ≡ strip_at old (strip_of c.args.span.line) = c.in-Some.ensures.value in
    adds_more old new c.args.span c.args.key c.in-Some.spans.now after (sym there) ((c.get_mut.follows.holds after).3 (rw (sym there) refl)).0 c.enter.ensures.only

pub returns-in_err-enter-clause-kept : goal.returns-in_err-enter-clause-kept
returns-in_err-enter-clause-kept c = rw c.get_mut.follows.holds-at-none (λ s k h. h)

pub returns-in_err-enter-clause-only : goal.returns-in_err-enter-clause-only
returns-in_err-enter-clause-only c = rw c.get_mut.follows.holds-at-none (λ m h. inl h)

pub returns-in_err-insert-clause-kept : goal.returns-in_err-insert-clause-kept
returns-in_err-insert-clause-kept c =
    let same = rw c.get_mut.follows.holds-at-none at c.in_err-insert.ensures.err in
    keeps_all c.args.self.now (record { alloc = c.args.self.now.alloc; spans = c.insert.new.self }) same

pub returns-in_err-insert-clause-only : goal.returns-in_err-insert-clause-only
returns-in_err-insert-clause-only c =
    let same = rw c.get_mut.follows.holds-at-none at c.in_err-insert.ensures.err in
    adds_nothing c.args.self.now (record { alloc = c.args.self.now.alloc; spans = c.insert.new.self }) c.args.span c.args.key same

pub returns-clause-kept : goal.returns-clause-kept
returns-clause-kept c =
    let new : Strips = record { alloc = c.args.self.now.alloc; spans = c.insert.new.self } in
    let none : None ≡ strip_at c.args.self.now (strip_of c.args.span.line) = search rules in
    keeps_first c.args.self.now new c.args.span c.args.key c.enter-2.new.self (sym none) (rw c.get_mut.follows.holds-at-none at c.in_ok-insert.ensures.updates).0

pub returns-clause-only : goal.returns-clause-only
returns-clause-only c =
    let new : Strips = record { alloc = c.args.self.now.alloc; spans = c.insert.new.self } in
    let none : None ≡ strip_at c.args.self.now (strip_of c.args.span.line) = search rules in
    adds_first_to c.args.self.now new c.args.span c.args.key c.enter-2.new.self (sym none) (rw c.get_mut.follows.holds-at-none at c.in_ok-insert.ensures.updates).0
    c.new-spans.result c.new-spans.ensures.empty c.enter-2.ensures.only
