use Rattle.std.proofs.Common.{◌≡◌, Some, sym}
use Rattle.touch_index.specs.steps.Strips.{strip_at, strip_of}
use Rattle.touch_index.proofs.GridLemmas.{on_ok}
use Rattle.touch_index.proofs.StripLemmas.{line_proper, met_on}
use Rattle.touch_index.proofs.strips.Strips.push_meeting.Goals as goal

pub push_meeting-requires-clause-proper : goal.push_meeting-requires-clause-proper
push_meeting-requires-clause-proper c =
    let there : Some c.in-Some.spans.now ≡ strip_at c.args.self.now (strip_of c.args.span.line) = c.in-Some.ensures.value in
    line_proper c.args.self.now c.args.span.line c.in-Some.spans.now (sym there) c.requires.proper

pub returns-in-Some-clause-only : goal.returns-in-Some-clause-only
returns-in-Some-clause-only c =
    let there : Some c.in-Some.spans.now ≡ strip_at c.args.self.now (strip_of c.args.span.line) = c.in-Some.ensures.value in
    on_ok c.push_meeting.result
    (λ only same. met_on c.args.self.now c.args.span c.in-Some.spans.now c.args.wanted.own c.args.keys.now.items c.push_meeting.new.keys.items (sym there) only)
    c.push_meeting.ensures.only c.push_meeting.ensures.only
