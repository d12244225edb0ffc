use Rattle.std.proofs.Common.{rules, inl}
use Rattle.httparse.specs.Grammar.{NeverHasRequest}
use Rattle.httparse.specs.Spans.{RequestExceeds, RequestOverflows}
use Rattle.web_heads.proofs.Lengths.{too_many, never_head}
use Rattle.web_heads.proofs.heads.judge.Goals as goal

pub returns-in-Err-TooManyHeaders : goal.returns-in-Err-TooManyHeaders
returns-in-Err-TooManyHeaders c =
    let e : RequestExceeds 32 c.args.bytes.now = search rules in
    let o : RequestOverflows 32 c.args.bytes.now = search rules in
    (tt, inl (too_many c.args.bytes.now c.requires e o))

pub returns-in-Err : goal.returns-in-Err
returns-in-Err c =
    let n : NeverHasRequest c.args.bytes.now = search rules in
    (tt, inl (never_head c.args.bytes.now c.requires n))
