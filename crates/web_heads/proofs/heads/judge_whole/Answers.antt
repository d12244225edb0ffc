use Rattle.std.proofs.Common.{rules, drop, map, option_copied, sym, ap, ◌∙◌, string_bytes}
use Rattle.web_heads.specs.Cuts.{BeginsWith}
use Rattle.web_heads.specs.Accesses.{access_with}
use Rattle.web_heads.specs.Heads.{length_by}
use Rattle.web_heads.proofs.Lengths.{refused_ends, few_fields}
use Rattle.web_heads.proofs.heads.judge_whole.Goals as goal

pub returns-in-Err : goal.returns-in-Err
returns-in-Err c =
    let h = c.requires.head in
    let few = few_fields c.args.bytes.now c.args.headers.now c.args.spans.now.headers h.0.fields h.1.fields c.requires.few in
    let b : BeginsWith c.args.bytes.now h.0 (drop c.args.spans.now.len c.args.bytes.now) = search rules in
    let access = access_with (map string_bytes c.args.hosts.now) (option_copied c.args.user) in
    refused_ends access c.args.bytes.now c.in-Err.end (record {
      head = h.0;
      rest = drop c.args.spans.now.len c.args.bytes.now;
      begins = b;
      refused = ap (length_by access) (sym h.1.fields) ∙ (sym c.body_length.ensures ∙ c.in-Err.is);
    })
