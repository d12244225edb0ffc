use Rattle.std.proofs.Common.{◌≡◌, drop, map, codes, option_copied}
use Rattle.web_heads.specs.Heads.{length_said, values_named}
use Rattle.web_heads.specs.steps.Reading.{said}
use Rattle.httparse.specs.Spans.{header_bytes}
use Rattle.web_heads.proofs.heads.content_length.Given as goal

abbrev pub invariant-loop-header : goal.invariant-loop-header
invariant-loop-header l = said (option_copied l.found) (values_named (codes "content-length") (map (header_bytes l.bytes) (drop l.header-index l.headers))) ≡ length_said (values_named (codes "content-length") (map (header_bytes l.bytes) l.headers))
