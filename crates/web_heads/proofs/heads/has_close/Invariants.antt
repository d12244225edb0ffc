use Rattle.std.proofs.Common.{◌≡◌, drop, map, codes}
use Rattle.std.specs.List.{list_any}
use Rattle.web_heads.specs.Heads.{is_close, values_named}
use Rattle.httparse.specs.Spans.{header_bytes}
use Rattle.web_heads.proofs.heads.has_close.Given as goal

abbrev pub invariant-loop-header : goal.invariant-loop-header
invariant-loop-header l = list_any is_close (values_named (codes "connection") (map (header_bytes l.bytes) (drop l.header-index l.headers))) ≡ list_any is_close (values_named (codes "connection") (map (header_bytes l.bytes) l.headers))
