use Rattle.std.proofs.Common.{◌≡◌, drop, map, length, IfSome}
use Rattle.web_heads.specs.Heads.{values_named}
use Rattle.web_heads.specs.steps.Reading.{found_before}
use Rattle.httparse.specs.Spans.{IsWithin, header_bytes}
use Rattle.web_heads.proofs.heads.values_named.Given as goal

abbrev pub invariant-loop-header : goal.invariant-loop-header
invariant-loop-header l =
    record {
      same : found_before l.bytes l.found (values_named l.name (map (header_bytes l.bytes) (drop l.header-index l.headers))) ≡ values_named l.name (map (header_bytes l.bytes) l.headers);
      within : IfSome l.found (IsWithin (length l.bytes));
    }
