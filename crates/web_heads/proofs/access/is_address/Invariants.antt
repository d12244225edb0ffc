use Rattle.std.proofs.Common.{◌≡◌, drop}
use Rattle.web_heads.specs.Accesses.{are_numbers, is_address}
use Rattle.web_heads.proofs.access.is_address.Given as goal

abbrev pub invariant-loop-byte : goal.invariant-loop-byte
invariant-loop-byte l = are_numbers l.dots l.begun (drop l.byte-index l.host) ≡ is_address l.host
