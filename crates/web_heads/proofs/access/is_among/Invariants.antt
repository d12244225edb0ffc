use Rattle.std.proofs.Common.{◌≡◌, drop, map, string_bytes}
use Rattle.std.specs.List.{list_any}
use Rattle.std.specs.Str.{str_eq_ignore_ascii_case}
use Rattle.web_heads.proofs.access.is_among.Given as goal

abbrev pub invariant-loop-name : goal.invariant-loop-name
invariant-loop-name l = list_any (str_eq_ignore_ascii_case l.host) (map string_bytes (drop l.name-index l.hosts)) ≡ list_any (str_eq_ignore_ascii_case l.host) (map string_bytes l.hosts)
