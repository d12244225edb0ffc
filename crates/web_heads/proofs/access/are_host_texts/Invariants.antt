use Rattle.std.proofs.Common.{◌≡◌, drop, map, string_bytes}
use Rattle.std.specs.List.{list_all}
use Rattle.web_heads.specs.Accesses.{is_host_text}
use Rattle.web_heads.proofs.access.are_host_texts.Given as goal

abbrev pub invariant-loop-host : goal.invariant-loop-host
invariant-loop-host l = list_all is_host_text (map string_bytes (drop l.host-index l.hosts)) ≡ list_all is_host_text (map string_bytes l.hosts)
