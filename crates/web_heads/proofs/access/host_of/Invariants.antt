use Rattle.std.proofs.Common.{◌≡◌, ◌++◌, drop, take}
use Rattle.web_heads.specs.Accesses.{host_of}
use Rattle.web_heads.proofs.access.host_of.Given as goal

abbrev pub invariant-loop-place : goal.invariant-loop-place
invariant-loop-place l = take l.place l.value ++ host_of (drop l.place l.value) ≡ host_of l.value
