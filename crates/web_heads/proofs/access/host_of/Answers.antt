use Rattle.std.proofs.Common.{rules, ◌≡◌, ◌<◌, ◌-◌, ◌∙◌, false, take, drop, length, subst, arith}
use Rattle.std.proofs.lemmas.List.{take_all, length-drop}
use Rattle.web_heads.specs.Accesses.{is_port_end}
use Rattle.web_heads.proofs.Hosts.{host_next}
use Rattle.web_heads.proofs.access.host_of.Goals as goal

pub loop-place-preserved : goal.loop-place-preserved
loop-place-preserved c =
    let value = c.args.value.now in
    let place = c.loop-place.place in
    let few : place < length value = search rules in
    let rest : take (length value - place) (drop place value) ≡ drop place value = take_all (length value - place) (drop place value) (omega (arith, length-drop place value)) in
    let other : is_port_end (take (length value - place) (drop place value)) ≡ false = search rules in
    host_next place value few (subst (λ t. is_port_end t ≡ false) rest other) ∙ c.loop-place.invariant
