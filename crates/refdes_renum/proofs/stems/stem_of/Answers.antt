use Rattle.std.proofs.Common.{◌≡◌, ◌-◌, true, length, take, sym, ap, ◌∙◌, arith}
use Rattle.refdes_renum.specs.Numbers.{ends_in_mark, stem_of}
use Rattle.refdes_renum.proofs.StemLemmas.{stem_shorter}
use Rattle.refdes_renum.proofs.stems.stem_of.Goals as goal

pub loop-rest-preserved : goal.loop-rest-preserved
loop-rest-preserved c =
    let rest = c.loop-rest.rest.now in
    let open_end : ends_in_mark rest ≡ true = ap ends_in_mark (sym c.as_bytes.ensures.value) ∙ sym c.ends_open.ensures ∙ c.loop-rest-test.true in
    let count : length rest - 1 - 0 ≡ length rest - 1 = omega arith in
    (ap stem_of c.range-rest.ensures.value ∙ ap (λ m. stem_of (take m rest)) count ∙ stem_shorter rest open_end ∙ c.loop-rest.invariant.0, c.range-rest.utf8)
