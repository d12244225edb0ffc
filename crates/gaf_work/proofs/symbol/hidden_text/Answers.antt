use Rattle.std.proofs.Common.{inl, refl, arith, w32, SFits}
use Rattle.std.proofs.lemmas.Int.{to_z-of_z}
use Rattle.gaf_work.proofs.TextLemmas.{plain_is_content}
use Rattle.gaf_work.proofs.symbol.hidden_text.Goals as goal

pub invariant_of-result : goal.invariant_of-result
invariant_of-result c =
    let fits : SFits w32 c.from.result = rw c.from.ensures (omega (arith, c.ranges.x.fits)) in
    rw (to_z-of_z w32 _ fits, c.from.ensures, c.in_ok-content.ensures) (record {
      x = omega (arith, c.ranges.x.fits);
      y = omega arith;
      color = omega arith;
      size = omega arith;
      visible = omega arith;
      show = omega arith;
      angle = inl refl;
      align = omega arith;
      content = plain_is_content _ c.requires;
    })
