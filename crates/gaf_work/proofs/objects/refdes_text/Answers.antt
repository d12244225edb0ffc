use Rattle.std.proofs.Common.{◌∙◌, inl, refl, arith, w32, SFits, subst, sym}
use Rattle.std.proofs.lemmas.Int.{to_z-of_z}
use Rattle.geda_model.specs.Ranges.{IsContent}
use Rattle.gaf_work.proofs.TextLemmas.{refdes_is_content}
use Rattle.gaf_work.proofs.objects.refdes_text.Goals as goal

pub invariant_of-result : goal.invariant_of-result
invariant_of-result c =
    let right : SFits w32 c.from.result = rw c.from.ensures (omega (arith, c.across.type_inv)) in
    let up : SFits w32 c.from-2.result = rw c.from-2.ensures (omega (arith, c.up.type_inv)) in
    rw (to_z-of_z w32 _ right, to_z-of_z w32 _ up, c.from.ensures, c.from-2.ensures) (record {
      x = omega (arith, c.across.type_inv);
      y = omega (arith, c.up.type_inv);
      color = omega arith;
      size = omega arith;
      visible = omega arith;
      show = omega arith;
      angle = inl refl;
      align = omega arith;
      content = subst IsContent (sym (c.from_string.ensures ∙ c.in_ok-content.ensures.ok)) (refdes_is_content c.args.id (omega (arith, c.ranges.id.fits)));
    })
