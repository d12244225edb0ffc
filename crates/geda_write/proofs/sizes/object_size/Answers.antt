use Rattle.std.proofs.Common.{◌≡◌, ◌∙◌, ◌+◌, ap, arith, length}
use Rattle.geda_grammar.specs.Canonical.{object_text}
use Rattle.geda_write.specs.steps.Texts.{whole_text}
use Rattle.geda_write.proofs.Canonical.{object}
use Rattle.geda_write.proofs.Outputs.{counted}
use Rattle.geda_write.proofs.sizes.object_size.Goals as goal

pub returns : goal.returns
returns c =
    let o = c.args.object.now in
    let same = ap length (object o) in
    let size : length (object_text o) ≡ 0 + length (whole_text o) = omega (arith, same) in
    record { size = c.bytes.ensures.bytes ∙ counted 0 c.put_object.new.out.bytes (whole_text o) (object_text o) (omega arith) c.bytes.ensures.fits size c.in-Ok.ensures }
