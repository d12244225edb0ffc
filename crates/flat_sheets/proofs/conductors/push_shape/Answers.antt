use Rattle.std.proofs.Common.{refl, rules, w32}
use Rattle.std.specs.Prelude.{codes}
use Rattle.std.proofs.lemmas.Int.{to_z-of_z}
use mir.Val.{SFits}
use Rattle.flat_sheets.proofs.ObjectLemmas.{attrs-of_shape}
use Rattle.flat_sheets.proofs.conductors.push_shape.Goals as goal

pub returns-in_ok-push_segment-in-Net-clause-drawn : goal.returns-in_ok-push_segment-in-Net-clause-drawn
returns-in_ok-push_segment-in-Net-clause-drawn c =
    let x1 : SFits w32 c.in-Net.x1 = search rules in
    let y1 : SFits w32 c.in-Net.y1 = search rules in
    let x2 : SFits w32 c.in-Net.x2 = search rules in
    let y2 : SFits w32 c.in-Net.y2 = search rules in
    let items = simp to_z-of_z at c.in_ok-push_segment-in-Net.ensures.drawn in
    let attached = attrs-of_shape (codes "netname") c.args.found.now.flat.object c.args.shape.now c.requires.body in
    rw (items, c.place-in-Net.ensures, c.id-in-Net.ensures, c.in_ok-printed-in-Net.ensures, c.into_vec.ensures, c.in_ok-names-in-Net.ensures, c.object-in-Net.ensures, c.instance.ensures, attached, c.in-Net.is) refl
