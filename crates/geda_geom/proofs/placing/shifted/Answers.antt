use Rattle.std.proofs.Common.{◌+ℤ◌, arith, rules, refl, w32, SFits}
use Rattle.std.proofs.lemmas.Int.{to_z-of_z}
use Rattle.geda_geom.proofs.placing.shifted.Goals as goal

pub returns : goal.returns
returns c =
    let across : SFits w32 c.args.by.x = search rules in
    let up : SFits w32 c.args.by.y = search rules in
    let point_across : SFits w32 c.args.point.x = search rules in
    let point_up : SFits w32 c.args.point.y = search rules in
    let sum_across : SFits w32 (c.args.by.x +ℤ c.args.point.x) = grind (arith, c.requires.by.x, c.requires.point.x) in
    let sum_up : SFits w32 (c.args.by.y +ℤ c.args.point.y) = grind (arith, c.requires.by.y, c.requires.point.y) in
    rw (to_z-of_z w32 _ across, to_z-of_z w32 _ up, to_z-of_z w32 _ point_across, to_z-of_z w32 _ point_up, to_z-of_z w32 _ sum_across, to_z-of_z w32 _ sum_up) refl
