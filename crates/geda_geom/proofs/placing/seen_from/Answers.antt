use Rattle.std.proofs.Common.{◌-ℤ◌, arith, rules, refl, w32, SFits}
use Rattle.std.proofs.lemmas.Int.{to_z-of_z}
use Rattle.geda_geom.proofs.placing.seen_from.Goals as goal

pub returns-clause-same : goal.returns-clause-same
returns-clause-same c =
    let across : SFits w32 c.args.about.x = search rules in
    let up : SFits w32 c.args.about.y = search rules in
    let point_across : SFits w32 c.args.point.x = search rules in
    let point_up : SFits w32 c.args.point.y = search rules in
    let step_across : SFits w32 (c.args.point.x -ℤ c.args.about.x) = grind (arith, c.requires.about.x, c.requires.point.x) in
    let step_up : SFits w32 (c.args.point.y -ℤ c.args.about.y) = grind (arith, c.requires.about.y, c.requires.point.y) in
    rw (to_z-of_z w32 _ across, to_z-of_z w32 _ up, to_z-of_z w32 _ point_across, to_z-of_z w32 _ point_up, to_z-of_z w32 _ step_across, to_z-of_z w32 _ step_up) refl
