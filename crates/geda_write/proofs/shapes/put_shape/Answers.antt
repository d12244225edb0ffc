use Rattle.std.proofs.Common.{rules, append_assoc}
use Rattle.geda_write.proofs.Outputs.{more_more}
use Rattle.geda_write.proofs.ShapeColumns.{shape_row}
use Rattle.geda_write.proofs.shapes.put_shape.Goals as goal

pub returns : goal.returns
returns g c =
    let row = shape_row c.args.shape.now c.requires in
    search (rules, append_assoc, more_more, row)
