use Rattle.std.proofs.Common.{◌≡◌, drop}
use Rattle.touch_index.specs.steps.Spans.{width_from}
use Rattle.touch_index.proofs.spans.first_width.Given as goal

abbrev pub invariant-loop-width : goal.invariant-loop-width
invariant-loop-width l = width_from (drop l.width-index l.widths) l.length ≡ width_from l.widths l.length
