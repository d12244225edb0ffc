use Rattle.geda_defs.specs.Lines.{is_line_feed}
use Rattle.geda_text.proofs.Positions.{first_position}
use Rattle.geda_text.proofs.cutter.line_feed_at.Goals as goal

pub returns : goal.returns
returns c = first_position is_line_feed c.args.bytes.now c.memchr.result c.memchr.ensures
