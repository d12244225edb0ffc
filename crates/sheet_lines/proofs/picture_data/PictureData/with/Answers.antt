use Rattle.std.proofs.Common.{append_assoc}
use Rattle.std.specs.String.{string_bytes}
use Rattle.sheet_lines.proofs.Pictures.{data_line}
use Rattle.sheet_lines.proofs.picture_data.PictureData.with.Goals as goal

pub invariant_of-result : goal.invariant_of-result
invariant_of-result c =
    let line = data_line (string_bytes c.self.inside.lines) c.args.line.now c.self.invariant c.requires.cut c.utf8.line c.requires.other in
    rw (c.in_ok-push_str-2.ensures.bytes, c.in_ok-push_str.ensures.bytes, append_assoc) line
