use Rattle.sheet_lines.proofs.Pictures.{no_data}
use Rattle.sheet_lines.proofs.picture_data.PictureData.new.Goals as goal

pub invariant_of-result : goal.invariant_of-result
invariant_of-result c = rw c.new.ensures.bytes no_data
