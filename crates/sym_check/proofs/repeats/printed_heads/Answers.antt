use Rattle.std.proofs.Common.{◌∙◌, ap}
use Rattle.std.specs.List.{list_any}
use Rattle.std.specs.Str.{bytes_eq}
use Rattle.sym_check.proofs.repeats.printed_heads.Goals as goal

pub returns : goal.returns
returns c = λ q. c.in_ok-printed.ensures q ∙ ap (list_any (bytes_eq q)) c.in_ok-lines.ensures
