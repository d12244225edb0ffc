use Rattle.std.proofs.Common.{rules, ◌≤◌, length}
use Rattle.web_heads.specs.declared.cut_end.CutEnd.TheVariants.{LargeHead}
use Rattle.web_heads.specs.Accesses.{open_access}
use Rattle.web_heads.proofs.Nexts.{large_head}
use Rattle.web_heads.proofs.sizes.front_of.Goals as goal

pub returns-in-Open-2 : goal.returns-in-Open-2
returns-in-Open-2 c =
    let long : 8192 ≤ length c.args.bytes.now = search rules in
    (LargeHead, tt, large_head open_access c.args.bytes.now c.requires long c.in-Open-2.ensures.0 c.in-Open-2.ensures.1)
