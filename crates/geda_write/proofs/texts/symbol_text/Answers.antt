use Rattle.std.proofs.Common.{rules, append_assoc}
use Rattle.geda_write.proofs.Canonical.{parts}
use Rattle.geda_write.proofs.Outputs.{written}
use Rattle.geda_write.proofs.texts.symbol_text.Goals as goal

pub returns : goal.returns
returns c =
    let out = written _ _ _ c.in_ok-put_parts.ensures in
    let same = parts c.args.symbol.now.parts in
    search (rules, append_assoc, out, same)
