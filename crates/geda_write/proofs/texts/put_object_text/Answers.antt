use Rattle.std.proofs.Common.{rules, append_assoc}
use Rattle.geda_write.proofs.Canonical.{object}
use Rattle.geda_write.proofs.Outputs.{written}
use Rattle.geda_write.proofs.texts.put_object_text.Goals as goal

pub returns : goal.returns
returns c =
    let out = written _ _ _ c.in_ok-put_object.ensures in
    let same = object c.args.object.now in
    search (rules, append_assoc, out, same)
