use Rattle.std.proofs.Common.{rules, append_assoc}
use Rattle.geda_write.proofs.Canonical.{objects}
use Rattle.geda_write.proofs.Outputs.{written}
use Rattle.geda_write.proofs.texts.sheet_text.Goals as goal

pub returns : goal.returns
returns c =
    let out = written _ _ _ c.in_ok-put_objects.ensures in
    let same = objects c.args.sheet.now.objects in
    search (rules, append_assoc, out, same)
