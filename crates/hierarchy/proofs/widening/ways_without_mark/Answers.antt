use Rattle.std.proofs.Common.{length, map, ap, ◌∙◌}
use Rattle.std.proofs.lemmas.Result.{IfOk-weaker}
use Rattle.hierarchy.specs.SheetTable.{is_named}
use Rattle.hierarchy.specs.Ways.{way_at}
use Rattle.hierarchy.proofs.WideningLemmas.{marks_are}
use Rattle.hierarchy.proofs.widening.ways_without_mark.Goals as goal

pub returns : goal.returns
returns c =
    let sheets = c.args.sheets.now in
    let are = marks_are c.args.named.now c.mark_sheets.new.named (length sheets) (is_named sheets) c.requires c.mark_sheets.ensures in
    IfOk-weaker c.ways_at.result _ _ (λ ways same. same ∙ ap (map way_at) are) c.ways_at.ensures
