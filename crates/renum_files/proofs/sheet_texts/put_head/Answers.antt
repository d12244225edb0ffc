use Rattle.std.proofs.Common.{◌≡◌, rules, map, Some, ap, ap₂, ◌∙◌}
use Rattle.std.specs.BTreeMap.{insert_entry}
use Rattle.std.specs.FinMap.{get}
use Rattle.geda_defs.specs.Order.{by_bytes}
use Rattle.project_files.specs.MemoryFolder.{files_in}
use Rattle.project_files.proofs.WriteLemmas.{seen, seen_insert}
use Rattle.renum_files.specs.steps.Growing.{with_head}
use Rattle.renum_files.proofs.sheet_texts.put_head.Goals as goal

pub returns : goal.returns
returns c =
    let name = c.args.name.now in
    let there : Some c.in-Some.head.now ≡ get c.args.project.now.contents.sheets name = c.in-Some.ensures.found in
    let same : c.in_ok-clone.field-0 ≡ name = search rules in
    ap (map seen) c.in_ok-insert.ensures.entries
    ∙ seen_insert c.args.texts.now.entries c.in_ok-clone.field-0 c.in_ok-text.text
    ∙ ap₂ (insert_entry by_bytes (files_in c.args.texts.now)) same c.in_ok-text.ensures.text
    ∙ ap (λ head. with_head name head (files_in c.args.texts.now)) there
