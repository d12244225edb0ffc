use Rattle.std.proofs.Common.{◌≡◌, rules, map, ap, ap₂, ◌∙◌}
use Rattle.std.specs.BTreeMap.{insert_entry}
use Rattle.geda_defs.specs.Order.{by_bytes}
use Rattle.project_files.specs.MemoryFolder.{files_in}
use Rattle.project_files.proofs.WriteLemmas.{seen, seen_insert}
use Rattle.project_files.proofs.folder.put_file.Goals as goal

pub returns-clause-ok : goal.returns-clause-ok
returns-clause-ok c =
    let same : c.in_ok-bytes.bytes.items ≡ c.args.bytes.now = search rules in
    ap (map seen) c.in_ok-insert.ensures.entries
    ∙ seen_insert c.args.files.now.entries c.in-Ok.name c.in_ok-bytes.bytes
    ∙ ap₂ (insert_entry by_bytes (files_in c.args.files.now)) c.in-Ok.ensures.same same
