use Rattle.std.proofs.Common.{◌≡◌, [], rules, ◌∙◌}
use Rattle.project_files.specs.MemoryFolder.{files_in}
use Rattle.renum_files.specs.steps.Growing.{with_heads}
use Rattle.renum_files.proofs.GrowingLemmas.{heads_are}
use Rattle.renum_files.proofs.sheet_texts.head_texts.Goals as goal

pub returns : goal.returns
returns c =
    let p = c.args.project.now.contents in
    let names = c.args.names.now.keys in
    let all : files_in c.loop-name.texts ≡ with_heads p names [] = search rules in
    all ∙ heads_are p names c.into_iter-name-iterator.ensures.into_iter_gives.4
