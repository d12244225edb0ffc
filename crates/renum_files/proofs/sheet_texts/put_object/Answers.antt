use Rattle.std.proofs.Common.{◌≡◌, None, Some, rules, map, ap, sym, ◌∙◌}
use Rattle.std.specs.BTreeMap.{get}
use Rattle.geda_defs.specs.Order.{by_bytes}
use Rattle.project_files.specs.MemoryFolder.{files_in}
use Rattle.project_files.proofs.WriteLemmas.{seen}
use Rattle.renum_files.proofs.GrowingLemmas.{none_kept, on_ok, one_grown}
use Rattle.renum_files.proofs.sheet_texts.put_object.Goals as goal

pub returns-in-Some : goal.returns-in-Some
returns-in-Some c =
    let es = c.args.texts.now.entries in
    let text = c.put_object_text.new.text in
    let known : Some c.in-Some.text.now ≡ get by_bytes c.args.texts.now c.args.placed.now.sheet = c.in-Some.ensures.value in
    on_ok
    (λ made. ap (map seen) (c.get_mut.follows.holds text).0 ∙ one_grown c.args.placed.now es c.in-Some.text.now text c.get_mut.ensures.ordered known made)
    c.put_object_text.result c.put_object_text.ensures.text

pub returns : goal.returns
returns c =
    let none : None ≡ get by_bytes c.args.texts.now c.args.placed.now.sheet = search rules in
    ap files_in c.get_mut.follows.holds-at-none ∙ sym (none_kept c.args.placed.now c.args.texts.now.entries none)
