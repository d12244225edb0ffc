use Rattle.std.proofs.Common.{◌≡◌, ℕ, ◌<◌, List, [], ◌∷◌, ◌++◌, length, take, sym, ap, ◌∙◌, arith}
use Rattle.std.specs.Str.{bytes_eq}
use Rattle.std.proofs.lemmas.List.{take_more}
use Rattle.indexmap.specs.IndexSet.{insert_key}
use Rattle.project_files.proofs.AskingLemmas.{pushed_key}
use Rattle.project_files.proofs.SheetLemmas.{once_before}
use Rattle.project_files.proofs.gathering.queue_words.Goals as goal

pub loop-name-preserved : goal.loop-name-preserved
loop-name-preserved c =
    let names = c.args.names.now in
    let i = c.loop-name.name-index in
    let name = c.name-item.result in
    let h : i < length names = omega arith in
    let keys : c.insert.new.self.keys ≡ take i names ++ name ∷ [] =
    c.in_ok-insert.ensures.keys
    ∙ ap (insert_key bytes_eq c.loop-name.asked-inside.queue.keys) c.in_ok-clone.ensures.cases
    ∙ ap (λ (ks : List (List ℕ)). insert_key bytes_eq ks name) c.loop-name.invariant.queue
    ∙ pushed_key (take i names) name (once_before names i name c.requires.words h c.name-item.is) in
    record {
      queue = keys ∙ ap (λ (n : List ℕ). take i names ++ n ∷ []) c.name-item.is ∙ sym (take_more names i name h);
      waiting = c.loop-name.invariant.waiting;
      absent = c.loop-name.invariant.absent;
      symbols = c.loop-name.invariant.symbols;
    }
