use Rattle.std.proofs.Common.{◌≡◌, drop, map}
use Rattle.std.specs.List.{fold, list_all}
use Rattle.geda_defs.specs.Lists.{each_once, with_new}
use Rattle.geda_model.specs.Names.{is_name}
use Rattle.command_words.proofs.files.names_once.Given as goal

abbrev pub invariant-loop-word : goal.invariant-loop-word
invariant-loop-word l = record {
  once : fold with_new l.names.keys (map (λ w. w.now) (drop l.word-index l.words)) ≡ each_once (map (λ w. w.now) l.words);
  named : list_all is_name (map (λ w. w.now) (drop l.word-index l.words)) ≡ list_all is_name (map (λ w. w.now) l.words);
}
