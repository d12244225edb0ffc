use Rattle.std.proofs.Common.{◌≡◌, [], take}
use Rattle.project_files.proofs.gathering.queue_words.Given as goal

abbrev pub invariant-loop-name : goal.invariant-loop-name
invariant-loop-name l = record {
  queue : l.asked-inside.queue.keys ≡ take l.name-index l.names;
  waiting : l.asked-inside.waiting.items ≡ [];
  absent : l.asked-inside.absent.keys ≡ [];
  symbols : l.asked-inside.symbols.entries ≡ [];
}
