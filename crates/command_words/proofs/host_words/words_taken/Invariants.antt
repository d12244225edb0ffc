use Rattle.std.proofs.Common.{◌≡◌, drop, map, string_bytes}
use Rattle.command_words.specs.HostWords.{no_words, words_taken}
use Rattle.command_words.proofs.host_words.words_taken.Given as goal

abbrev pub invariant-loop-word : goal.invariant-loop-word
invariant-loop-word l = words_taken l.found (map string_bytes (drop l.word-index l.words)) ≡ words_taken no_words (map string_bytes l.words)
