use Rattle.std.proofs.Common.{◌≡◌, ◌++◌, drop}
use Rattle.flat_sheets.specs.steps.ObjectContents.{drawn_in, hidden_in, parts_in}
use Rattle.flat_sheets.proofs.contents.contents_of.Given as goal

abbrev pub invariant-loop-occurrence : goal.invariant-loop-occurrence
invariant-loop-occurrence l = record {
  drawn : l.rows.drawn ++ drawn_in l.objects (drop l.occurrence-index l.occurrences) ≡ drawn_in l.objects l.occurrences;
  hidden : l.rows.hidden ++ hidden_in l.objects (drop l.occurrence-index l.occurrences) ≡ hidden_in l.objects l.occurrences;
  parts : l.rows.parts ++ parts_in l.objects (drop l.occurrence-index l.occurrences) ≡ parts_in l.objects l.occurrences;
  same : l.tables ≡ l.objects;
}
