use Rattle.std.proofs.Common.{◌≡◌, ◌++◌, drop}
use Rattle.std.specs.List.{flat_map}
use Rattle.geda_grammar.specs.Canonical.{object_text}
use Rattle.table_files.specs.steps.Objects.{objects_now}
use Rattle.table_files.proofs.objects.put_texts.Given as goal

abbrev pub invariant-loop-object : goal.invariant-loop-object
invariant-loop-object l =
    l.text.items ++ flat_map object_text (objects_now (drop l.object-index l.objects)) ≡ l.fn.text.items ++ flat_map object_text (objects_now l.objects)
