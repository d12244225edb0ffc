use Rattle.std.proofs.Common.{◌≡◌, ◌++◌, drop, if◌then◌else◌}
use Rattle.edit_attr.specs.Attributes.{set_text}
use Rattle.edit_attr.proofs.attributes.set_text.Given as goal

abbrev pub invariant-loop-text : goal.invariant-loop-text
invariant-loop-text l =
    l.after ++ (if l.is_set then drop l.text-index l.texts else set_text l.name l.content l.at (drop l.text-index l.texts))
    ≡ set_text l.name l.content l.at l.texts
