-- An item of a change (own).
use Rattle.std.specs.Prelude.{Option}
use Rattle.project_model.specs.declared.change.Thing.{Thing}
use Rattle.project_model.specs.declared.change.Value.{Value}

-- a thing, and its new value or none
abbrev pub Item : Type 0
Item = Thing × Option Value
