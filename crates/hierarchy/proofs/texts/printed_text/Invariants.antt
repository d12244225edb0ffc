use Rattle.std.proofs.Common.{◌≡◌, ◌++◌, drop}
use Rattle.std.specs.Prelude.{All}
use Rattle.std.specs.String.{string_bytes}
use Rattle.geda_model.specs.Names.{IsLineByte}
use Rattle.hierarchy.specs.Texts.{printed}
use Rattle.hierarchy.proofs.texts.printed_text.Given as goal

abbrev pub invariant-loop-step : goal.invariant-loop-step
invariant-loop-step l = (string_bytes l.text ++ printed (drop l.step-index l.steps) l.refdes ≡ printed l.steps l.refdes)
    × All IsLineByte (string_bytes l.text)
