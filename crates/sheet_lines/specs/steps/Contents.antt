-- Steps of the code; no public clause cites them.
-- What a line adds to a content.
use Rattle.std.specs.Prelude.{◌-◌, ℕ, List, [], ◌∷◌, ◌++◌}
use Rattle.sheet_lines.specs.steps.Begun.{ContentData}

-- one line more, with another behind it
abbrev pub with_line : ContentData → List ℕ → ContentData
with_line c line = record { content = (c.content ++ line) ++ 10 ∷ []; left = c.left - 1 }
