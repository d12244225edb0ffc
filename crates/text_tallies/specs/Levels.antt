-- How findings are counted by level (own).
use Rattle.std.specs.Prelude.{ℕ, Bool, if◌then◌else◌, List, [], ◌∷◌, ◌++◌, codes}
use Rattle.std.specs.Fmt.{decimal}
use Rattle.geda_defs.specs.Lines.{ended}

-- the finding, where a rule is broken
abbrev pub found_if : {A : Type 0} → Bool → A → List A
found_if is_broken f = if is_broken then f ∷ [] else []

-- the last line of a report
abbrev pub levels_text : ℕ → ℕ → List ℕ
levels_text errors warnings =
    ended (codes "errors " ++ decimal errors ++ (codes " warnings " ++ decimal warnings))
