-- A line under a path has no LF.
use Rattle.std.proofs.Common.{ℕ, List, [], ◌∷◌, arith}
use Rattle.std.specs.Prelude.{All}
use Rattle.std.proofs.lemmas.List.Elements.{All-append, All-cons}
use Rattle.geda_model.specs.Names.{IsLine, IsLineByte}
use Rattle.instance_objects.specs.Texts.{under}

pub under_line : (path text : List ℕ) → IsLine path → All IsLineByte text → All IsLineByte (under path text)
under_line [] text line all = all
under_line (b ∷ bs) text line all =
    All-append IsLineByte (b ∷ bs) (47 ∷ text) line.line_bytes (All-cons IsLineByte 47 text (λ e. absurd (omega arith)) all)
