-- A shape that has lines to come, and what each of these lines adds to it.
-- A line adds what the grammar says in its steps, geda_grammar, specs/steps/Following.antt: what
-- is said here serves the reader of files alone, whose own public clauses speak of no step.
use Rattle.std.specs.Prelude.{◌≡◌, ℕ, List, Some, None, Result, Ok, Err}
use Rattle.geda_model.specs.Shapes.{ShapeIsInRange}
use Rattle.geda_grammar.specs.declared.kind.ReadKind.TheVariants.{NotUtf8}
use Rattle.geda_grammar.specs.steps.Following as following
use Rattle.geda_grammar.specs.steps.Following.{more, with_content}
use Rattle.geda_grammar.specs.steps.Reading as reading
use Rattle.sheet_lines.specs.declared.fault.LineFault.{LineFault}
use Rattle.sheet_lines.specs.declared.fault.LineFault.TheVariants as faults
use Rattle.sheet_lines.specs.declared.pending.Pending.{Pending}
use Rattle.sheet_lines.specs.declared.pending.Pending.TheVariants.{Text, Path, PictureName, PictureLines}
use Rattle.sheet_lines.specs.declared.pending.Progress.{Progress}
use Rattle.sheet_lines.specs.declared.pending.Progress.TheVariants.{Still, Whole}

-- what the grammar sees of a shape that has lines to come
abbrev pub pending_of : Pending → following.Pending
pending_of (Text text c) = following.TextLines (with_content text c.content) c.left
pending_of (Path path c) = following.PathLines path.color path.stroke path.fill c.content c.left
pending_of (PictureName picture embedded) = following.PictureName picture embedded
pending_of (PictureLines picture file bytes) = following.PictureLines picture file bytes

abbrev pub progress_of : Progress → reading.Progress following.Pending
progress_of (Still pending) = reading.Still (pending_of pending)
progress_of (Whole shape) = reading.Whole shape

-- a whole shape is in its ranges
abbrev pub ProgressIsInRange : Progress → Type 0
ProgressIsInRange (Still pending) = Unit {0}
ProgressIsInRange (Whole shape) = ShapeIsInRange shape

-- the line is added; one that is refused adds nothing, and is not UTF-8
abbrev pub IsAdded : following.Pending → List ℕ → Result Progress LineFault → Type 0
IsAdded pending line (Ok progress) = more pending line ≡ Some (progress_of progress)
IsAdded pending line (Err faults.NoMemory) = Unit {0}
IsAdded pending line (Err (faults.Refused kind)) =
    (more pending line ≡ None) × (kind ≡ NotUtf8)
