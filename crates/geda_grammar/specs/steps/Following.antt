-- Steps of the code; no public clause cites them.
-- What the lines that follow a shape add to it (own).
use Rattle.std.specs.Prelude.{ℕ, ◌-◌, ℤ, Bool, ◌==◌, if◌then◌else◌, List, [], ◌∷◌, ◌++◌, Option, Some, None, codes}
use Rattle.std.specs.Str.{is_utf8, bytes_eq}
use Rattle.geda_defs.specs.Lines.{ended}
use Rattle.geda_model.specs.Data.{TextData, StrokeData, FillData}
use Rattle.geda_model.specs.declared.shape.Shape.{Shape}
use Rattle.geda_model.specs.declared.shape.Shape.TheVariants as shapes
use Rattle.geda_grammar.specs.steps.Reading.{Progress, Still, Whole}

-- the fields of a picture but for the name and the data
pub record PictureLineData : Type 0 where
  pub x : ℤ
  pub y : ℤ
  pub width : ℤ
  pub height : ℤ
  pub angle : ℕ
  pub mirrored : Bool

-- a shape that has lines to come: a text or a path with its content so far and how many lines; a
-- picture whose name comes next, and whether data follow; an embedded picture with its data so far
pub data Pending : Type 0 where
  TextLines : TextData → ℕ → Pending
  PathLines : ℤ → StrokeData → FillData → List ℕ → ℕ → Pending
  PictureName : PictureLineData → Bool → Pending
  PictureLines : PictureLineData → List ℕ → List ℕ → Pending

-- a text with another content
abbrev pub with_content : TextData → List ℕ → TextData
with_content t content = record {
  x = t.x;
  y = t.y;
  color = t.color;
  size = t.size;
  visible = t.visible;
  show = t.show;
  angle = t.angle;
  align = t.align;
  content = content;
}

abbrev pub picture : PictureLineData → List ℕ → Option (List ℕ) → Shape
picture f file embedded = shapes.Picture f.x f.y f.width f.height f.angle f.mirrored file embedded

-- one line more of a content: the last one, or one with more behind it
abbrev pub add_line : (List ℕ → ℕ → Pending) → (List ℕ → Shape) → List ℕ → ℕ → List ℕ →
    Progress Pending
add_line again whole content left line =
    if left == 1 then Whole (whole (content ++ line))
    else Still (again ((content ++ line) ++ 10 ∷ []) (left - 1))

-- what a UTF-8 line adds
abbrev pub add : Pending → List ℕ → Progress Pending
add (TextLines t left) line =
    add_line (λ c n. TextLines (with_content t c) n) (λ c. shapes.Text (with_content t c))
    t.content left line
add (PathLines color stroke fill content left) line =
    add_line (λ c n. PathLines color stroke fill c n) (λ c. shapes.Path color stroke fill c)
    content left line
add (PictureName f embedded) line =
    if embedded then Still (PictureLines f line []) else Whole (picture f line None)
add (PictureLines f file bytes) line =
    if bytes_eq line (codes ".") then Whole (picture f file (Some bytes))
    else Still (PictureLines f file (bytes ++ ended line))

-- what a line adds, if it is UTF-8
abbrev pub more : Pending → List ℕ → Option (Progress Pending)
more p line = if is_utf8 line then Some (add p line) else None
