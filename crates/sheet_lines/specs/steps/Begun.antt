-- What is there of a content, a path or a picture of which lines are still to come.
use Rattle.std.specs.Prelude.{◌≡◌, ℕ, ℤ, ◌+◌, ◌<◌, ◌≤◌, false, true, List}
use Rattle.std.specs.Str.{is_utf8}
use Rattle.geda_model.specs.Data.{StrokeData, FillData}
use Rattle.geda_model.specs.Limits.{most_lines}
use Rattle.geda_model.specs.Ranges.{IsCoordinate, IsNumber, IsAngle, has_cr_end, line_feeds}
use Rattle.geda_grammar.specs.steps.Following.{PictureLineData}

-- the lines of a content so far, each with its LF, and how many are to come
pub record ContentData : Type 0 where
  pub content : List ℕ
  pub left : ℕ

-- UTF-8 of which no line ends in CR; at least one line is to come, and there is room for all
pub record IsBegun (c : ContentData) : Type 0 where
  pub text : is_utf8 c.content ≡ true
  pub no_cr : has_cr_end c.content ≡ false
  pub some : 0 < c.left
  pub few : line_feeds c.content + c.left ≤ most_lines

-- all of a path but its content
pub record PathLineData : Type 0 where
  pub color : ℤ
  pub stroke : StrokeData
  pub fill : FillData

-- the fields of a picture are in their ranges
pub record IsPictureLine (p : PictureLineData) : Type 0 where
  pub x : IsCoordinate p.x
  pub y : IsCoordinate p.y
  pub width : IsNumber p.width
  pub height : IsNumber p.height
  pub angle : IsAngle p.angle
