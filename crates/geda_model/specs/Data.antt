-- What contracts see of a text, and how a shape is drawn: the fields, and contents as bytes.
use Rattle.std.specs.Prelude.{ℕ, ℤ, List}

-- a text: its point, its looks, and its content
pub record TextData : Type 0 where
  pub x : ℤ
  pub y : ℤ
  pub color : ℤ
  pub size : ℤ
  pub visible : ℕ
  pub show : ℕ
  pub angle : ℕ
  pub align : ℕ
  pub content : List ℕ

-- how a line is drawn
pub record StrokeData : Type 0 where
  pub width : ℤ
  pub cap : ℤ
  pub dash : ℤ
  pub dash_length : ℤ
  pub dash_space : ℤ

-- how an area is filled
pub record FillData : Type 0 where
  pub sort : ℤ
  pub width : ℤ
  pub angle1 : ℤ
  pub pitch1 : ℤ
  pub angle2 : ℤ
  pub pitch2 : ℤ
