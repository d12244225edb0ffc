-- The ranges of fields (gEDA File Format Document; the bounds are own).
use Rattle.std.specs.Prelude.{◌≡◌, ℕ, ◌≤◌, ◌<◌, ℤ, List, [], ◌∷◌, ◌⊎◌, Bool, false, true, ◌==◌, ◌&&◌, ◌||◌, length, unsigned_abs, count_by, slice_index, ◌-◌}
use Rattle.std.specs.Str.{is_utf8}
use Rattle.geda_model.specs.Limits.{greatest_coordinate, greatest_number, most_lines}
use Rattle.geda_model.specs.Data.{TextData, StrokeData, FillData}

-- a coordinate, in mils
abbrev pub IsCoordinate : ℤ → Type 0
IsCoordinate z = unsigned_abs z ≤ greatest_coordinate

-- any other number
abbrev pub IsNumber : ℤ → Type 0
IsNumber z = unsigned_abs z ≤ greatest_number

-- an angle in degrees: 0, 90, 180 or 270
abbrev pub IsAngle : ℕ → Type 0
IsAngle a = (a ≡ 0) ⊎ ((a ≡ 90) ⊎ ((a ≡ 180) ⊎ (a ≡ 270)))

-- a line ends before these bytes: they are none, or begin with an LF
abbrev pub is_after_line : List ℕ → Bool
is_after_line [] = true
is_after_line (b ∷ bs) = b == 10

-- some line of the text ends in CR
abbrev pub has_cr_end : List ℕ → Bool
has_cr_end [] = false
has_cr_end (b ∷ bs) = ((b == 13) && is_after_line bs) || has_cr_end bs

-- how many LFs the text has: one fewer than lines
abbrev pub line_feeds : List ℕ → ℕ
line_feeds bytes = count_by (λ b. b == 10) bytes

-- the content of a text or a path: UTF-8 of 1 to 10,000 lines, none of which ends in CR
pub record IsContent (bytes : List ℕ) : Type 0 where
  pub text : is_utf8 bytes ≡ true
  pub lines : line_feeds bytes < most_lines
  pub no_cr : has_cr_end bytes ≡ false

-- the first line is a single `.`
abbrev pub begins_with_dot_line : List ℕ → Bool
begins_with_dot_line [] = false
begins_with_dot_line (b ∷ []) = false
begins_with_dot_line (b ∷ c ∷ bs) = (b == 46) && (c == 10)

-- some line after the first is a single `.`
abbrev pub has_later_dot_line : List ℕ → Bool
has_later_dot_line [] = false
has_later_dot_line (b ∷ bs) = ((b == 10) && begins_with_dot_line bs) || has_later_dot_line bs

-- the data of a picture: UTF-8 lines, each ended by LF, none of them a single `.`
pub record IsPictureData (bytes : List ℕ) : Type 0 where
  pub text : is_utf8 bytes ≡ true
  pub last : (length bytes ≡ 0) ⊎ (slice_index bytes (length bytes - 1) ≡ 10)
  pub first_line : begins_with_dot_line bytes ≡ false
  pub later_lines : has_later_dot_line bytes ≡ false

-- the fields of a text are in their ranges
pub record IsText (t : TextData) : Type 0 where
  pub x : IsCoordinate t.x
  pub y : IsCoordinate t.y
  pub color : IsNumber t.color
  pub size : IsNumber t.size
  pub visible : t.visible ≤ 1
  pub show : t.show ≤ 2
  pub angle : IsAngle t.angle
  pub align : t.align ≤ 8
  pub content : IsContent t.content

-- the fields of a stroke are in their ranges
pub record IsStroke (s : StrokeData) : Type 0 where
  pub width : IsNumber s.width
  pub cap : IsNumber s.cap
  pub dash : IsNumber s.dash
  pub dash_length : IsNumber s.dash_length
  pub dash_space : IsNumber s.dash_space

-- the fields of a filling are in their ranges
pub record IsFill (f : FillData) : Type 0 where
  pub sort : IsNumber f.sort
  pub width : IsNumber f.width
  pub angle1 : IsNumber f.angle1
  pub pitch1 : IsNumber f.pitch1
  pub angle2 : IsNumber f.angle2
  pub pitch2 : IsNumber f.pitch2
