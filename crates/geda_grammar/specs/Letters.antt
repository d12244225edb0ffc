-- The first field of a line: the letter of an object, or a bracket (gEDA File Format Document).
use Rattle.std.specs.Prelude.{ℕ, Bool, true, false, List, [], ◌∷◌, Option, Some, None, ◌==◌, if◌then◌else◌, not}
use Rattle.geda_grammar.specs.declared.letter.Letter.{Letter}
use Rattle.geda_grammar.specs.declared.letter.Letter.TheVariants.{Straight, Picture, Rect, Circle, Arc, Text, Net, Bus, Pin, Path, Component, OpenBlock, CloseBlock, OpenSymbol, CloseSymbol}

-- the byte of a letter
abbrev pub byte_of : Letter → ℕ
byte_of Straight = 76
byte_of Picture = 71
byte_of Rect = 66
byte_of Circle = 86
byte_of Arc = 65
byte_of Text = 84
byte_of Net = 78
byte_of Bus = 85
byte_of Pin = 80
byte_of Path = 72
byte_of Component = 67
byte_of OpenBlock = 123
byte_of CloseBlock = 125
byte_of OpenSymbol = 91
byte_of CloseSymbol = 93

-- all of them
abbrev pub letters : List Letter
letters =
    Straight ∷ Picture ∷ Rect ∷ Circle ∷ Arc ∷ Text ∷ Net ∷ Bus ∷ Pin ∷ Path ∷ Component ∷
    OpenBlock ∷ CloseBlock ∷ OpenSymbol ∷ CloseSymbol ∷ []

-- the letter that a field is, if it is one
abbrev pub letter_among : List Letter → ℕ → Option Letter
letter_among [] byte = None
letter_among (letter ∷ more) byte =
    if byte == byte_of letter then Some letter else letter_among more byte

abbrev pub letter_of : List ℕ → Option Letter
letter_of [] = None
letter_of (b ∷ []) = letter_among letters b
letter_of (b ∷ c ∷ bs) = None

-- a bracket, and no letter of an object
abbrev pub is_bracket : Letter → Bool
is_bracket OpenBlock = true
is_bracket CloseBlock = true
is_bracket OpenSymbol = true
is_bracket CloseSymbol = true
is_bracket letter = false

-- the letter of an object
abbrev pub is_object : Option Letter → Bool
is_object None = false
is_object (Some letter) = not (is_bracket letter)

-- what may stand first in a block: `T` or `}`
abbrev pub is_attribute : Option Letter → Bool
is_attribute (Some Text) = true
is_attribute (Some CloseBlock) = true
is_attribute letter = false

-- `[`
abbrev pub is_open_symbol : Option Letter → Bool
is_open_symbol (Some OpenSymbol) = true
is_open_symbol letter = false

-- `C`
abbrev pub is_component : Option Letter → Bool
is_component (Some Component) = true
is_component letter = false

-- no letter and no bracket
abbrev pub is_unknown : Option Letter → Bool
is_unknown None = true
is_unknown (Some letter) = false

-- the field `v`
abbrev pub is_version : List ℕ → Bool
is_version [] = false
is_version (b ∷ []) = b == 118
is_version (b ∷ c ∷ bs) = false
