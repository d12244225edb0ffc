-- What may stand in the fields of a line behind its letter (gEDA File Format Document; the bounds
-- are own).
use Rattle.std.specs.Prelude.{◌≡◌, ℕ, ℤ, pos, negsuc, Bool, false, ◌&&◌, ◌||◌, ◌==◌, nat_lt, nat_le, unsigned_abs, if◌then◌else◌, List, [], ◌∷◌, ◌++◌, length, replicate, Option, Some, None}
use Rattle.geda_model.specs.Limits.{greatest_coordinate, greatest_number, most_lines}
use Rattle.geda_model.specs.Names.{is_word}
use Rattle.geda_grammar.specs.declared.letter.Letter.{Letter}
use Rattle.geda_grammar.specs.declared.letter.Letter.TheVariants.{Straight, Picture, Rect, Circle, Arc, Text, Net, Bus, Pin, Path, Component}
use Rattle.geda_grammar.specs.declared.kind.ReadKind.{ReadKind}
use Rattle.geda_grammar.specs.declared.kind.ReadKind.TheVariants.{FieldCount, BadNumber, BadAngle, OutOfRange}
use Rattle.geda_text.specs.Lines.{whole_of}
use Rattle.geda_grammar.specs.declared.field_class.Class.{Class}
use Rattle.geda_grammar.specs.declared.field_class.Class.TheVariants.{Within, UpTo, Lines, Angle, Basename}

-- a coordinate; any other number; 0 or 1
abbrev pub coordinate : Class
coordinate = Within greatest_coordinate

abbrev pub number : Class
number = Within greatest_number

abbrev pub flag : Class
flag = UpTo 1

-- the classes of the fields behind each letter
abbrev pub classes_of : Letter → List Class
classes_of Straight = replicate 4 coordinate ++ replicate 6 number
classes_of Picture = coordinate ∷ coordinate ∷ number ∷ number ∷ Angle ∷ flag ∷ flag ∷ []
classes_of Rect = coordinate ∷ coordinate ∷ replicate 14 number
classes_of Circle = coordinate ∷ coordinate ∷ replicate 13 number
classes_of Arc = coordinate ∷ coordinate ∷ replicate 9 number
classes_of Text =
    coordinate ∷ coordinate ∷ number ∷ number ∷ flag ∷ UpTo 2 ∷ Angle ∷ UpTo 8 ∷ Lines ∷ []
classes_of Net = replicate 4 coordinate ++ number ∷ []
classes_of Bus = replicate 4 coordinate ++ number ∷ Within 1 ∷ []
classes_of Pin = replicate 4 coordinate ++ number ∷ flag ∷ flag ∷ []
classes_of Path = replicate 12 number ++ Lines ∷ []
classes_of Component = coordinate ∷ coordinate ∷ flag ∷ Angle ∷ flag ∷ Basename ∷ []
classes_of bracket = []

-- the number is of this class
abbrev pub fits : Class → ℤ → Bool
fits (Within most) z = nat_le (unsigned_abs z) most
fits (UpTo most) (pos n) = nat_le n most
fits (UpTo most) (negsuc n) = false
fits Lines (pos n) = nat_lt 0 n && nat_le n most_lines
fits Lines (negsuc n) = false
fits Angle (pos n) = (n == 0) || ((n == 90) || ((n == 180) || (n == 270)))
fits Angle (negsuc n) = false
fits Basename z = false

-- what a field says: a number, or the bytes of a name
pub data Field : Type 0 where
  Number : ℤ → Field
  Word : List ℕ → Field

-- the number of a field, if it has one and that is of this class
abbrev pub number_in : Class → Option ℤ → Option Field
number_in class None = None
number_in class (Some z) = if fits class z then Some (Number z) else None

-- what the bytes of a field say, if they may stand there
abbrev pub field_in : Class → List ℕ → Option Field
field_in Basename bytes = if is_word bytes then Some (Word bytes) else None
field_in class bytes = number_in class (whole_of bytes)

-- each field says this, and there are as many as classes
abbrev pub AreFields : List Class → List (List ℕ) → List Field → Type 0
AreFields [] [] [] = Unit {0}
AreFields (class ∷ classes) (bytes ∷ more) (field ∷ fields) =
    (field_in class bytes ≡ Some field) × AreFields classes more fields
AreFields classes words fields = ⊥

-- the kind of a number that is not of its class
abbrev pub misfit : Class → ReadKind
misfit Angle = BadAngle
misfit class = OutOfRange

-- what is wrong with a field that should have a number
abbrev pub number_fault : Class → Option ℤ → Option ReadKind
number_fault class None = Some BadNumber
number_fault class (Some z) = if fits class z then None else Some (misfit class)

-- what is wrong with a field
abbrev pub field_fault : Class → List ℕ → Option ReadKind
field_fault Basename bytes = if is_word bytes then None else Some OutOfRange
field_fault class bytes = number_fault class (whole_of bytes)

-- the first of two that is there
abbrev pub or_later : Option ReadKind → Option ReadKind → Option ReadKind
or_later (Some kind) later = Some kind
or_later None later = later

-- what is wrong with the first wrong field from the left
abbrev pub first_fault : List Class → List (List ℕ) → Option ReadKind
first_fault (class ∷ classes) (bytes ∷ more) =
    or_later (field_fault class bytes) (first_fault classes more)
first_fault classes words = None

-- what is wrong with the fields behind a letter: their number comes first
abbrev pub fields_fault : Letter → List (List ℕ) → Option ReadKind
fields_fault letter words =
    if length words == length (classes_of letter) then first_fault (classes_of letter) words
    else Some FieldCount

-- the same of a line's letter, if it has one
abbrev pub line_fault : Option Letter → List (List ℕ) → Option ReadKind
line_fault None words = None
line_fault (Some letter) words = fields_fault letter words
