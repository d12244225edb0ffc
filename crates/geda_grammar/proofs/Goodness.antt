-- Values in their ranges fit the classes of their letters.
use Rattle.std.proofs.Common.{ℕ, ◌<◌, ◌≤◌, ℤ, Bool, true, false, List, [], ◌∷◌, ◌++◌, refl, arith, inl, inr}
use Rattle.std.specs.Prelude.{is_some, replicate}
use Rattle.std.proofs.lemmas.Bool.{le-leb, lt-ltb}
use Rattle.geda_model.specs.Data.{StrokeData, FillData}
use Rattle.geda_model.specs.Ranges.{IsCoordinate, IsNumber, IsAngle, IsStroke, IsFill}
use Rattle.geda_model.specs.Shapes.{ShapeIsInRange}
use Rattle.geda_model.specs.declared.shape.Shape.{Shape}
use Rattle.geda_model.specs.declared.shape.Shape.TheVariants.{Straight, Picture, Rect, Circle, Arc, Text, Net, Bus, Pin, Path}
use Rattle.geda_grammar.specs.declared.field_class.Class.{Class}
use Rattle.geda_grammar.specs.declared.field_class.Class.TheVariants.{UpTo, Lines, Angle}
use Rattle.geda_grammar.specs.Classes.{coordinate, number, flag, Field, Number, classes_of}
use Rattle.geda_grammar.specs.Rows.{natural, bit, fill_fields, letter_of_shape, shape_fields}
use Rattle.geda_grammar.proofs.Writing.{Good, AllGood}

pub is_coordinate : (z : ℤ) → IsCoordinate z → Good coordinate (Number z)
is_coordinate z h = (le-leb _ _ h, omega (arith, h))

is_number : (z : ℤ) → IsNumber z → Good number (Number z)
is_number z h = (le-leb _ _ h, omega (arith, h))

pub is_bit : (b : Bool) → Good flag (bit b)
is_bit true = (refl, omega arith)
is_bit false = (refl, omega arith)

up_to : (most n : ℕ) → most < 1000000000 → n ≤ most → Good (UpTo most) (natural n)
up_to most n small h = (le-leb n most h, omega arith)

pub is_angle : (n : ℕ) → IsAngle n → Good Angle (natural n)
is_angle n (inl e) = (rw e refl, omega (arith, e))
is_angle n (inr (inl e)) = (rw e refl, omega (arith, e))
is_angle n (inr (inr (inl e))) = (rw e refl, omega (arith, e))
is_angle n (inr (inr (inr e))) = (rw e refl, omega (arith, e))

-- so many lines may follow
abbrev pub IsCount : ℕ → Type 0
IsCount n = (0 < n) × (n ≤ 10000)

is_count : (n : ℕ) → IsCount n → Good Lines (natural n)
is_count n h = (rw (lt-ltb 0 n h.0, le-leb n 10000 h.1) refl, (let few = h.1 in omega (arith, few)))

stroke_good : (s : StrokeData) (cs : List Class) (fs : List Field) → IsStroke s → AllGood cs fs → AllGood (number ∷ number ∷ number ∷ number ∷ number ∷ cs) (Number s.width ∷ Number s.cap ∷ Number s.dash ∷ Number s.dash_length ∷ Number s.dash_space ∷ fs)
stroke_good s cs fs h more = (is_number s.width h.width, (is_number s.cap h.cap, (is_number s.dash h.dash, (is_number s.dash_length h.dash_length, (is_number s.dash_space h.dash_space, more)))))

fill_good : (f : FillData) (cs : List Class) (fs : List Field) → IsFill f → AllGood cs fs → AllGood (number ∷ number ∷ number ∷ number ∷ number ∷ number ∷ cs) (Number f.sort ∷ Number f.width ∷ Number f.angle1 ∷ Number f.pitch1 ∷ Number f.angle2 ∷ Number f.pitch2 ∷ fs)
fill_good f cs fs h more = (is_number f.sort h.sort, (is_number f.width h.width, (is_number f.angle1 h.angle1, (is_number f.pitch1 h.pitch1, (is_number f.angle2 h.angle2, (is_number f.pitch2 h.pitch2, more))))))

-- the number of lines matters to texts and paths alone
abbrev pub CountFits : Shape → ℕ → Type 0
CountFits (Text t) n = IsCount n
CountFits (Path color stroke fill content) n = IsCount n
CountFits shape n = Unit {0}

-- each field of a shape in range
pub shape_good : (s : Shape) (n : ℕ) → ShapeIsInRange s → CountFits s n → AllGood (classes_of (letter_of_shape s)) (shape_fields s n)
shape_good (Straight x1 y1 x2 y2 color stroke) n h k = (is_coordinate x1 h.0.x1, (is_coordinate y1 h.0.y1, (is_coordinate x2 h.0.x2, (is_coordinate y2 h.0.y2, (is_number color h.0.color, stroke_good stroke [] [] h.1 tt)))))
shape_good (Picture x y width height angle mirrored file embedded) n h k = (is_coordinate x h.0.x, (is_coordinate y h.0.y, (is_number width h.1, (is_number height h.2, (is_angle angle h.3, (is_bit mirrored, (is_bit (is_some embedded), tt)))))))
shape_good (Rect x y width height color stroke fill) n h k = (is_coordinate x h.0.x, (is_coordinate y h.0.y, (is_number width h.1, (is_number height h.2, (is_number color h.3, stroke_good stroke (replicate 6 number) (fill_fields fill) h.4 (fill_good fill [] [] h.5 tt))))))
shape_good (Circle x y radius color stroke fill) n h k = (is_coordinate x h.0.x, (is_coordinate y h.0.y, (is_number radius h.1, (is_number color h.2, stroke_good stroke (replicate 6 number) (fill_fields fill) h.3 (fill_good fill [] [] h.4 tt)))))
shape_good (Arc x y radius start sweep color stroke) n h k = (is_coordinate x h.0.x, (is_coordinate y h.0.y, (is_number radius h.1, (is_number start h.2, (is_number sweep h.3, (is_number color h.4, stroke_good stroke [] [] h.5 tt))))))
shape_good (Text t) n h k = (is_coordinate t.x h.x, (is_coordinate t.y h.y, (is_number t.color h.color, (is_number t.size h.size, (up_to 1 t.visible (omega arith) h.visible, (up_to 2 t.show (omega arith) h.show, (is_angle t.angle h.angle, (up_to 8 t.align (omega arith) h.align, (is_count n k, tt)))))))))
shape_good (Net x1 y1 x2 y2 color) n h k = (is_coordinate x1 h.x1, (is_coordinate y1 h.y1, (is_coordinate x2 h.x2, (is_coordinate y2 h.y2, (is_number color h.color, tt)))))
shape_good (Bus x1 y1 x2 y2 color ripper) n h k = (is_coordinate x1 h.0.x1, (is_coordinate y1 h.0.y1, (is_coordinate x2 h.0.x2, (is_coordinate y2 h.0.y2, (is_number color h.0.color, ((le-leb _ _ h.1, (let few = h.1 in omega (arith, few))), tt))))))
shape_good (Pin x1 y1 x2 y2 color bus whichend) n h k = (is_coordinate x1 h.0.x1, (is_coordinate y1 h.0.y1, (is_coordinate x2 h.0.x2, (is_coordinate y2 h.0.y2, (is_number color h.0.color, (is_bit bus, (up_to 1 whichend (omega arith) h.1, tt)))))))
shape_good (Path color stroke fill content) n h k = (is_number color h.0, stroke_good stroke (replicate 6 number ++ Lines ∷ []) (fill_fields fill ++ natural n ∷ []) h.1 (fill_good fill (Lines ∷ []) (natural n ∷ []) h.2 (is_count n k, tt)))
