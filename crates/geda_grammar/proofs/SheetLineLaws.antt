-- Fields that fit their letter say something.
use Rattle.std.proofs.Common.{◌≡◌, ℕ, suc, zero, ◌<◌, ◌-◌, ℤ, pos, negsuc, Bool, true, false, cond, List, [], ◌∷◌, ◌++◌, length, Some, None, refl, ap, subst, ◌∙◌, eqb, arith, inl, inr, codes, drop}
use Rattle.std.specs.Prelude.{slice_index}
use Rattle.std.proofs.lemmas.Bool.Decides.{nat_tests}
use Rattle.std.specs.List.{AllByRecursion, join_with_byte}
use Rattle.std.specs.Str.{is_utf8, bytes_eq}
use Rattle.std.proofs.lemmas.Str.{IsUtf8-nil, IsUtf8-from_ascii, is_utf8-from_IsUtf8}
use Rattle.geda_defs.specs.Lines.{ended}
use Rattle.geda_text.specs.Lines.{IsCutLine}
use Rattle.geda_model.specs.declared.shape.Shape.{Shape}
use Rattle.geda_model.specs.declared.shape.Shape.TheVariants as shapes
use Rattle.geda_grammar.specs.declared.letter.Letter.{Letter}
use Rattle.geda_grammar.specs.declared.letter.Letter.TheVariants.{Straight, Picture, Rect, Circle, Arc, Text, Net, Bus, Pin, Path, Component, OpenBlock, CloseBlock, OpenSymbol, CloseSymbol}
use Rattle.geda_grammar.specs.declared.field_class.Class.TheVariants.{Lines}
use Rattle.geda_grammar.specs.Classes.{Field, Number, Word, classes_of, fits}
use Rattle.geda_grammar.specs.declared.row.Row.TheVariants as rows
use Rattle.geda_grammar.specs.Rows.{letter_of_row, letter_of_shape, is_embedding}
use Rattle.geda_grammar.specs.steps.Reading.{SheetLine, Blank, Complete, Begins, Faulty, Progress, Still, Whole}
use Rattle.geda_grammar.specs.steps.Following.{Pending, TextLines, PathLines, PictureName, PictureLines, add, add_line, more, with_content, picture}
use Rattle.geda_grammar.specs.steps.SheetLines.{letter_line, component_data, natural_in}
use Rattle.geda_grammar.specs.steps.Files.{so_far}
use Rattle.geda_grammar.proofs.FieldLaws.{FitFields}
use Rattle.geda_grammar.proofs.LineRows.{Follows}
use Rattle.geda_grammar.proofs.FollowLaws.{AreUtf8, more_adds, adds_more, lines_follow, data_follow}

-- at least one line is to come
abbrev pub Awaits : Pending → Type 0
Awaits (TextLines t left) = 0 < left
Awaits (PathLines color stroke fill content left) = 0 < left
Awaits (PictureName f embedded) = Unit {0}
Awaits (PictureLines f file bytes) = Unit {0}

-- a line of this letter says something
abbrev pub Fine : Letter → SheetLine Pending → Type 0
Fine letter Blank = ⊥
Fine letter (Complete row) = letter ≡ letter_of_row row
Fine letter (Begins p) = (letter ≡ letter_of_shape (so_far p)) × Awaits p
Fine letter Faulty = ⊥

some_lines : (z : ℤ) → fits Lines z ≡ true → 0 < natural_in z
some_lines (pos zero) h = absurd cc
some_lines (pos (suc n)) h = omega arith
some_lines (negsuc n) h = absurd cc

component_fine : (b : Bool) (x y selectable angle mirror : ℤ) (name rest : List ℕ) → Fine Component (cond b (Complete (rows.Embedding (component_data x y selectable angle mirror rest))) (Complete (rows.Library (component_data x y selectable angle mirror name))))
component_fine true x y selectable angle mirror name rest = refl
component_fine false x y selectable angle mirror name rest = refl

pub fine : (l : Letter) (fields : List Field) → FitFields (classes_of l) fields → Fine l (letter_line l fields)
fine Straight (Number x1 ∷ Number y1 ∷ Number x2 ∷ Number y2 ∷ Number color ∷ Number width ∷ Number tip ∷ Number dash ∷ Number long ∷ Number space ∷ []) h = refl
fine Straight fields h = absurd assumption
fine Picture (Number x ∷ Number y ∷ Number width ∷ Number height ∷ Number angle ∷ Number mirrored ∷ Number embedded ∷ []) h = (refl, tt)
fine Picture fields h = absurd assumption
fine Rect (Number x ∷ Number y ∷ Number wide ∷ Number high ∷ Number color ∷ Number width ∷ Number tip ∷ Number dash ∷ Number long ∷ Number space ∷ Number sort ∷ Number thick ∷ Number angle1 ∷ Number pitch1 ∷ Number angle2 ∷ Number pitch2 ∷ []) h = refl
fine Rect fields h = absurd assumption
fine Circle (Number x ∷ Number y ∷ Number radius ∷ Number color ∷ Number width ∷ Number tip ∷ Number dash ∷ Number long ∷ Number space ∷ Number sort ∷ Number thick ∷ Number angle1 ∷ Number pitch1 ∷ Number angle2 ∷ Number pitch2 ∷ []) h = refl
fine Circle fields h = absurd assumption
fine Arc (Number x ∷ Number y ∷ Number radius ∷ Number start ∷ Number sweep ∷ Number color ∷ Number width ∷ Number tip ∷ Number dash ∷ Number long ∷ Number space ∷ []) h = refl
fine Arc fields h = absurd assumption
fine Text (Number x ∷ Number y ∷ Number color ∷ Number size ∷ Number visible ∷ Number show ∷ Number angle ∷ Number align ∷ Number lines ∷ []) h = (refl, some_lines lines h.1.1.1.1.1.1.1.1.0)
fine Text fields h = absurd assumption
fine Net (Number x1 ∷ Number y1 ∷ Number x2 ∷ Number y2 ∷ Number color ∷ []) h = refl
fine Net fields h = absurd assumption
fine Bus (Number x1 ∷ Number y1 ∷ Number x2 ∷ Number y2 ∷ Number color ∷ Number ripper ∷ []) h = refl
fine Bus fields h = absurd assumption
fine Pin (Number x1 ∷ Number y1 ∷ Number x2 ∷ Number y2 ∷ Number color ∷ Number bus ∷ Number end ∷ []) h = refl
fine Pin fields h = absurd assumption
fine Path (Number color ∷ Number width ∷ Number tip ∷ Number dash ∷ Number long ∷ Number space ∷ Number sort ∷ Number thick ∷ Number angle1 ∷ Number pitch1 ∷ Number angle2 ∷ Number pitch2 ∷ Number lines ∷ []) h = (refl, some_lines lines h.1.1.1.1.1.1.1.1.1.1.1.1.0)
fine Path fields h = absurd assumption
fine Component (Number x ∷ Number y ∷ Number selectable ∷ Number angle ∷ Number mirror ∷ Word name ∷ []) h = component_fine (is_embedding name) x y selectable angle mirror name (drop 8 name)
fine Component (Number x ∷ Number y ∷ Number selectable ∷ Number angle ∷ Number mirror ∷ Number z ∷ fields) h = absurd (let e = h.1.1.1.1.1.0 in cc)
fine Component fields h = absurd assumption
fine OpenBlock fields h = refl
fine CloseBlock fields h = refl
fine OpenSymbol fields h = refl
fine CloseSymbol fields h = refl

-- what one line more keeps: the letter, and that lines are to come
abbrev pub Kept : Letter → Progress Pending → Type 0
Kept letter (Still q) = (letter_of_shape (so_far q) ≡ letter) × Awaits q
Kept letter (Whole shape) = letter_of_shape shape ≡ letter

lines_kept : (letter : Letter) (again : List ℕ → ℕ → Pending) (whole : List ℕ → Shape) (c : List ℕ) (n : ℕ) (line : List ℕ) → ((c : List ℕ) → letter_of_shape (whole c) ≡ letter) → ((c : List ℕ) (n : ℕ) → 0 < n → (letter_of_shape (so_far (again c n)) ≡ letter) × Awaits (again c n)) → 0 < n → Kept letter (add_line again whole c n line)
lines_kept letter again whole c n line w a h = go (eqb n 1) refl
  where
    go : (b : Bool) → eqb n 1 ≡ b → Kept letter (cond b (Whole (whole (c ++ line))) (Still (again ((c ++ line) ++ 10 ∷ []) (n - 1))))
    go true e = w (c ++ line)
    go false e = a ((c ++ line) ++ 10 ∷ []) (n - 1) (grind (arith, nat_tests))

pub add_keeps : (p : Pending) (line : List ℕ) → Awaits p → Kept (letter_of_shape (so_far p)) (add p line)
add_keeps (TextLines t n) line h = lines_kept Text (λ c n. TextLines (with_content t c) n) (λ c. shapes.Text (with_content t c)) t.content n line (λ c. refl) (λ c n k. (refl, k)) h
add_keeps (PathLines color s f content n) line h = lines_kept Path (λ c n. PathLines color s f c n) (λ c. shapes.Path color s f c) content n line (λ c. refl) (λ c n k. (refl, k)) h
add_keeps (PictureName f true) line h = (refl, tt)
add_keeps (PictureName f false) line h = refl
add_keeps (PictureLines f file bytes) line h = go (bytes_eq line (codes "."))
  where
    go : (b : Bool) → Kept Picture (cond b (Whole (picture f file (Some bytes))) (Still (PictureLines f file (bytes ++ ended line))))
    go true = refl
    go false = (refl, tt)

-- the shape that is made in the end has the letter
pub same_letter : (lines : List (List ℕ)) (p : Pending) (shape : Shape) → Awaits p → Follows more p shape lines → letter_of_shape shape ≡ letter_of_shape (so_far p)
same_letter [] p shape h f = absurd f
same_letter (line ∷ lines) p shape h (inl f) = subst (Kept (letter_of_shape (so_far p))) (more_adds p line (Whole shape) f.0).1 (add_keeps p line h)
same_letter (line ∷ lines) p shape h (inr f) =
    let k = subst (Kept (letter_of_shape (so_far p))) (more_adds p line (Still f.0) f.1).1 (add_keeps p line h) in
    same_letter lines f.0 shape k.1 f.2 ∙ k.0

-- empty lines
abbrev empties : ℕ → List (List ℕ)
empties zero = []
empties (suc n) = [] ∷ empties n

empties_utf8 : (n : ℕ) → AreUtf8 (empties n)
empties_utf8 zero = tt
empties_utf8 (suc n) = (is_utf8-from_IsUtf8 [] IsUtf8-nil, empties_utf8 n)

empties_good : (n : ℕ) → AllByRecursion IsCutLine (empties n)
empties_good zero = tt
empties_good (suc n) = (record { one = tt; no_cr = refl }, empties_good n)

empties_count : (n : ℕ) → length (empties n) ≡ n
empties_count zero = refl
empties_count (suc n) = ap suc (empties_count n)

-- some lines complete a shape
pub record Completed (p : Pending) : Type 0 where
  pub shape : Shape
  pub lines : List (List ℕ)
  pub good : AllByRecursion IsCutLine lines
  pub follows : Follows more p shape lines

lines_completed : (again : List ℕ → ℕ → Pending) (whole : List ℕ → Shape) (adds : (c : List ℕ) (n : ℕ) (line : List ℕ) → add (again c n) line ≡ add_line again whole c n line) (c : List ℕ) (n : ℕ) → 0 < n → Completed (again c n)
lines_completed again whole adds c zero h = absurd (omega arith)
lines_completed again whole adds c (suc n) h =
    let f = lines_follow again whole adds [] (empties n) c (empties_utf8 (suc n)) in
    record { shape = whole (c ++ join_with_byte 10 (empties (suc n))); lines = empties (suc n); good = empties_good (suc n); follows = subst (λ (k : ℕ). Follows more (again c k) (whole (c ++ join_with_byte 10 (empties (suc n)))) (empties (suc n))) (empties_count (suc n)) f }

point_ascii : (i : ℕ) → slice_index (codes ".") i < 128
point_ascii zero = omega arith
point_ascii (suc i) = omega arith

point_utf8 : is_utf8 (codes ".") ≡ true
point_utf8 = is_utf8-from_IsUtf8 (codes ".") (IsUtf8-from_ascii (codes ".") point_ascii)

pub completed : (p : Pending) → Awaits p → Completed p
completed (TextLines t n) h = lines_completed (λ c n. TextLines (with_content t c) n) (λ c. shapes.Text (with_content t c)) (λ c n line. refl) t.content n h
completed (PathLines color s f content n) h = lines_completed (λ c n. PathLines color s f c n) (λ c. shapes.Path color s f c) (λ c n line. refl) content n h
completed (PictureName f false) h = record { shape = picture f [] None; lines = [] ∷ []; good = empties_good 1; follows = inl (adds_more (PictureName f false) [] _ (is_utf8-from_IsUtf8 [] IsUtf8-nil) refl, refl) }
completed (PictureName f true) h = record {
  shape = picture f [] (Some []);
  lines = [] ∷ codes "." ∷ [];
  good = (record { one = tt; no_cr = refl }, (record { one = (omega arith, tt); no_cr = refl }, tt));
  follows = inr (PictureLines f [] [], adds_more (PictureName f true) [] _ (is_utf8-from_IsUtf8 [] IsUtf8-nil) refl, data_follow f [] [] [] (point_utf8, tt) tt);
}
completed (PictureLines f file bytes) h = record {
  shape = picture f file (Some (bytes ++ []));
  lines = codes "." ∷ [];
  good = (record { one = (omega arith, tt); no_cr = refl }, tt);
  follows = data_follow f file bytes [] (point_utf8, tt) tt;
}
