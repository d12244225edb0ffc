-- What the machines over rows of the three kinds of files keep, take and end with.
use Rattle.std.proofs.Common.{◌≡◌, ℕ, ◌<◌, ◌≤◌, Bool, true, false, not, List, [], ◌∷◌, ◌++◌, length, Option, Some, None, refl, sym, ap, subst, ◌∙◌, ◌↔◌, inl, inr, ◌⊎◌, arith, codes, ltb, eqb, pos}
use Rattle.std.specs.Prelude.{is_some, IsSome, ◌&&◌}
use Rattle.std.specs.List.{AllByRecursion}
use Rattle.std.specs.Option.{option_map}
use Rattle.std.proofs.lemmas.Bool.{ltb-true, ltb-false}
use Rattle.std.proofs.lemmas.Bool.Decides.{nat_tests}
use Rattle.geda_model.specs.Data.{TextData}
use Rattle.geda_model.specs.Shapes.{PartData, ComponentData}
use Rattle.geda_model.specs.Sheets.{ObjectData}
use Rattle.geda_model.specs.declared.shape.Shape.{Shape}
use Rattle.geda_model.specs.declared.shape.Shape.TheVariants.{Straight, Picture, Rect, Circle, Arc, Text, Net, Bus, Pin, Path}
use Rattle.geda_model.specs.declared.object.Body.{Body}
use Rattle.geda_model.specs.declared.object.Body.TheVariants as bodies
use Rattle.geda_grammar.specs.declared.letter.Letter.TheVariants as letters
use Rattle.geda_grammar.specs.declared.letter.Letter.{Letter}
use Rattle.geda_grammar.specs.Letters.{is_bracket, is_object, is_attribute, is_open_symbol}
use Rattle.geda_grammar.specs.declared.row.Row.TheVariants as rows
use Rattle.geda_grammar.specs.declared.row.Row.{Row}
use Rattle.geda_grammar.specs.Components.{ComponentLineData}
use Rattle.geda_grammar.specs.Rows.{letter_of_shape, letter_of_row}
use Rattle.geda_grammar.specs.declared.row.Row.TheVariants.{Drawn}
use Rattle.geda_grammar.specs.declared.mode.Mode.{Mode}
use Rattle.geda_grammar.specs.declared.mode.Mode.TheVariants.{Settled, Last, Block}
use Rattle.geda_grammar.specs.steps.Levels.{Level, room, push, begun, put, with_text, text_in, close_block, closed}
use Rattle.geda_grammar.specs.declared.place.Place.{Place}
use Rattle.geda_grammar.specs.declared.place.Place.TheVariants.{Objects, Waiting, Inside}
use Rattle.geda_grammar.specs.steps.Sheets.{component_of, make_part, make_object, at_level, in_symbol, await, with_symbol, sheet_step, sheet_end, symbol_step, symbol_end}
use Rattle.geda_grammar.specs.steps.Reading.{Complete, Ready, reader_step, reader_end}
use Rattle.geda_grammar.specs.steps.Following.{more}
use Rattle.geda_grammar.specs.steps.SheetLines.{sheet_line}
use Rattle.geda_grammar.specs.steps.Running.{outcome, ◌>>=◌}
use Rattle.geda_grammar.specs.steps.Files.{RowMachine, admits, is_full, sheet_has_no_room, symbol_rows, object_rows, object_end, only_one}
use Rattle.geda_grammar.specs.Faults.{EndsInFullSymbol}
use Rattle.geda_text.specs.Lines.{IsCutLine, fields_of, whole_of, digits_of}
use Rattle.geda_grammar.proofs.FileLaws.{MayStand, not_false, close_block_said, open_symbol_said, close_symbol_line}
use Rattle.geda_grammar.proofs.LevelSound.{mapped, closed_fits}
use Rattle.geda_grammar.proofs.SheetLaws as laws

-- a test that fails beside one that holds
and_false : (b c : Bool) → (b && c) ≡ false → c ≡ true → b ≡ false
and_false true c e f = absurd cc
and_false false c e f = refl

-- a letter that is no bracket is no `[`
no_open : (l : Letter) → is_bracket l ≡ false → is_open_symbol (Some l) ≡ false
no_open letters.OpenSymbol e = absurd cc
no_open l e = refl

-- a shape that may stand in a block is a text
is_text : (s : Shape) → is_attribute (Some (letter_of_shape s)) ≡ true → is_some (text_in s) ≡ true
is_text (Text t) e = refl
is_text (Straight x1 y1 x2 y2 color stroke) e = absurd cc
is_text (Picture x y width height angle mirrored file embedded) e = absurd cc
is_text (Rect x y width height color stroke fill) e = absurd cc
is_text (Circle x y radius color stroke fill) e = absurd cc
is_text (Arc x y radius start sweep color stroke) e = absurd cc
is_text (Net x1 y1 x2 y2 color) e = absurd cc
is_text (Bus x1 y1 x2 y2 color ripper) e = absurd cc
is_text (Pin x1 y1 x2 y2 color bus whichend) e = absurd cc
is_text (Path color stroke fill content) e = absurd cc

text_is : (s : Shape) → is_some (text_in s) ≡ true → is_attribute (Some (letter_of_shape s)) ≡ true
text_is (Text t) e = refl
text_is (Straight x1 y1 x2 y2 color stroke) e = absurd cc
text_is (Picture x y width height angle mirrored file embedded) e = absurd cc
text_is (Rect x y width height color stroke fill) e = absurd cc
text_is (Circle x y radius color stroke fill) e = absurd cc
text_is (Arc x y radius start sweep color stroke) e = absurd cc
text_is (Net x1 y1 x2 y2 color) e = absurd cc
text_is (Bus x1 y1 x2 y2 color ripper) e = absurd cc
text_is (Pin x1 y1 x2 y2 color bus whichend) e = absurd cc
text_is (Path color stroke fill content) e = absurd cc

-- what is mapped is there
some_map : {A B : Type 0} (f : A → B) (o : Option A) → IsSome o → IsSome (option_map f o)
some_map f None e = absurd cc
some_map f (Some a) e = refl

map_some : {A B : Type 0} (f : A → B) (o : Option A) → IsSome (option_map f o) → IsSome o
map_some f None e = absurd cc
map_some f (Some a) e = refl

none_map : {A B : Type 0} (f : A → B) (o : Option A) → is_some (option_map f o) ≡ false → is_some o ≡ false
none_map f None e = refl
none_map f (Some a) e = absurd cc

module _ (A B : Type 0) (make : B → List TextData → A) (wrap : Shape → B) where
  text_fits : (kept : List A) (b : B) (ts : List TextData) (o : Option TextData) → is_some o ≡ true → IsSome (with_text kept b ts o)
  text_fits kept b ts None e = absurd cc
  text_fits kept b ts (Some t) e = refl

  fits_text : (kept : List A) (b : B) (ts : List TextData) (o : Option TextData) → IsSome (with_text kept b ts o) → is_some o ≡ true
  fits_text kept b ts None e = absurd cc
  fits_text kept b ts (Some t) e = refl

  -- whether a shape is taken depends on its letter alone
  pub level_letter : (most : ℕ) (kept : List A) (mode : Mode B) (a b : Shape) → letter_of_shape a ≡ letter_of_shape b → IsSome (put make wrap most a kept mode) → IsSome (put make wrap most b kept mode)
  level_letter most kept Settled a b e h = some_map (begun (wrap b)) (room make most kept Settled) (map_some (begun (wrap a)) (room make most kept Settled) h)
  level_letter most kept (Last c) a b e h = some_map (begun (wrap b)) (room make most kept (Last c)) (map_some (begun (wrap a)) (room make most kept (Last c)) h)
  level_letter most kept (Block c ts) a b e h =
      text_fits kept c ts (text_in b) (is_text b (subst (λ (l : Letter). is_attribute (Some l) ≡ true) e (text_is a (fits_text kept c ts (text_in a) h))))

  -- there is room where there is not too little, outside blocks
  pub room_there : (most : ℕ) (kept : List A) (mode : Mode B) → is_full most (closed make kept mode) ≡ false → is_some (close_block make kept mode) ≡ false → IsSome (room make most kept mode)
  room_there most kept Settled e f = rw (not_false (ltb (length kept) most) e) refl
  room_there most kept (Last c) e f = rw (not_false (ltb (length (kept ++ make c [] ∷ [])) most) e) refl
  room_there most kept (Block c ts) e f = absurd cc

  -- a shape is taken where there is room, and in a block where it is a text
  pub shape_taken : (most : ℕ) (kept : List A) (mode : Mode B) (s : Shape) → is_full most (closed make kept mode) ≡ false → (is_some (close_block make kept mode) && not (is_attribute (Some (letter_of_shape s)))) ≡ false → IsSome (put make wrap most s kept mode)
  shape_taken most kept Settled s e f = some_map (begun (wrap s)) (room make most kept Settled) (room_there most kept Settled e refl)
  shape_taken most kept (Last c) s e f = some_map (begun (wrap s)) (room make most kept (Last c)) (room_there most kept (Last c) e refl)
  shape_taken most kept (Block c ts) s e f = text_fits kept c ts (text_in s) (is_text s (not_false (is_attribute (Some (letter_of_shape s))) f))

  -- a list that is full has as many as it may
  pub full_count : (most : ℕ) (all : List A) → length all ≤ most → not (ltb (length all) most) ≡ true → length all ≡ most
  full_count most all few e = go (ltb (length all) most) refl e
    where
      go : (b : Bool) → ltb (length all) most ≡ b → not b ≡ true → length all ≡ most
      go true f e = absurd cc
      go false f e = let past = ltb-false _ _ f in omega (arith, past, few)

  pub count_full : (most : ℕ) (all : List A) → length all ≡ most → not (ltb (length all) most) ≡ true
  count_full most all e = go (ltb (length all) most) refl
    where
      go : (b : Bool) → ltb (length all) most ≡ b → not b ≡ true
      go true f = absurd (let less = ltb-true _ _ f in omega (arith, less, e))
      go false f = refl

-- on a sheet
pub sheet_letter : (most : ℕ) (s : Place) (a b : Shape) → letter_of_shape a ≡ letter_of_shape b → IsSome (sheet_step most s (Drawn a)) → IsSome (sheet_step most s (Drawn b))
sheet_letter most (Objects kept mode) a b e h = some_map at_level (put make_object bodies.Shape most b kept mode) (level_letter ObjectData Body make_object bodies.Shape most kept mode a b e (map_some at_level (put make_object bodies.Shape most a kept mode) h))
sheet_letter most (Waiting os p) a b e h = absurd cc
sheet_letter most (Inside os p kept mode) a b e h = some_map (in_symbol os p) (put make_part (λ s. s) 100000 b kept mode) (level_letter PartData Shape make_part (λ s. s) 100000 kept mode a b e (map_some (in_symbol os p) (put make_part (λ s. s) 100000 a kept mode) h))

-- the machine of sheets, with so many objects, whatever it ends with
abbrev places : (W : Type 0) → ℕ → (Place → Option W) → RowMachine Place W
places W most finish = record { start = Objects [] Settled; step = sheet_step most; finish = finish; has_no_room = sheet_has_no_room most; is_symbol = false }

block_free : (b : Bool) → (b && true) ≡ false → b ≡ false
block_free true e = absurd cc
block_free false e = refl

pub sheet_accepts : (W : Type 0) (most : ℕ) (finish : Place → Option W) (s : Place) (row : Row) → is_bracket (letter_of_row row) ≡ false → MayStand (places W most finish) s (letter_of_row row) → IsSome (sheet_step most s row)
sheet_accepts W most finish (Objects kept mode) (Drawn s) object h =
    let full = and_false (is_full most (closed make_object kept mode)) (is_object (Some (letter_of_shape s))) h.room (ap not object) in
    let block : (is_some (close_block make_object kept mode) && not (is_attribute (Some (letter_of_shape s)))) ≡ false = same (close_block make_object kept mode) (not (is_attribute (Some (letter_of_shape s)))) h.block in
    some_map at_level (put make_object bodies.Shape most s kept mode) (shape_taken ObjectData Body make_object bodies.Shape most kept mode s full block)
  where
    same : (o : Option (Level ObjectData Body)) (c : Bool) → (is_some (option_map at_level o) && c) ≡ false → (is_some o && c) ≡ false
    same None c e = refl
    same (Some l) c e = e
sheet_accepts W most finish (Objects kept mode) (rows.Library p) object h =
    let full = and_false (is_full most (closed make_object kept mode)) true h.room refl in
    let free = none_map at_level (close_block make_object kept mode) (block_free (is_some (option_map at_level (close_block make_object kept mode))) h.block) in
    let b = bodies.Component (component_of p None) in
    some_map at_level (push make_object most b kept mode) (some_map (begun b) (room make_object most kept mode) (room_there ObjectData Body make_object bodies.Shape most kept mode full free))
sheet_accepts W most finish (Objects kept mode) (rows.Embedding p) object h =
    let full = and_false (is_full most (closed make_object kept mode)) true h.room refl in
    let free = none_map at_level (close_block make_object kept mode) (block_free (is_some (option_map at_level (close_block make_object kept mode))) h.block) in
    some_map (await p) (room make_object most kept mode) (room_there ObjectData Body make_object bodies.Shape most kept mode full free)
sheet_accepts W most finish (Waiting os p) (Drawn s) object h = absurd (let other = no_open (letter_of_shape s) object in let e = not_false (is_open_symbol (Some (letter_of_shape s))) h.symbol in cc)
sheet_accepts W most finish (Waiting os p) (rows.Library q) object h = absurd (let e = h.symbol in cc)
sheet_accepts W most finish (Waiting os p) (rows.Embedding q) object h = absurd (let e = h.symbol in cc)
sheet_accepts W most finish (Inside os p kept mode) (Drawn s) object h =
    let full = and_false (is_full 100000 (closed make_part kept mode)) (is_object (Some (letter_of_shape s))) h.room (ap not object) in
    let block : (is_some (close_block make_part kept mode) && not (is_attribute (Some (letter_of_shape s)))) ≡ false = same (close_block make_part kept mode) (not (is_attribute (Some (letter_of_shape s)))) h.block in
    some_map (in_symbol os p) (put make_part (λ s. s) 100000 s kept mode) (shape_taken PartData Shape make_part (λ s. s) 100000 kept mode s full block)
  where
    same : (o : Option (Level PartData Shape)) (c : Bool) → (is_some (option_map (in_symbol os p) o) && c) ≡ false → (is_some o && c) ≡ false
    same None c e = refl
    same (Some l) c e = e
sheet_accepts W most finish (Inside os p kept Settled) (rows.Library q) object h = absurd (let e = h.nested in cc)
sheet_accepts W most finish (Inside os p kept (Last s)) (rows.Library q) object h = absurd (let e = h.nested in cc)
sheet_accepts W most finish (Inside os p kept (Block s ts)) (rows.Library q) object h = absurd (let e = h.block in cc)
sheet_accepts W most finish (Inside os p kept Settled) (rows.Embedding q) object h = absurd (let e = h.nested in cc)
sheet_accepts W most finish (Inside os p kept (Last s)) (rows.Embedding q) object h = absurd (let e = h.nested in cc)
sheet_accepts W most finish (Inside os p kept (Block s ts)) (rows.Embedding q) object h = absurd (let e = h.block in cc)
sheet_accepts W most finish s rows.OpenBlock object h = absurd cc
sheet_accepts W most finish s rows.CloseBlock object h = absurd cc
sheet_accepts W most finish s rows.OpenSymbol object h = absurd cc
sheet_accepts W most finish s rows.CloseSymbol object h = absurd cc

-- a bracket's line
abbrev bracket_line : ℕ → List (List ℕ)
bracket_line b = (b ∷ []) ∷ []

bracket_good : (b : ℕ) → 13 < b → IsCutLine (b ∷ [])
bracket_good b h = let other : eqb b 13 ≡ false = grind (arith, nat_tests, h) in record { one = (omega (arith, h), tt); no_cr = rw other refl }

-- what lines make of a state between rows
abbrev EndsWith : (W : Type 0) → RowMachine Place W → Place → List (List ℕ) → W → Type 0
EndsWith W m s lines w = outcome (reader_step sheet_line more m.step (admits m)) (reader_end m.finish) (Ready s) lines ≡ Some w

-- some lines end what is open on a sheet
pub sheet_closing : (most : ℕ) (s : Place) → (lines : List (List ℕ)) × AllByRecursion IsCutLine lines × (w : List ObjectData) × EndsWith (List ObjectData) (places (List ObjectData) most sheet_end) s lines w
sheet_closing most (Objects kept Settled) = ([], tt, kept, refl)
sheet_closing most (Objects kept (Last b)) = ([], tt, kept ++ make_object b [] ∷ [], refl)
sheet_closing most (Objects kept (Block b ts)) = (codes "}" ∷ [], (bracket_good 125 (omega arith), tt), kept ++ make_object b ts ∷ [], rw close_block_said refl)
sheet_closing most (Waiting os p) = (codes "[" ∷ codes "]" ∷ [], (bracket_good 91 (omega arith), (bracket_good 93 (omega arith), tt)), os ++ make_object (bodies.Component (component_of p (Some []))) [] ∷ [], rw (open_symbol_said, close_symbol_line) refl)
sheet_closing most (Inside os p kept Settled) = (codes "]" ∷ [], (bracket_good 93 (omega arith), tt), os ++ make_object (bodies.Component (component_of p (Some kept))) [] ∷ [], rw close_symbol_line refl)
sheet_closing most (Inside os p kept (Last s)) = (codes "]" ∷ [], (bracket_good 93 (omega arith), tt), os ++ make_object (bodies.Component (component_of p (Some (kept ++ make_part s [] ∷ [])))) [] ∷ [], rw close_symbol_line refl)
sheet_closing most (Inside os p kept (Block s ts)) = (codes "}" ∷ codes "]" ∷ [], (bracket_good 125 (omega arith), (bracket_good 93 (omega arith), tt)), os ++ make_object (bodies.Component (component_of p (Some (kept ++ make_part s ts ∷ [])))) [] ∷ [], rw (close_block_said, close_symbol_line) refl)

-- a net's line
net_said : sheet_line (codes "N 0 0 0 0 0") ≡ Complete (Drawn (Net (pos 0) (pos 0) (pos 0) (pos 0) (pos 0)))
unfolding fields_of whole_of digits_of
net_said = refl

net_good : IsCutLine (codes "N 0 0 0 0 0")
net_good = record { one = (omega arith, (omega arith, (omega arith, (omega arith, (omega arith, (omega arith, (omega arith, (omega arith, (omega arith, (omega arith, (omega arith, tt))))))))))); no_cr = refl }

-- the same of a file that has one object
pub object_closing : (s : Place) → laws.Fits 1 s → (lines : List (List ℕ)) × AllByRecursion IsCutLine lines × (w : ObjectData) × EndsWith ObjectData object_rows s lines w
object_closing (Objects [] Settled) f = (codes "N 0 0 0 0 0" ∷ [], (net_good, tt), make_object (bodies.Shape (Net (pos 0) (pos 0) (pos 0) (pos 0) (pos 0))) [], rw net_said refl)
object_closing (Objects (o ∷ []) Settled) f = ([], tt, o, refl)
object_closing (Objects (o ∷ q ∷ os) Settled) f = absurd (omega (arith, f))
object_closing (Objects [] (Last b)) f = ([], tt, make_object b [], refl)
object_closing (Objects (o ∷ os) (Last b)) f = absurd (omega (arith, f))
object_closing (Objects [] (Block b ts)) f = (codes "}" ∷ [], (bracket_good 125 (omega arith), tt), make_object b ts, rw close_block_said refl)
object_closing (Objects (o ∷ os) (Block b ts)) f = absurd (omega (arith, f))
object_closing (Waiting [] p) f = (codes "[" ∷ codes "]" ∷ [], (bracket_good 91 (omega arith), (bracket_good 93 (omega arith), tt)), make_object (bodies.Component (component_of p (Some []))) [], rw (open_symbol_said, close_symbol_line) refl)
object_closing (Waiting (o ∷ os) p) f = absurd (omega (arith, f))
object_closing (Inside [] p kept Settled) f = (codes "]" ∷ [], (bracket_good 93 (omega arith), tt), make_object (bodies.Component (component_of p (Some kept))) [], rw close_symbol_line refl)
object_closing (Inside [] p kept (Last s)) f = (codes "]" ∷ [], (bracket_good 93 (omega arith), tt), make_object (bodies.Component (component_of p (Some (kept ++ make_part s [] ∷ [])))) [], rw close_symbol_line refl)
object_closing (Inside [] p kept (Block s ts)) f = (codes "}" ∷ codes "]" ∷ [], (bracket_good 125 (omega arith), (bracket_good 93 (omega arith), tt)), make_object (bodies.Component (component_of p (Some (kept ++ make_part s ts ∷ [])))) [], rw (close_block_said, close_symbol_line) refl)
object_closing (Inside (o ∷ os) p kept mode) f = absurd (let g = f.0 in omega (arith, g))

-- the last of two equal lists
pub last_same : {A : Type 0} (xs ys : List A) (x y : A) → xs ++ x ∷ [] ≡ ys ++ y ∷ [] → x ≡ y
last_same [] [] x y e = cc
last_same [] (z ∷ []) x y e = absurd cc
last_same [] (z ∷ w ∷ ys) x y e = absurd cc
last_same (z ∷ []) [] x y e = absurd cc
last_same (z ∷ w ∷ xs) [] x y e = absurd cc
last_same (z ∷ xs) (w ∷ ys) x y e = last_same xs ys x y (let same : xs ++ x ∷ [] ≡ ys ++ y ∷ [] = cc in same)

-- a shape that was put last is no component
pushed_not_full : (items : List ObjectData) (s : Shape) (w : List ObjectData) → items ++ make_object (bodies.Shape s) [] ∷ [] ≡ w → ¬ (EndsInFullSymbol w)
pushed_not_full items s w e (front, c, parts, same, em, n) =
    let one = last_same items front (make_object (bodies.Shape s) []) (make_object (bodies.Component c) []) (e ∙ same) in
    absurd (let b : bodies.Shape s ≡ bodies.Component c = ap (λ (o : ObjectData). o.body) one in cc)

begun_not_full : (kept : List ObjectData) (mode : Mode Body) (most : ℕ) (s : Shape) (w : List ObjectData) (l : Level ObjectData Body) → push make_object most (bodies.Shape s) kept mode ≡ Some l → closed make_object l.kept l.mode ≡ Some w → ¬ (EndsInFullSymbol w)
begun_not_full kept mode most s w l e f =
    let b = mapped (begun (bodies.Shape s)) (room make_object most kept mode) l e in
    let g : closed make_object b.0 (Last (bodies.Shape s)) ≡ Some w = subst (λ (k : Level ObjectData Body). closed make_object k.kept k.mode ≡ Some w) (sym b.2) f in
    let same : b.0 ++ make_object (bodies.Shape s) [] ∷ [] ≡ w = cc in
    pushed_not_full b.0 s w same

texts_not_ended : (kept : List ObjectData) (b : Body) (ts : List TextData) (o : Option TextData) (w : List ObjectData) (l : Level ObjectData Body) → with_text kept b ts o ≡ Some l → ¬ (closed make_object l.kept l.mode ≡ Some w)
texts_not_ended kept b ts None w l e f = absurd cc
texts_not_ended kept b ts (Some t) w l e f =
    let same : record { kept = kept; mode = Block b (ts ++ t ∷ []) } ≡ l = cc in
    let g : closed make_object kept (Block b (ts ++ t ∷ [])) ≡ Some w = subst (λ (k : Level ObjectData Body). closed make_object k.kept k.mode ≡ Some w) (sym same) f in
    absurd cc

level_not_full : (kept : List ObjectData) (mode : Mode Body) (most : ℕ) (s : Shape) (w : List ObjectData) (l : Level ObjectData Body) → put make_object bodies.Shape most s kept mode ≡ Some l → closed make_object l.kept l.mode ≡ Some w → ¬ (EndsInFullSymbol w)
level_not_full kept Settled most s w l e f = begun_not_full kept Settled most s w l e f
level_not_full kept (Last b) most s w l e f = begun_not_full kept (Last b) most s w l e f
level_not_full kept (Block b ts) most s w l e f = absurd (texts_not_ended kept b ts (text_in s) w l e f)

pub shape_not_full : (most : ℕ) (s t : Place) (shape : Shape) (w : List ObjectData) → sheet_step most s (Drawn shape) ≡ Some t → sheet_end t ≡ Some w → ¬ (EndsInFullSymbol w)
shape_not_full most (Objects kept mode) t shape w e f =
    let m = mapped at_level (put make_object bodies.Shape most shape kept mode) t e in
    level_not_full kept mode most shape w m.0 m.1 (subst (λ (u : Place). sheet_end u ≡ Some w) (sym m.2) f)
shape_not_full most (Waiting os p) t shape w e f = absurd cc
shape_not_full most (Inside os p kept mode) t shape w e f =
    let m = mapped (in_symbol os p) (put make_part (λ s. s) 100000 shape kept mode) t e in
    absurd (let g : sheet_end (in_symbol os p m.0) ≡ Some w = subst (λ (u : Place). sheet_end u ≡ Some w) (sym m.2) f in cc)

-- a symbol that is full
symbol_full : (os : List ObjectData) (p : ComponentLineData) (parts : List PartData) → length parts ≡ 100000 → EndsInFullSymbol (os ++ make_object (bodies.Component (component_of p (Some parts))) [] ∷ [])
symbol_full os p parts e = (os, component_of p (Some parts), parts, refl, refl, e)

full_symbol : (os : List ObjectData) (p : ComponentLineData) (parts : List PartData) → EndsInFullSymbol (os ++ make_object (bodies.Component (component_of p (Some parts))) [] ∷ []) → length parts ≡ 100000
full_symbol os p parts (front, c, more_parts, same, em, n) =
    let one = last_same os front (make_object (bodies.Component (component_of p (Some parts))) []) (make_object (bodies.Component c) []) same in
    let b : bodies.Component (component_of p (Some parts)) ≡ bodies.Component c = ap (λ (o : ObjectData). o.body) one in
    let d : component_of p (Some parts) ≡ c = cc in
    let s : Some parts ≡ Some more_parts = ap (λ (k : ComponentData). k.embedded) d ∙ em in
    let g : parts ≡ more_parts = cc in
    ap length g ∙ n

-- what a full state is, by what it ends with now, or behind a `]`
abbrev pub IsAtMost : (S W : Type 0) → (S → Row → Option S) → (S → Option W) → (W → Type 0) → (W → Type 0) → S → Type 0
IsAtMost S W step finish IsFull HasFull s = ((w : W) × (finish s ≡ Some w) × IsFull w) ⊎ ((w : W) × ((step s rows.CloseSymbol >>= finish) ≡ Some w) × HasFull w)

-- on a sheet
abbrev SheetFull : Place → Type 0
SheetFull s = IsAtMost Place (List ObjectData) (sheet_step 100000) sheet_end (λ os. length os ≡ 100000) EndsInFullSymbol s

closed_full : {A B : Type 0} (make : B → List TextData → A) (wrap : Shape → B) (most : ℕ) (o : Option (List A)) → ((all : List A) → o ≡ Some all → length all ≤ most) → is_full most o ≡ true → (all : List A) × (o ≡ Some all) × (length all ≡ most)
closed_full make wrap most None few e = absurd cc
closed_full {A = A} {B = B} make wrap most (Some all) few e = (all, refl, full_count A B make wrap most all (few all refl) e)

full_closed : {A B : Type 0} (make : B → List TextData → A) (wrap : Shape → B) (most : ℕ) (o : Option (List A)) (all : List A) → o ≡ Some all → length all ≡ most → is_full most o ≡ true
full_closed {A = A} {B = B} make wrap most o all e n = rw e (count_full A B make wrap most all n)

sheet_full_back : (s : Place) → laws.Fits 100000 s → sheet_has_no_room 100000 s ≡ true → SheetFull s
sheet_full_back (Objects kept mode) f e =
    let c = closed_full make_object bodies.Shape 100000 (closed make_object kept mode) (λ all g. closed_fits ObjectData Body make_object bodies.Shape 100000 kept mode all f g) e in
    inl (c.0, c.1, c.2)
sheet_full_back (Waiting os p) f e = absurd cc
sheet_full_back (Inside os p kept mode) f e =
    let c = closed_full make_part (λ s. s) 100000 (closed make_part kept mode) (λ all g. closed_fits PartData Shape make_part (λ s. s) 100000 kept mode all f.1 g) e in
    inr (os ++ make_object (bodies.Component (component_of p (Some c.0))) [] ∷ [], ap (λ (o : Option (List PartData)). option_map (with_symbol os p) o >>= sheet_end) c.1, symbol_full os p c.0 c.2)

sheet_full_there : (s : Place) → SheetFull s → sheet_has_no_room 100000 s ≡ true
sheet_full_there (Objects kept mode) (inl h) = full_closed make_object bodies.Shape 100000 (closed make_object kept mode) h.0 h.1 h.2
sheet_full_there (Objects kept mode) (inr h) = absurd (let e = h.1 in cc)
sheet_full_there (Waiting os p) (inl h) = absurd (let e = h.1 in cc)
sheet_full_there (Waiting os p) (inr h) = absurd (let e = h.1 in cc)
sheet_full_there (Inside os p kept mode) (inl h) = absurd (let e = h.1 in cc)
sheet_full_there (Inside os p kept mode) (inr h) = go (closed make_part kept mode) h.1
  where
    go : (o : Option (List PartData)) → (option_map (with_symbol os p) o >>= sheet_end) ≡ Some h.0 → is_full 100000 o ≡ true
    go None e = absurd cc
    go (Some parts) e =
        let same : os ++ make_object (bodies.Component (component_of p (Some parts))) [] ∷ [] ≡ h.0 = cc in
        full_closed make_part (λ s. s) 100000 (Some parts) parts refl (full_symbol os p parts (subst EndsInFullSymbol (sym same) h.2))

pub sheet_full_law : (s : Place) → laws.Fits 100000 s → SheetFull s ↔ (sheet_has_no_room 100000 s ≡ true)
sheet_full_law s f = (sheet_full_there s, sheet_full_back s f)

-- the same of a file that has one object
abbrev AnyObject : ObjectData → Type 0
AnyObject o = Unit {0}

abbrev EndsFull : ObjectData → Type 0
EndsFull o = EndsInFullSymbol (o ∷ [])

abbrev ObjectFull : Place → Type 0
ObjectFull s = IsAtMost Place ObjectData (sheet_step 1) object_end AnyObject EndsFull s

-- one object is one
pub only_is : (o : Option (List ObjectData)) (w : ObjectData) → only_one o ≡ Some w → o ≡ Some (w ∷ [])
only_is None w e = absurd cc
only_is (Some []) w e = absurd cc
only_is (Some (o ∷ [])) w e = let same : o ≡ w = cc in ap (λ (q : ObjectData). Some (q ∷ [])) same
only_is (Some (o ∷ q ∷ os)) w e = absurd cc

one_is : (all : List ObjectData) → length all ≡ 1 → (w : ObjectData) × (all ≡ w ∷ [])
one_is [] e = absurd (omega (arith, e))
one_is (w ∷ []) e = (w, refl)
one_is (w ∷ q ∷ os) e = absurd (omega (arith, e))

none_before : (os : List ObjectData) → length os < 1 → os ≡ []
none_before [] e = refl
none_before (o ∷ os) e = absurd (omega (arith, e))

object_full_back : (s : Place) → laws.Fits 1 s → sheet_has_no_room 1 s ≡ true → ObjectFull s
object_full_back (Objects kept mode) f e =
    let c = closed_full make_object bodies.Shape 1 (closed make_object kept mode) (λ all g. closed_fits ObjectData Body make_object bodies.Shape 1 kept mode all f g) e in
    let one = one_is c.0 c.2 in
    inl (one.0, ap only_one c.1 ∙ ap (λ (os : List ObjectData). only_one (Some os)) one.1, tt)
object_full_back (Waiting os p) f e = absurd cc
object_full_back (Inside os p kept mode) f e =
    let c = closed_full make_part (λ s. s) 100000 (closed make_part kept mode) (λ all g. closed_fits PartData Shape make_part (λ s. s) 100000 kept mode all f.1 g) e in
    let o = make_object (bodies.Component (component_of p (Some c.0))) [] in
    inr (o, ap (λ (r : Option (List PartData)). option_map (with_symbol os p) r >>= object_end) c.1 ∙ ap (λ (before : List ObjectData). only_one (Some (before ++ o ∷ []))) (none_before os f.0), symbol_full [] p c.0 c.2)

object_full_there : (s : Place) → ObjectFull s → sheet_has_no_room 1 s ≡ true
object_full_there (Objects kept mode) (inl h) = full_closed make_object bodies.Shape 1 (closed make_object kept mode) (h.0 ∷ []) (only_is (closed make_object kept mode) h.0 h.1) (omega arith)
object_full_there (Objects kept mode) (inr h) = absurd (let e = h.1 in cc)
object_full_there (Waiting os p) (inl h) = absurd (let e = h.1 in cc)
object_full_there (Waiting os p) (inr h) = absurd (let e = h.1 in cc)
object_full_there (Inside os p kept mode) (inl h) = absurd (let e = h.1 in cc)
object_full_there (Inside os p kept mode) (inr h) = go (closed make_part kept mode) h.1
  where
    go : (o : Option (List PartData)) → (option_map (with_symbol os p) o >>= object_end) ≡ Some h.0 → is_full 100000 o ≡ true
    go None e = absurd cc
    go (Some parts) e =
        let all : Some (os ++ make_object (bodies.Component (component_of p (Some parts))) [] ∷ []) ≡ Some (h.0 ∷ []) = only_is (Some (os ++ make_object (bodies.Component (component_of p (Some parts))) [] ∷ [])) h.0 e in
        let same : os ++ make_object (bodies.Component (component_of p (Some parts))) [] ∷ [] ≡ h.0 ∷ [] = cc in
        full_closed make_part (λ s. s) 100000 (Some parts) parts refl (full_symbol os p parts (subst EndsInFullSymbol (sym same) h.2))

pub object_full_law : (s : Place) → laws.Fits 1 s → ObjectFull s ↔ (sheet_has_no_room 1 s ≡ true)
object_full_law s f = (object_full_there s, object_full_back s f)

pub object_not_full : (s t : Place) (shape : Shape) (w : ObjectData) → sheet_step 1 s (Drawn shape) ≡ Some t → object_end t ≡ Some w → ¬ (EndsFull w)
object_not_full s t shape w e f = shape_not_full 1 s t shape (w ∷ []) e (only_is (sheet_end t) w f)

-- a symbol file
abbrev Parts : Type 0
Parts = Level PartData Shape

pub symbol_letter : (s : Parts) (a b : Shape) → letter_of_shape a ≡ letter_of_shape b → IsSome (symbol_step s (Drawn a)) → IsSome (symbol_step s (Drawn b))
symbol_letter s a b e h = level_letter PartData Shape make_part (λ s. s) 100000 s.kept s.mode a b e h

pub symbol_accepts : (s : Parts) (row : Row) → is_bracket (letter_of_row row) ≡ false → MayStand symbol_rows s (letter_of_row row) → IsSome (symbol_step s row)
symbol_accepts s (Drawn shape) object h =
    let full = and_false (is_full 100000 (closed make_part s.kept s.mode)) (is_object (Some (letter_of_shape shape))) h.room (ap not object) in
    shape_taken PartData Shape make_part (λ s. s) 100000 s.kept s.mode shape full h.block
symbol_accepts s (rows.Library p) object h = absurd (let e = h.nested in cc)
symbol_accepts s (rows.Embedding p) object h = absurd (let e = h.nested in cc)
symbol_accepts s rows.OpenBlock object h = absurd cc
symbol_accepts s rows.CloseBlock object h = absurd cc
symbol_accepts s rows.OpenSymbol object h = absurd cc
symbol_accepts s rows.CloseSymbol object h = absurd cc

pub symbol_closing : (kept : List PartData) (mode : Mode Shape) → (lines : List (List ℕ)) × AllByRecursion IsCutLine lines × (w : List PartData) × (outcome (reader_step sheet_line more symbol_rows.step (admits symbol_rows)) (reader_end symbol_rows.finish) (Ready (record { kept = kept; mode = mode })) lines ≡ Some w)
symbol_closing kept Settled = ([], tt, kept, refl)
symbol_closing kept (Last b) = ([], tt, kept ++ make_part b [] ∷ [], refl)
symbol_closing kept (Block b ts) = (codes "}" ∷ [], (bracket_good 125 (omega arith), tt), kept ++ make_part b ts ∷ [], rw close_block_said refl)

abbrev Never : List PartData → Type 0
Never ps = ⊥

abbrev PartsFull : Parts → Type 0
PartsFull s = IsAtMost Parts (List PartData) symbol_step symbol_end (λ ps. length ps ≡ 100000) Never s

pub symbol_full_law : (s : Parts) → laws.LevelFits s → PartsFull s ↔ (is_full 100000 (closed make_part s.kept s.mode) ≡ true)
symbol_full_law s f = (there, back)
  where
    there : PartsFull s → is_full 100000 (closed make_part s.kept s.mode) ≡ true
    there (inl h) = full_closed make_part (λ s. s) 100000 (closed make_part s.kept s.mode) h.0 h.1 h.2
    there (inr h) = absurd h.2

    back : is_full 100000 (closed make_part s.kept s.mode) ≡ true → PartsFull s
    back e =
        let c = closed_full make_part (λ s. s) 100000 (closed make_part s.kept s.mode) (λ all g. closed_fits PartData Shape make_part (λ s. s) 100000 s.kept s.mode all f g) e in
        inl (c.0, c.1, c.2)
