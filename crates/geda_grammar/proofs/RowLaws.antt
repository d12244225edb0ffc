-- A line and the lines that follow it spell a row exactly where the machine takes them to it.
use Rattle.std.proofs.Common.{◌≡◌, ℕ, ℤ, pos, Bool, true, false, cond, List, [], ◌∷◌, ◌++◌, length, Some, None, refl, sym, ap, subst, ◌∙◌, inl, inr, ◌⊎◌, codes, take, drop}
use Rattle.std.specs.Prelude.{if◌then◌else◌}
use Rattle.std.specs.List.{join_with_byte}
use Rattle.std.proofs.lemmas.List.{take-append-drop}
use Rattle.geda_defs.proofs.Bytes.{bytes_same}
use Rattle.geda_model.specs.Data.{TextData, StrokeData, FillData}
use Rattle.geda_model.specs.declared.shape.Shape.{Shape}
use Rattle.geda_model.specs.declared.shape.Shape.TheVariants as shapes
use Rattle.geda_grammar.specs.declared.letter.Letter.{Letter}
use Rattle.geda_grammar.specs.Letters.{byte_of}
use Rattle.geda_grammar.specs.declared.letter.Letter.TheVariants.{Straight, Picture, Rect, Circle, Arc, Text, Net, Bus, Pin, Path, Component, OpenBlock, CloseBlock, OpenSymbol, CloseSymbol}
use Rattle.geda_grammar.specs.declared.field_class.Class.TheVariants.{UpTo, Lines, Angle}
use Rattle.geda_grammar.specs.Classes.{Field, Number, Word, classes_of, AreFields, fits}
use Rattle.geda_grammar.specs.declared.row.Row.TheVariants as rows
use Rattle.geda_grammar.specs.declared.row.Row.{Row}
use Rattle.geda_grammar.specs.Components.{ComponentLineData}
use Rattle.geda_grammar.specs.Rows.{fill_fields, stroke_fields, IsRow, letter_of_shape, letter_of_row, shape_fields, row_fields, component_fields, FollowShape, FollowRow, is_embedding, natural, bit}
use Rattle.geda_grammar.specs.steps.Reading.{SheetLine, Blank, Complete, Begins, Faulty}
use Rattle.geda_grammar.specs.steps.Following.{Pending, add, add_line, TextLines, PathLines, PictureName, PictureLines, PictureLineData, with_content, picture, more}
use Rattle.geda_grammar.specs.steps.SheetLines.{drawn_line, letter_line, sheet_line, component_data, natural_in, flag_in, stroke, fill}
use Rattle.geda_grammar.proofs.LineRows.{Follows}
use Rattle.geda_grammar.proofs.FieldLaws.{FitFields, line_as, has_fields, line_fits, natural_back, flag_back, bit_back}
use Rattle.geda_grammar.proofs.FollowLaws.{AreUtf8, lines_follow, lines_back, data_follow, data_back, more_adds, adds_more}

-- what a row was read from, by what its line says
abbrev Back : Letter → List Field → SheetLine Pending → Type 0
Back letter fields Blank = Unit {0}
Back letter fields (Complete row) = (letter ≡ letter_of_row row) × (fields ≡ row_fields row 0) × FollowRow row []
Back letter fields (Begins p) = (shape : Shape) (following : List (List ℕ)) → Follows more p shape following → (letter ≡ letter_of_shape shape) × (fields ≡ shape_fields shape (length following)) × FollowShape shape following × AreUtf8 following
Back letter fields Faulty = Unit {0}

-- a text
text_back : (x y color size visible show angle align lines : ℤ) → FitFields (classes_of Text) (Number x ∷ Number y ∷ Number color ∷ Number size ∷ Number visible ∷ Number show ∷ Number angle ∷ Number align ∷ Number lines ∷ []) → Back Text (Number x ∷ Number y ∷ Number color ∷ Number size ∷ Number visible ∷ Number show ∷ Number angle ∷ Number align ∷ Number lines ∷ []) (letter_line Text (Number x ∷ Number y ∷ Number color ∷ Number size ∷ Number visible ∷ Number show ∷ Number angle ∷ Number align ∷ Number lines ∷ []))
text_back x y color size visible show angle align lines h = λ shape following f.
    let t : TextData = record { x = x; y = y; color = color; size = size; visible = natural_in visible; show = natural_in show; angle = natural_in angle; align = natural_in align; content = [] } in
    let b = lines_back (λ c n. TextLines (with_content t c) n) (λ c. shapes.Text (with_content t c)) (λ c n line. refl) following [] (natural_in lines) shape f in
    let whole = shapes.Text (with_content t (join_with_byte 10 following)) in
    let n = natural (length following) in
    let visible' = natural_back (UpTo 1) visible (λ n. refl) h.1.1.1.1.0 in
    let show' = natural_back (UpTo 2) show (λ n. refl) h.1.1.1.1.1.0 in
    let angle' = natural_back Angle angle (λ n. refl) h.1.1.1.1.1.1.0 in
    let align' = natural_back (UpTo 8) align (λ n. refl) h.1.1.1.1.1.1.1.0 in
    let lines' = natural_back Lines lines (λ n. refl) h.1.1.1.1.1.1.1.1.0 in
    let count : n ≡ Number lines = ap natural (sym b.1) ∙ lines' in
    let fields : (Number x ∷ Number y ∷ Number color ∷ Number size ∷ Number visible ∷ Number show ∷ Number angle ∷ Number align ∷ Number lines ∷ []) ≡ shape_fields whole (length following) = rw (visible', show', angle', align', count) refl in
    (ap letter_of_shape (sym b.0), fields ∙ ap (λ (s : Shape). shape_fields s (length following)) (sym b.0), subst (λ (s : Shape). FollowShape s following) (sym b.0) refl, b.2)

-- a path
path_back : (color : ℤ) (s : StrokeData) (f : FillData) (lines : ℤ) (following : List (List ℕ)) (shape : Shape) → natural (natural_in lines) ≡ Number lines → Follows more (PathLines color s f [] (natural_in lines)) shape following → (Path ≡ letter_of_shape shape) × ((Number color ∷ (stroke_fields s ++ fill_fields f ++ Number lines ∷ [])) ≡ shape_fields shape (length following)) × FollowShape shape following × AreUtf8 following
path_back color s f lines following shape lines' h =
    let b = lines_back (λ c n. PathLines color s f c n) (λ c. shapes.Path color s f c) (λ c n line. refl) following [] (natural_in lines) shape h in
    let count : natural (length following) ≡ Number lines = ap natural (sym b.1) ∙ lines' in
    let whole = shapes.Path color s f (join_with_byte 10 following) in
    let fields : (Number color ∷ (stroke_fields s ++ fill_fields f ++ Number lines ∷ [])) ≡ shape_fields whole (length following) = rw count refl in
    (ap letter_of_shape (sym b.0), fields ∙ ap (λ (s : Shape). shape_fields s (length following)) (sym b.0), subst (λ (s : Shape). FollowShape s following) (sym b.0) refl, b.2)

-- a picture
abbrev frame_fields : PictureLineData → Bool → List Field
frame_fields f embedded = Number f.x ∷ Number f.y ∷ Number f.width ∷ Number f.height ∷ natural f.angle ∷ bit f.mirrored ∷ bit embedded ∷ []

picture_back : (f : PictureLineData) (embedded : Bool) (following : List (List ℕ)) (shape : Shape) → Follows more (PictureName f embedded) shape following → (Picture ≡ letter_of_shape shape) × (frame_fields f embedded ≡ shape_fields shape (length following)) × FollowShape shape following × AreUtf8 following
picture_back f embedded [] shape h = absurd h
picture_back f true (line ∷ lines) shape (inl h) =
    let m = more_adds (PictureName f true) line _ h.0 in
    absurd (let e = m.1 in cc)
picture_back f true (line ∷ lines) shape (inr h) =
    let m = more_adds (PictureName f true) line _ h.1 in
    let same : PictureLines f line [] ≡ h.0 = (let e = m.1 in cc) in
    let d = data_back lines f line [] shape (subst (λ (q : Pending). Follows more q shape lines) (sym same) h.2) in
    (ap letter_of_shape (sym d.shape_is), ap (λ (s : Shape). shape_fields s (length (line ∷ lines))) (sym d.shape_is), subst (λ (s : Shape). FollowShape s (line ∷ lines)) (sym d.shape_is) (d.data_lines, ap (λ (ls : List (List ℕ)). line ∷ ls) d.lines_are, d.no_point, refl), (m.0, d.utf8))
picture_back f false (line ∷ lines) shape (inl h) =
    let m = more_adds (PictureName f false) line _ h.0 in
    let same : picture f line None ≡ shape = (let e = m.1 in cc) in
    (ap letter_of_shape same, ap (λ (s : Shape). shape_fields s (length (line ∷ lines))) same, subst (λ (s : Shape). FollowShape s (line ∷ lines)) same (ap (λ (ls : List (List ℕ)). line ∷ ls) h.1), subst (λ (ls : List (List ℕ)). AreUtf8 (line ∷ ls)) (sym h.1) (m.0, tt))
picture_back f false (line ∷ lines) shape (inr h) =
    let m = more_adds (PictureName f false) line _ h.1 in
    absurd (let e = m.1 in cc)

-- a component
component_back : (x y selectable angle mirror : ℤ) (name : List ℕ) (b : Bool) → is_embedding name ≡ b → FitFields (classes_of Component) (Number x ∷ Number y ∷ Number selectable ∷ Number angle ∷ Number mirror ∷ Word name ∷ []) → Back Component (Number x ∷ Number y ∷ Number selectable ∷ Number angle ∷ Number mirror ∷ Word name ∷ []) (cond b (Complete (rows.Embedding (component_data x y selectable angle mirror (drop 8 name)))) (Complete (rows.Library (component_data x y selectable angle mirror name))))
component_back x y selectable angle mirror name true e h =
    let selectable' = flag_back selectable h.1.1.0 in
    let angle' = natural_back Angle angle (λ n. refl) h.1.1.1.0 in
    let mirror' = flag_back mirror h.1.1.1.1.0 in
    let name' : codes "EMBEDDED" ++ drop 8 name ≡ name = ap (λ (bs : List ℕ). bs ++ drop 8 name) (sym (bytes_same (take 8 name) (codes "EMBEDDED") e)) ∙ take-append-drop 8 name in
    (refl, rw (selectable', angle', mirror', name') refl, refl)
component_back x y selectable angle mirror name false e h =
    let selectable' = flag_back selectable h.1.1.0 in
    let angle' = natural_back Angle angle (λ n. refl) h.1.1.1.0 in
    let mirror' = flag_back mirror h.1.1.1.1.0 in
    (refl, rw (selectable', angle', mirror') refl, (e, refl))

no_fields : (fs : List Field) → FitFields [] fs → fs ≡ []
no_fields [] h = refl
no_fields (f ∷ fs) h = absurd h

-- whatever a line says
back : (l : Letter) (fields : List Field) → FitFields (classes_of l) fields → Back l fields (letter_line l fields)
back Straight (Number x1 ∷ Number y1 ∷ Number x2 ∷ Number y2 ∷ Number color ∷ Number width ∷ Number tip ∷ Number dash ∷ Number long ∷ Number space ∷ []) h = (refl, refl, refl)
back Straight fields h = tt
back Picture (Number x ∷ Number y ∷ Number width ∷ Number height ∷ Number angle ∷ Number mirrored ∷ Number embedded ∷ []) h = λ shape following f.
    let frame : PictureLineData = record { x = x; y = y; width = width; height = height; angle = natural_in angle; mirrored = flag_in mirrored } in
    let p = picture_back frame (flag_in embedded) following shape f in
    let angle' = natural_back Angle angle (λ n. refl) h.1.1.1.1.0 in
    let mirrored' = flag_back mirrored h.1.1.1.1.1.0 in
    let embedded' = flag_back embedded h.1.1.1.1.1.1.0 in
    let fields : (Number x ∷ Number y ∷ Number width ∷ Number height ∷ Number angle ∷ Number mirrored ∷ Number embedded ∷ []) ≡ frame_fields frame (flag_in embedded) = rw (angle', mirrored', embedded') refl in
    (p.0, fields ∙ p.1, p.2, p.3)
back Picture fields h = tt
back Rect (Number x ∷ Number y ∷ Number wide ∷ Number high ∷ Number color ∷ Number width ∷ Number tip ∷ Number dash ∷ Number long ∷ Number space ∷ Number sort ∷ Number thick ∷ Number angle1 ∷ Number pitch1 ∷ Number angle2 ∷ Number pitch2 ∷ []) h = (refl, refl, refl)
back Rect fields h = tt
back Circle (Number x ∷ Number y ∷ Number radius ∷ Number color ∷ Number width ∷ Number tip ∷ Number dash ∷ Number long ∷ Number space ∷ Number sort ∷ Number thick ∷ Number angle1 ∷ Number pitch1 ∷ Number angle2 ∷ Number pitch2 ∷ []) h = (refl, refl, refl)
back Circle fields h = tt
back Arc (Number x ∷ Number y ∷ Number radius ∷ Number start ∷ Number sweep ∷ Number color ∷ Number width ∷ Number tip ∷ Number dash ∷ Number long ∷ Number space ∷ []) h = (refl, refl, refl)
back Arc fields h = tt
back Text (Number x ∷ Number y ∷ Number color ∷ Number size ∷ Number visible ∷ Number show ∷ Number angle ∷ Number align ∷ Number lines ∷ []) h = text_back x y color size visible show angle align lines h
back Text fields h = tt
back Net (Number x1 ∷ Number y1 ∷ Number x2 ∷ Number y2 ∷ Number color ∷ []) h = (refl, refl, refl)
back Net fields h = tt
back Bus (Number x1 ∷ Number y1 ∷ Number x2 ∷ Number y2 ∷ Number color ∷ Number ripper ∷ []) h = (refl, refl, refl)
back Bus fields h = tt
back Pin (Number x1 ∷ Number y1 ∷ Number x2 ∷ Number y2 ∷ Number color ∷ Number bus ∷ Number end ∷ []) h =
    let bus' = flag_back bus h.1.1.1.1.1.0 in
    let end' = natural_back (UpTo 1) end (λ n. refl) h.1.1.1.1.1.1.0 in
    (refl, rw (bus', end') refl, refl)
back Pin fields h = tt
back Path (Number color ∷ Number width ∷ Number tip ∷ Number dash ∷ Number long ∷ Number space ∷ Number sort ∷ Number thick ∷ Number angle1 ∷ Number pitch1 ∷ Number angle2 ∷ Number pitch2 ∷ Number lines ∷ []) h = λ shape following f.
    path_back color (stroke width tip dash long space) (fill sort thick angle1 pitch1 angle2 pitch2) lines following shape (natural_back Lines lines (λ n. refl) h.1.1.1.1.1.1.1.1.1.1.1.1.0) f
back Path fields h = tt
back Component (Number x ∷ Number y ∷ Number selectable ∷ Number angle ∷ Number mirror ∷ Word name ∷ []) h = component_back x y selectable angle mirror name (is_embedding name) refl h
back Component fields h = tt
back OpenBlock fields h = (refl, no_fields fields h, refl)
back CloseBlock fields h = (refl, no_fields fields h, refl)
back OpenSymbol fields h = (refl, no_fields fields h, refl)
back CloseSymbol fields h = (refl, no_fields fields h, refl)

-- what a line says is a row that it spells
pub said_row : (line : List ℕ) (row : Row) → sheet_line line ≡ Complete row → IsRow row line []
said_row line row e =
    let h = has_fields line (Complete row) e tt in
    let b = subst (Back h.letter h.fields) h.what_is (back h.letter h.fields (line_fits (classes_of h.letter) h.words h.fields h.say_so)) in
    record {
      words = h.words;
      line_is = h.line_is ∙ ap (λ (l : Letter). (byte_of l ∷ []) ∷ h.words) b.0;
      fields = subst (λ (l : Letter). AreFields (classes_of l) h.words (row_fields row 0)) b.0 (subst (λ (fs : List Field). AreFields (classes_of h.letter) h.words fs) b.1 h.say_so);
      follow = b.2;
      utf8 = tt;
    }

pub said_begins : (line : List ℕ) (p : Pending) (shape : Shape) (following : List (List ℕ)) → sheet_line line ≡ Begins p → Follows more p shape following → IsRow (rows.Drawn shape) line following
said_begins line p shape following e f =
    let h = has_fields line (Begins p) e tt in
    let b = subst (Back h.letter h.fields) h.what_is (back h.letter h.fields (line_fits (classes_of h.letter) h.words h.fields h.say_so)) shape following f in
    record {
      words = h.words;
      line_is = h.line_is ∙ ap (λ (l : Letter). (byte_of l ∷ []) ∷ h.words) b.0;
      fields = subst (λ (l : Letter). AreFields (classes_of l) h.words (shape_fields shape (length following))) b.0 (subst (λ (fs : List Field). AreFields (classes_of h.letter) h.words fs) b.1 h.say_so);
      follow = b.2;
      utf8 = b.3;
    }

-- what the line of a row says
abbrev IsSaidAs : Row → List ℕ → List (List ℕ) → Type 0
IsSaidAs row line following = ((sheet_line line ≡ Complete row) × (following ≡ [])) ⊎ ((p : Pending) × (shape : Shape) × (row ≡ rows.Drawn shape) × (sheet_line line ≡ Begins p) × Follows more p shape following)

-- a row that no line follows
whole_said : (row : Row) (line : List ℕ) (following : List (List ℕ)) → following ≡ [] → sheet_line line ≡ Complete row → IsSaidAs row line following
whole_said row line following e s = inl (s, e)

-- a content has at least one line
content_said : (again : List ℕ → ℕ → Pending) (whole : List ℕ → Shape) (adds : (c : List ℕ) (n : ℕ) (line : List ℕ) → add (again c n) line ≡ add_line again whole c n line) (following : List (List ℕ)) (content : List ℕ) → (fits Lines (pos (length following)) ≡ true) → content ≡ join_with_byte 10 following → AreUtf8 following → Follows more (again [] (length following)) (whole content) following
content_said again whole adds [] content n e u = absurd cc
content_said again whole adds (line ∷ lines) content n e u = subst (λ (c : List ℕ). Follows more (again [] (length (line ∷ lines))) (whole c) (line ∷ lines)) (sym e) (lines_follow again whole adds line lines [] u)

drawn_said : (shape : Shape) (line : List ℕ) (following : List (List ℕ)) → IsRow (rows.Drawn shape) line following → sheet_line line ≡ letter_line (letter_of_shape shape) (shape_fields shape (length following)) → IsSaidAs (rows.Drawn shape) line following
drawn_said (shapes.Straight x1 y1 x2 y2 color s) line following is e = whole_said _ line following is.follow e
drawn_said (shapes.Rect x y width height color s f) line following is e = whole_said _ line following is.follow e
drawn_said (shapes.Circle x y radius color s f) line following is e = whole_said _ line following is.follow e
drawn_said (shapes.Arc x y radius start sweep color s) line following is e = whole_said _ line following is.follow e
drawn_said (shapes.Net x1 y1 x2 y2 color) line following is e = whole_said _ line following is.follow e
drawn_said (shapes.Bus x1 y1 x2 y2 color ripper) line following is e = whole_said _ line following is.follow e
drawn_said (shapes.Pin x1 y1 x2 y2 color bus whichend) line following is e =
    whole_said _ line following is.follow (e ∙ ap (λ (b : Bool). drawn_line (shapes.Pin x1 y1 x2 y2 color b whichend)) (bit_back bus))
drawn_said (shapes.Text t) line following is e =
    let fit = line_fits (classes_of Text) is.words (shape_fields (shapes.Text t) (length following)) is.fields in
    let f = content_said (λ c n. TextLines (with_content t c) n) (λ c. shapes.Text (with_content t c)) (λ c n line. refl) following t.content fit.1.1.1.1.1.1.1.1.0 is.follow is.utf8 in
    inr (TextLines (with_content t []) (length following), shapes.Text t, refl, e, f)
drawn_said (shapes.Path color s fl content) line following is e =
    let fit = line_fits (classes_of Path) is.words (shape_fields (shapes.Path color s fl content) (length following)) is.fields in
    let f = content_said (λ c n. PathLines color s fl c n) (λ c. shapes.Path color s fl c) (λ c n line. refl) following content fit.1.1.1.1.1.1.1.1.1.1.1.1.0 is.follow is.utf8 in
    inr (PathLines color s fl [] (length following), shapes.Path color s fl content, refl, e, f)
drawn_said (shapes.Picture x y width height angle mirrored file None) line following is e =
    let frame : PictureLineData = record { x = x; y = y; width = width; height = height; angle = angle; mirrored = mirrored } in
    let said_so : sheet_line line ≡ Begins (PictureName frame false) = e ∙ ap (λ (b : Bool). Begins (PictureName (record { x = x; y = y; width = width; height = height; angle = angle; mirrored = b }) false)) (bit_back mirrored) in
    let one : AreUtf8 (file ∷ []) = subst AreUtf8 is.follow is.utf8 in
    let f : Follows more (PictureName frame false) (picture frame file None) (file ∷ []) = inl (adds_more (PictureName frame false) file _ one.0 refl, refl) in
    inr (PictureName frame false, shapes.Picture x y width height angle mirrored file None, refl, said_so, subst (λ (ls : List (List ℕ)). Follows more (PictureName frame false) (picture frame file None) ls) (sym is.follow) f)
drawn_said (shapes.Picture x y width height angle mirrored file (Some bytes)) line following is e =
    let frame : PictureLineData = record { x = x; y = y; width = width; height = height; angle = angle; mirrored = mirrored } in
    let said_so : sheet_line line ≡ Begins (PictureName frame true) = e ∙ ap (λ (b : Bool). Begins (PictureName (record { x = x; y = y; width = width; height = height; angle = angle; mirrored = b }) true)) (bit_back mirrored) in
    let (data_lines, same, no_point, bytes_are) = is.follow in
    let all = file ∷ (data_lines ++ codes "." ∷ []) in
    let u : AreUtf8 all = subst AreUtf8 same is.utf8 in
    let rest = data_follow frame file [] data_lines u.1 no_point in
    let rest' = subst (λ (b : List ℕ). Follows more (PictureLines frame file []) (picture frame file (Some b)) (data_lines ++ codes "." ∷ [])) (sym bytes_are) rest in
    let f : Follows more (PictureName frame true) (picture frame file (Some bytes)) all = inr (PictureLines frame file [], adds_more (PictureName frame true) file _ u.0 refl, rest') in
    inr (PictureName frame true, shapes.Picture x y width height angle mirrored file (Some bytes), refl, said_so, subst (λ (ls : List (List ℕ)). Follows more (PictureName frame true) (picture frame file (Some bytes)) ls) (sym same) f)

-- a component's line
component_again : (p : ComponentLineData) (name : List ℕ) → component_data p.x p.y (pos (if p.selectable then 1 else 0)) (pos p.angle) (pos (if p.mirror then 1 else 0)) name ≡ record { x = p.x; y = p.y; selectable = p.selectable; angle = p.angle; mirror = p.mirror; basename = name }
component_again p name = rw (bit_back p.selectable, bit_back p.mirror) refl

-- what the line of a row that is spelled says
pub row_said : (row : Row) (line : List ℕ) (following : List (List ℕ)) → IsRow row line following → IsSaidAs row line following
row_said (rows.Drawn shape) line following is = drawn_said shape line following is (line_as line (letter_of_shape shape) is.words (shape_fields shape (length following)) is.line_is is.fields)
row_said (rows.Library p) line following is =
    let e = line_as line Component is.words (component_fields p p.basename) is.line_is is.fields in
    whole_said _ line following is.follow.1 (e ∙ rw is.follow.0 (ap (λ (q : ComponentLineData). Complete (rows.Library q)) (component_again p p.basename)))
row_said (rows.Embedding p) line following is =
    let e = line_as line Component is.words (component_fields p (codes "EMBEDDED" ++ p.basename)) is.line_is is.fields in
    whole_said _ line following is.follow (e ∙ ap (λ (q : ComponentLineData). Complete (rows.Embedding q)) (component_again p p.basename))
row_said rows.OpenBlock line following is = whole_said _ line following is.follow (line_as line OpenBlock is.words [] is.line_is is.fields)
row_said rows.CloseBlock line following is = whole_said _ line following is.follow (line_as line CloseBlock is.words [] is.line_is is.fields)
row_said rows.OpenSymbol line following is = whole_said _ line following is.follow (line_as line OpenSymbol is.words [] is.line_is is.fields)
row_said rows.CloseSymbol line following is = whole_said _ line following is.follow (line_as line CloseSymbol is.words [] is.line_is is.fields)
