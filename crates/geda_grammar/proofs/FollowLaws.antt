-- The lines that follow a shape are those that the machine adds to it.
use Rattle.std.proofs.Common.{◌≡◌, ℕ, suc, ◌-◌, Bool, true, false, cond, List, [], ◌∷◌, ◌++◌, length, Some, None, refl, sym, ap, subst, ◌∙◌, eqb, arith, append_assoc, inl, inr, codes, rules}
use Rattle.std.specs.Prelude.{◌≢◌}
use Rattle.std.specs.List.{AllByRecursion, flat_map, join_with_byte}
use Rattle.std.specs.Str.{is_utf8, bytes_eq}
use Rattle.std.proofs.lemmas.Slice.Eq.{bytes_eq-Decides}
use Rattle.std.proofs.lemmas.List.{append-nil}
use Rattle.std.proofs.lemmas.Bool.{eqb-true}
use Rattle.std.proofs.lemmas.Bool.Decides.{nat_tests}
use Rattle.geda_defs.proofs.Bytes.{bytes_same, bytes_false}
use Rattle.geda_defs.specs.Lines.{ended}
use Rattle.geda_model.specs.declared.shape.Shape.{Shape}
use Rattle.geda_grammar.specs.steps.Reading.{Progress, Still, Whole}
use Rattle.geda_grammar.specs.steps.Following.{Pending, PictureLines, PictureLineData, add, add_line, more, picture}
use Rattle.geda_grammar.proofs.LineRows.{Follows}

-- UTF-8 lines
abbrev pub AreUtf8 : List (List ℕ) → Type 0
AreUtf8 lines = AllByRecursion (λ l. is_utf8 l ≡ true) lines

pub unequal : (a b : List ℕ) → bytes_eq a b ≡ false → a ≢ b
unequal a b e = search (rules, bytes_eq-Decides)

-- a line that adds something is UTF-8
pub more_adds : (p : Pending) (line : List ℕ) (g : Progress Pending) → more p line ≡ Some g → (is_utf8 line ≡ true) × (add p line ≡ g)
more_adds p line g e = go (is_utf8 line) refl e
  where
    go : (b : Bool) → is_utf8 line ≡ b → cond b (Some (add p line)) None ≡ Some g → (is_utf8 line ≡ true) × (add p line ≡ g)
    go true f e = (f, cc)
    go false f e = absurd cc

pub adds_more : (p : Pending) (line : List ℕ) (g : Progress Pending) → is_utf8 line ≡ true → add p line ≡ g → more p line ≡ Some g
adds_more p line g f e = rw (f, e) refl

-- a content, whose pending form is `again` and whose shape is `whole`
module _ (again : List ℕ → ℕ → Pending) (whole : List ℕ → Shape) (adds : (c : List ℕ) (n : ℕ) (line : List ℕ) → add (again c n) line ≡ add_line again whole c n line) where
  last_line : (c line : List ℕ) → add (again c 1) line ≡ Whole (whole (c ++ line))
  last_line c line = adds c 1 line

  next_line : (c line : List ℕ) (n : ℕ) → add (again c (suc (suc n))) line ≡ Still (again ((c ++ line) ++ 10 ∷ []) (suc n))
  next_line c line n =
      let other : eqb (suc (suc n)) 1 ≡ false = grind (arith, nat_tests) in
      let fewer : suc (suc n) - 1 ≡ suc n = omega arith in
      adds c (suc (suc n)) line ∙ rw (other, fewer) refl

  pub lines_follow : (line : List ℕ) (lines : List (List ℕ)) (c : List ℕ) → AreUtf8 (line ∷ lines) → Follows more (again c (length (line ∷ lines))) (whole (c ++ join_with_byte 10 (line ∷ lines))) (line ∷ lines)
  lines_follow line [] c u = inl (adds_more (again c 1) line _ u.0 (last_line c line), refl)
  lines_follow line (next ∷ lines) c u =
      let more_content = (c ++ line) ++ 10 ∷ [] in
      let rest = join_with_byte 10 (next ∷ lines) in
      let same : more_content ++ rest ≡ c ++ (line ++ 10 ∷ rest) = append_assoc (c ++ line) (10 ∷ []) rest ∙ append_assoc c line (10 ∷ rest) in
      let others = subst (λ (d : List ℕ). Follows more (again more_content (length (next ∷ lines))) (whole d) (next ∷ lines)) same (lines_follow next lines more_content u.1) in
      inr (again more_content (length (next ∷ lines)), adds_more (again c (length (line ∷ next ∷ lines))) line _ u.0 (next_line c line (length lines)), others)

  -- how one line is added
  abbrev Adds : List ℕ → ℕ → List ℕ → Progress Pending → Type 0
  Adds c n line (Whole shape) = (n ≡ 1) × (shape ≡ whole (c ++ line))
  Adds c n line (Still q) = (eqb n 1 ≡ false) × (q ≡ again ((c ++ line) ++ 10 ∷ []) (n - 1))

  added : (c : List ℕ) (n : ℕ) (line : List ℕ) (g : Progress Pending) → add (again c n) line ≡ g → Adds c n line g
  added c n line g e = subst (Adds c n line) (sym (adds c n line) ∙ e) (go (eqb n 1) refl)
    where
      go : (b : Bool) → eqb n 1 ≡ b → Adds c n line (cond b (Whole (whole (c ++ line))) (Still (again ((c ++ line) ++ 10 ∷ []) (n - 1))))
      go true f = (eqb-true n 1 f, refl)
      go false f = (f, refl)

  pub lines_back : (lines : List (List ℕ)) (c : List ℕ) (n : ℕ) (shape : Shape) → Follows more (again c n) shape lines → (shape ≡ whole (c ++ join_with_byte 10 lines)) × (n ≡ length lines) × AreUtf8 lines
  lines_back [] c n shape f = absurd f
  lines_back (line ∷ lines) c n shape (inl f) =
      let m = more_adds (again c n) line (Whole shape) f.0 in
      let a = added c n line (Whole shape) m.1 in
      subst (λ (ls : List (List ℕ)). (shape ≡ whole (c ++ join_with_byte 10 (line ∷ ls))) × (n ≡ length (line ∷ ls)) × AreUtf8 (line ∷ ls)) (sym f.1) (a.1, a.0, (m.0, tt))
  lines_back (line ∷ []) c n shape (inr f) = absurd f.2
  lines_back (line ∷ next ∷ lines) c n shape (inr f) =
      let m = more_adds (again c n) line (Still f.0) f.1 in
      let a = added c n line (Still f.0) m.1 in
      let more_content = (c ++ line) ++ 10 ∷ [] in
      let rest = join_with_byte 10 (next ∷ lines) in
      let same : more_content ++ rest ≡ c ++ (line ++ 10 ∷ rest) = append_assoc (c ++ line) (10 ∷ []) rest ∙ append_assoc c line (10 ∷ rest) in
      let h = lines_back (next ∷ lines) more_content (n - 1) shape (subst (λ (q : Pending). Follows more q shape (next ∷ lines)) a.1 f.2) in
      let count : n ≡ length (line ∷ next ∷ lines) = (let k = h.1 in omega (arith, k)) in
      (h.0 ∙ ap whole same, count, (m.0, h.2))

-- the data of a picture
pub data_follow : (f : PictureLineData) (file bytes : List ℕ) (lines : List (List ℕ)) → AreUtf8 (lines ++ codes "." ∷ []) → AllByRecursion (λ l. l ≢ codes ".") lines → Follows more (PictureLines f file bytes) (picture f file (Some (bytes ++ flat_map ended lines))) (lines ++ codes "." ∷ [])
data_follow f file bytes [] u d =
    let last : add (PictureLines f file bytes) (codes ".") ≡ Whole (picture f file (Some (bytes ++ []))) = subst (λ (b : List ℕ). add (PictureLines f file bytes) (codes ".") ≡ Whole (picture f file (Some b))) (sym (append-nil bytes)) refl in
    inl (adds_more (PictureLines f file bytes) (codes ".") _ u.0 last, refl)
data_follow f file bytes (line ∷ lines) u d =
    let other : bytes_eq line (codes ".") ≡ false = bytes_false line (codes ".") d.0 in
    let rest = subst (λ (b : List ℕ). Follows more (PictureLines f file (bytes ++ ended line)) (picture f file (Some b)) (lines ++ codes "." ∷ [])) (append_assoc bytes (ended line) (flat_map ended lines)) (data_follow f file (bytes ++ ended line) lines u.1 d.1) in
    inr (PictureLines f file (bytes ++ ended line), adds_more (PictureLines f file bytes) line _ u.0 (rw other refl), rest)

-- how one line of data is added
abbrev AddsData : PictureLineData → List ℕ → List ℕ → List ℕ → Progress Pending → Type 0
AddsData f file bytes line (Whole shape) = (line ≡ codes ".") × (shape ≡ picture f file (Some bytes))
AddsData f file bytes line (Still q) = (line ≢ codes ".") × (q ≡ PictureLines f file (bytes ++ ended line))

added_data : (f : PictureLineData) (file bytes line : List ℕ) (g : Progress Pending) → add (PictureLines f file bytes) line ≡ g → AddsData f file bytes line g
added_data f file bytes line g e = subst (AddsData f file bytes line) e (go (bytes_eq line (codes ".")) refl)
  where
    go : (b : Bool) → bytes_eq line (codes ".") ≡ b → AddsData f file bytes line (cond b (Whole (picture f file (Some bytes))) (Still (PictureLines f file (bytes ++ ended line))))
    go true h = (bytes_same line (codes ".") h, refl)
    go false h = (unequal line (codes ".") h, refl)

pub record IsData (f : PictureLineData) (file bytes : List ℕ) (shape : Shape) (lines : List (List ℕ)) : Type 0 where
  pub data_lines : List (List ℕ)
  pub lines_are : lines ≡ data_lines ++ codes "." ∷ []
  pub no_point : AllByRecursion (λ l. l ≢ codes ".") data_lines
  pub shape_is : shape ≡ picture f file (Some (bytes ++ flat_map ended data_lines))
  pub utf8 : AreUtf8 lines

pub data_back : (lines : List (List ℕ)) (f : PictureLineData) (file bytes : List ℕ) (shape : Shape) → Follows more (PictureLines f file bytes) shape lines → IsData f file bytes shape lines
data_back [] f file bytes shape h = absurd h
data_back (line ∷ lines) f file bytes shape (inl h) =
    let m = more_adds (PictureLines f file bytes) line (Whole shape) h.0 in
    let a = added_data f file bytes line (Whole shape) m.1 in
    let one : IsData f file bytes shape (line ∷ []) = record {
      data_lines = [];
      lines_are = ap (λ (l : List ℕ). l ∷ []) a.0;
      no_point = tt;
      shape_is = a.1 ∙ ap (λ (b : List ℕ). picture f file (Some b)) (sym (append-nil bytes));
      utf8 = (m.0, tt);
    } in
    subst (λ (ls : List (List ℕ)). IsData f file bytes shape (line ∷ ls)) (sym h.1) one
data_back (line ∷ lines) f file bytes shape (inr h) =
    let m = more_adds (PictureLines f file bytes) line (Still h.0) h.1 in
    let a = added_data f file bytes line (Still h.0) m.1 in
    let r = data_back lines f file (bytes ++ ended line) shape (subst (λ (q : Pending). Follows more q shape lines) a.1 h.2) in
    record {
      data_lines = line ∷ r.data_lines;
      lines_are = ap (λ (ls : List (List ℕ)). line ∷ ls) r.lines_are;
      no_point = (a.0, r.no_point);
      shape_is = r.shape_is ∙ ap (λ (b : List ℕ). picture f file (Some b)) (append_assoc bytes (ended line) (flat_map ended r.data_lines));
      utf8 = (m.0, r.utf8);
    }
