-- What may come in a list that is being read is what the machine takes.
use Rattle.std.proofs.Common.{◌≡◌, ℕ, ◌+◌, Bool, true, false, cond, not, List, [], ◌∷◌, ◌++◌, length, Option, Some, None, refl, sym, ap, ◌∙◌, ltb, arith}
use Rattle.std.specs.Prelude.{is_some}
use Rattle.std.specs.Option.{option_map}
use Rattle.std.proofs.lemmas.List.{length-append}
use Rattle.geda_model.specs.Data.{TextData}
use Rattle.geda_model.specs.declared.shape.Shape.{Shape}
use Rattle.geda_grammar.specs.declared.mode.Mode.{Mode}
use Rattle.geda_grammar.specs.declared.mode.Mode.TheVariants.{Settled, Last, Block}
use Rattle.geda_grammar.specs.steps.Following.{Pending, TextLines, PathLines, PictureName, PictureLines}
use Rattle.geda_grammar.specs.steps.Levels.{text_in, room, begun, push, put, with_text, open_block, close_block, closed}
use Rattle.geda_grammar.specs.steps.Files.{is_full, so_far}
use Rattle.geda_read.specs.steps.Expecting.{has_room, level_expects}
use Rattle.geda_read.specs.steps.Files.{admits_by, is_text}

-- a step that is taken behind another function
pub some_map : {A B : Type 0} (f : A → B) (o : Option A) → is_some (option_map f o) ≡ is_some o
some_map f None = refl
some_map f (Some a) = refl

some_if : {A : Type 0} (b : Bool) (a : A) → is_some (cond b (Some a) None) ≡ b
some_if true a = refl
some_if false a = refl

-- a shape that waits for lines is a text where its lines are a text's
text_so_far : (p : Pending) → is_some (text_in (so_far p)) ≡ is_text p
text_so_far (TextLines t left) = refl
text_so_far (PathLines color stroke fill content left) = refl
text_so_far (PictureName f embedded) = refl
text_so_far (PictureLines f file bytes) = refl

pub both : (b r : Bool) → cond b r r ≡ r
both true r = refl
both false r = refl

one_way : (b : Bool) → cond b true false ≡ b
one_way true = refl
one_way false = refl

module _ (A B : Type 0) (make : B → List TextData → A) (wrap : Shape → B) (most : ℕ) where
  none_more : (kept : List A) → ltb (length kept + 0) most ≡ ltb (length kept) most
  none_more kept = ap (λ n. ltb n most) (omega arith)

  one_more : (kept : List A) (x : A) → ltb (length kept + 1) most ≡ ltb (length (kept ++ x ∷ [])) most
  one_more kept x = ap (λ n. ltb n most) (sym (length-append kept (x ∷ [])))

  pub full_by : (kept : List A) (mode : Mode B) → is_full most (closed make kept mode) ≡ (level_expects mode (has_room most kept mode)).full
  full_by kept Settled = ap not (sym (none_more kept))
  full_by kept (Last b) = ap not (sym (one_more kept (make b [])))
  full_by kept (Block b ts) = refl

  put_is : (kept : List A) (b : B) (mode : Mode B) → is_some (push make most b kept mode) ≡ is_some (room make most kept mode)
  put_is kept b mode = some_map (begun b) (room make most kept mode)

  text_is : (kept : List A) (b : B) (ts : List TextData) (o : Option TextData) → is_some (with_text kept b ts o) ≡ is_some o
  text_is kept b ts None = refl
  text_is kept b ts (Some t) = refl

  pub put_by : (kept : List A) (mode : Mode B) (p : Pending) → is_some (put make wrap most (so_far p) kept mode) ≡ admits_by (level_expects mode (has_room most kept mode)) p
  unfolding admits_by
  put_by kept Settled p = put_is kept (wrap (so_far p)) Settled ∙ some_if (ltb (length kept) most) kept ∙ sym (none_more kept) ∙ sym (both (is_text p) (ltb (length kept + 0) most))
  put_by kept (Last b) p = put_is kept (wrap (so_far p)) (Last b) ∙ some_if (ltb (length (kept ++ make b [] ∷ [])) most) (kept ++ make b [] ∷ []) ∙ sym (one_more kept (make b [])) ∙ sym (both (is_text p) (ltb (length kept + 1) most))
  put_by kept (Block b ts) p = text_is kept b ts (text_in (so_far p)) ∙ text_so_far p ∙ sym (one_way (is_text p))

  pub open_by : (kept : List A) (mode : Mode B) → is_some (open_block kept mode) ≡ (level_expects mode (has_room most kept mode)).open_block
  open_by kept Settled = refl
  open_by kept (Last b) = refl
  open_by kept (Block b ts) = refl

  pub close_by : (kept : List A) (mode : Mode B) → is_some (close_block make kept mode) ≡ (level_expects mode (has_room most kept mode)).close_block
  close_by kept Settled = refl
  close_by kept (Last b) = refl
  close_by kept (Block b ts) = refl

  pub closed_by : (kept : List A) (mode : Mode B) → is_some (closed make kept mode) ≡ not ((level_expects mode (has_room most kept mode)).close_block)
  closed_by kept Settled = refl
  closed_by kept (Last b) = refl
  closed_by kept (Block b ts) = refl

-- a list alone takes no bracket of a symbol
pub no_symbol : {B : Type 0} (mode : Mode B) (room : Bool) → false ≡ (level_expects mode room).open_symbol
no_symbol Settled room = refl
no_symbol (Last b) room = refl
no_symbol (Block b ts) room = refl

pub no_end : {B : Type 0} (mode : Mode B) (room : Bool) → false ≡ (level_expects mode room).close_symbol
no_end Settled room = refl
no_end (Last b) room = refl
no_end (Block b ts) room = refl
