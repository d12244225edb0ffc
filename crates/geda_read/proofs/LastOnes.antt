-- A list with its last one apart: what the grammar's machine does with it.
use Rattle.std.proofs.Common.{◌≡◌, ℕ, suc, ◌<◌, true, false, cond, List, [], ◌∷◌, ◌++◌, length, Option, Some, None, refl, sym, ap, subst, ◌∙◌, ltb, arith}
use Rattle.std.specs.Option.{option_map}
use Rattle.std.proofs.lemmas.List.{length-append}
use Rattle.geda_model.specs.Data.{TextData}
use Rattle.geda_model.specs.Limits.{most_objects}
use Rattle.geda_model.specs.Shapes.{with_last}
use Rattle.geda_model.specs.declared.shape.Shape.{Shape}
use Rattle.geda_model.specs.declared.shape.Shape.TheVariants.{Straight, Picture, Rect, Circle, Arc, Text, Net, Bus, Pin, Path}
use Rattle.geda_grammar.specs.declared.mode.Mode.{Mode}
use Rattle.geda_grammar.specs.declared.mode.Mode.TheVariants.{Settled, Last, Block}
use Rattle.geda_grammar.specs.steps.Levels.{Level, begun, close_block, closed, open_block, push, put, room, text_in, with_text}
use Rattle.geda_read.specs.declared.tail.Tail.{Tail}
use Rattle.geda_read.specs.declared.tail.Tail.TheVariants.{Done, Bare, Open}
use Rattle.geda_read.specs.steps.Expecting.{has_room, level_expects}
use Rattle.geda_read.specs.steps.Levels.{LastIs, LevelStands, TailStands, is_bare, is_open, last_apart, level_of, mode_of, with_first}

-- the last one of a list to which one was added
apart_last : {A B : Type 0} (f : A → Mode B) (xs : List A) (x : A) → last_apart f (xs ++ x ∷ []) ≡ record { kept = xs; mode = f x }
apart_last f [] x = refl
apart_last f (a ∷ []) x = refl
apart_last f (a ∷ b ∷ rest) x = ap (with_first a) (apart_last f (b ∷ rest) x)

pub last_added : {A : Type 0} (P : A → Type 0) (xs : List A) (x : A) → P x → LastIs P (xs ++ x ∷ [])
last_added P [] x h = h
last_added P (a ∷ []) x h = h
last_added P (a ∷ b ∷ rest) x h = last_added P (b ∷ rest) x h

changed_last : {A : Type 0} (f : A → A) (xs : List A) (x : A) → with_last f (xs ++ x ∷ []) ≡ xs ++ f x ∷ []
changed_last f [] x = refl
changed_last f (a ∷ []) x = refl
changed_last f (a ∷ b ∷ rest) x = ap (λ l. a ∷ l) (changed_last f (b ∷ rest) x)

pub as_many : {A : Type 0} (f : A → A) (xs : List A) → length (with_last f xs) ≡ length xs
as_many f [] = refl
as_many f (a ∷ []) = refl
as_many f (a ∷ b ∷ rest) = ap suc (as_many f (b ∷ rest))

-- what holds of each list with such a last one holds of a list whose last one is such
record Ends {A : Type 0} (P : A → Type 0) (items : List A) : Type 0 where
  front : List A
  last : A
  is : items ≡ front ++ last ∷ []
  holds : P last

ends : {A : Type 0} (P : A → Type 0) (items : List A) → LastIs P items → Ends P items
ends P [] h = absurd h
ends P (a ∷ []) h = record { front = []; last = a; is = refl; holds = h }
ends P (a ∷ b ∷ rest) h =
    let e = ends P (b ∷ rest) h in
    record { front = a ∷ e.front; last = e.last; is = ap (λ l. a ∷ l) e.is; holds = e.holds }

by_ends : {A : Type 0} (P : A → Type 0) (Q : List A → Type 0) → ((xs : List A) (x : A) → P x → Q (xs ++ x ∷ [])) → (items : List A) → LastIs P items → Q items
by_ends P Q f items h = let e = ends P items h in subst Q (sym e.is) (f e.front e.last e.holds)

pub last_any : {A : Type 0} (P : A → Type 0) (items : List A) → LastIs P items → LastIs (λ a. Unit {0}) items
last_any P items h = by_ends P (LastIs (λ a. Unit {0})) (λ xs x p. last_added (λ a. Unit {0}) xs x tt) items h

-- a shape that is no text
pub no_text : (s : Shape) → ((t : TextData) → s ≡ Text t → ⊥) → text_in s ≡ None
no_text (Text t) h = absurd (h t refl)
no_text (Straight x1 y1 x2 y2 color stroke) h = refl
no_text (Picture x y width height angle mirrored file embedded) h = refl
no_text (Rect x y width height color stroke fill) h = refl
no_text (Circle x y radius color stroke fill) h = refl
no_text (Arc x y radius start sweep color stroke) h = refl
no_text (Net x1 y1 x2 y2 color) h = refl
no_text (Bus x1 y1 x2 y2 color ripper) h = refl
no_text (Pin x1 y1 x2 y2 color bus whichend) h = refl
no_text (Path color stroke fill content) h = refl

module _ (A B : Type 0) (body : A → B) (texts : A → List TextData) (make : B → List TextData → A) (whole : (a : A) → make (body a) (texts a) ≡ a) where
  abbrev level : List A → Tail → Level A B
  level items tail = level_of body texts items tail

  abbrev Bares : A → Type 0
  Bares a = texts a ≡ []

  abbrev Any : A → Type 0
  Any a = Unit {0}

  abbrev bare_mode : A → Mode B
  bare_mode a = Last (body a)

  abbrev open_mode : A → Mode B
  open_mode a = Block (body a) (texts a)

  -- the last one without texts is what is made of its body
  made : (x : A) → texts x ≡ [] → make (body x) [] ≡ x
  made x h = ap (make (body x)) (sym h) ∙ whole x

  -- one more
  pub added : (items : List A) (x : A) → level (items ++ x ∷ []) Bare ≡ record { kept = items; mode = Last (body x) }
  unfolding level_of
  added items x = apart_last bare_mode items x

  pub none_open : (items : List A) → level items Done ≡ record { kept = items; mode = Settled }
  unfolding level_of
  none_open items = refl

  -- room
  pub room_none : (most : ℕ) (items : List A) (tail : Tail) → TailStands texts items tail → is_open tail ≡ true → room make most (level items tail).kept (level items tail).mode ≡ None
  unfolding level_of
  room_none most items Done h e = absurd cc
  room_none most items Bare h e = absurd cc
  room_none most items Open h e = by_ends Any (λ l. room make most (last_apart open_mode l).kept (last_apart open_mode l).mode ≡ None) (λ xs x p. rw (apart_last open_mode xs x) refl) items h

  pub room_at : (most : ℕ) (items : List A) (tail : Tail) → TailStands texts items tail → is_open tail ≡ false → room make most (level items tail).kept (level items tail).mode ≡ cond (ltb (length items) most) (Some items) None
  unfolding level_of
  room_at most items Done h e = refl
  room_at most items Bare h e = by_ends Bares (λ l. room make most (last_apart bare_mode l).kept (last_apart bare_mode l).mode ≡ cond (ltb (length l) most) (Some l) None) (λ xs x p. rw (apart_last bare_mode xs x, made x p) refl) items h
  room_at most items Open h e = absurd cc

  -- nothing is apart where the mode is settled
  pub settled : (items : List A) (tail : Tail) → TailStands texts items tail → (level items tail).mode ≡ Settled → (level items tail).kept ≡ items
  unfolding level_of
  settled items Done h e = refl
  settled items Bare h e = by_ends Bares (λ l. (last_apart bare_mode l).mode ≡ Settled → (last_apart bare_mode l).kept ≡ l) (λ xs x p m. absurd (let n = ap (λ (v : Level A B). v.mode) (sym (apart_last bare_mode xs x)) ∙ m in cc)) items h e
  settled items Open h e = by_ends Any (λ l. (last_apart open_mode l).mode ≡ Settled → (last_apart open_mode l).kept ≡ l) (λ xs x p m. absurd (let n = ap (λ (v : Level A B). v.mode) (sym (apart_last open_mode xs x)) ∙ m in cc)) items h e

  -- a shape
  pub put_more : (wrap : Shape → B) (most : ℕ) (s : Shape) (items : List A) (tail : Tail) → TailStands texts items tail → is_open tail ≡ false → put make wrap most s (level items tail).kept (level items tail).mode ≡ push make most (wrap s) (level items tail).kept (level items tail).mode
  unfolding level_of
  put_more wrap most s items Done h e = refl
  put_more wrap most s items Bare h e = by_ends Bares (λ l. put make wrap most s (last_apart bare_mode l).kept (last_apart bare_mode l).mode ≡ push make most (wrap s) (last_apart bare_mode l).kept (last_apart bare_mode l).mode) (λ xs x p. rw (apart_last bare_mode xs x) refl) items h
  put_more wrap most s items Open h e = absurd cc

  module _ (attach : TextData → A → A) (same : (t : TextData) (a : A) → body (attach t a) ≡ body a) (more : (t : TextData) (a : A) → texts (attach t a) ≡ texts a ++ t ∷ []) where
    attached : (t : TextData) (xs : List A) (x : A) → last_apart open_mode (with_last (attach t) (xs ++ x ∷ [])) ≡ record { kept = xs; mode = Block (body x) (texts x ++ t ∷ []) }
    attached t xs x = rw (changed_last (attach t) xs x, apart_last open_mode xs (attach t x), same t x, more t x) refl

    pub put_text : (wrap : Shape → B) (most : ℕ) (s : Shape) (items : List A) (tail : Tail) → TailStands texts items tail → is_open tail ≡ true → put make wrap most s (level items tail).kept (level items tail).mode ≡ option_map (λ t. level (with_last (attach t) items) tail) (text_in s)
    unfolding level_of
    put_text wrap most s items Done h e = absurd cc
    put_text wrap most s items Bare h e = absurd cc
    put_text wrap most s items Open h e = by_ends Any (λ l. put make wrap most s (last_apart open_mode l).kept (last_apart open_mode l).mode ≡ option_map (λ t. last_apart open_mode (with_last (attach t) l)) (text_in s)) (λ xs x p. rw (apart_last open_mode xs x) (go xs x (text_in s))) items h
      where
        go : (xs : List A) (x : A) (o : Option TextData) → with_text xs (body x) (texts x) o ≡ option_map (λ t. last_apart open_mode (with_last (attach t) (xs ++ x ∷ []))) o
        go xs x None = refl
        go xs x (Some t) = ap (λ v. Some v) (sym (attached t xs x))

    pub still_there : (t : TextData) (items : List A) → LastIs Any items → LastIs Any (with_last (attach t) items)
    still_there t items h = by_ends Any (λ l. LastIs Any (with_last (attach t) l)) (λ xs x p. subst (LastIs Any) (sym (changed_last (attach t) xs x)) (last_added Any xs (attach t x) tt)) items h

    pub attached_stands : (t : TextData) (items : List A) (tail : Tail) (news : List A) → LevelStands texts items tail → is_open tail ≡ true → news ≡ with_last (attach t) items → LevelStands texts news tail
    attached_stands t items Done news h e all = absurd cc
    attached_stands t items Bare news h e all = absurd cc
    attached_stands t items Open news h e all = record {
      last = subst (LastIs Any) (sym all) (still_there t items h.last);
      few = rw (all, as_many (attach t) items) h.few;
    }

  -- brackets
  pub opened : (items : List A) (tail : Tail) → TailStands texts items tail → is_bare tail ≡ true → open_block (level items tail).kept (level items tail).mode ≡ Some (level items Open)
  unfolding level_of
  opened items Done h e = absurd cc
  opened items Bare h e = by_ends Bares (λ l. open_block (last_apart bare_mode l).kept (last_apart bare_mode l).mode ≡ Some (last_apart open_mode l)) (λ xs x p. rw (apart_last bare_mode xs x, apart_last open_mode xs x, p) refl) items h
  opened items Open h e = absurd cc

  pub not_opened : (items : List A) (tail : Tail) → TailStands texts items tail → is_bare tail ≡ false → open_block (level items tail).kept (level items tail).mode ≡ None
  unfolding level_of
  not_opened items Done h e = refl
  not_opened items Bare h e = absurd cc
  not_opened items Open h e = by_ends Any (λ l. open_block (last_apart open_mode l).kept (last_apart open_mode l).mode ≡ None) (λ xs x p. rw (apart_last open_mode xs x) refl) items h

  pub block_closed : (items : List A) (tail : Tail) → TailStands texts items tail → is_open tail ≡ true → close_block make (level items tail).kept (level items tail).mode ≡ Some (level items Done)
  unfolding level_of
  block_closed items Done h e = absurd cc
  block_closed items Bare h e = absurd cc
  block_closed items Open h e = by_ends Any (λ l. close_block make (last_apart open_mode l).kept (last_apart open_mode l).mode ≡ Some (record { kept = l; mode = Settled })) (λ xs x p. rw (apart_last open_mode xs x, whole x) refl) items h

  pub no_block : (items : List A) (tail : Tail) → TailStands texts items tail → is_open tail ≡ false → close_block make (level items tail).kept (level items tail).mode ≡ None
  unfolding level_of
  no_block items Done h e = refl
  no_block items Bare h e = by_ends Bares (λ l. close_block make (last_apart bare_mode l).kept (last_apart bare_mode l).mode ≡ None) (λ xs x p. rw (apart_last bare_mode xs x) refl) items h
  no_block items Open h e = absurd cc

  -- the end
  pub all_closed : (items : List A) (tail : Tail) → TailStands texts items tail → is_open tail ≡ false → closed make (level items tail).kept (level items tail).mode ≡ Some items
  unfolding level_of
  all_closed items Done h e = refl
  all_closed items Bare h e = by_ends Bares (λ l. closed make (last_apart bare_mode l).kept (last_apart bare_mode l).mode ≡ Some l) (λ xs x p. rw (apart_last bare_mode xs x, made x p) refl) items h
  all_closed items Open h e = absurd cc

  pub not_closed : (items : List A) (tail : Tail) → TailStands texts items tail → is_open tail ≡ true → closed make (level items tail).kept (level items tail).mode ≡ None
  unfolding level_of
  not_closed items Done h e = absurd cc
  not_closed items Bare h e = absurd cc
  not_closed items Open h e = by_ends Any (λ l. closed make (last_apart open_mode l).kept (last_apart open_mode l).mode ≡ None) (λ xs x p. rw (apart_last open_mode xs x) refl) items h

  pub open_stands : (items : List A) (tail : Tail) → LevelStands texts items tail → is_bare tail ≡ true → LevelStands texts items Open
  open_stands items Done h e = absurd cc
  open_stands items Bare h e = record { last = last_any Bares items h.last; few = h.few }
  open_stands items Open h e = absurd cc

  -- one more behind those that have had their blocks
  module _ (v : Level A B) (items : List A) (tail : Tail) (is : v ≡ level items tail) (stands : LevelStands texts items tail) (ended : v.mode ≡ Settled) where
    kept_all : v.kept ≡ items
    kept_all = ap (λ (w : Level A B). w.kept) is ∙ settled items tail stands.last (ap (λ (w : Level A B). w.mode) (sym is) ∙ ended)

    pub adds : (news : List A) (x : A) → news ≡ items ++ x ∷ [] → begun (body x) v.kept ≡ level news Bare
    adds news x all = ap (begun (body x)) kept_all ∙ sym (ap (λ (l : List A). level l Bare) all ∙ added items x)

    pub adds_stand : (news : List A) (x : A) → news ≡ items ++ x ∷ [] → texts x ≡ [] → length v.kept < most_objects → LevelStands texts news Bare
    adds_stand news x all none few =
        let room : length items < most_objects = subst (λ (l : List A). length l < most_objects) kept_all few in
        record {
          last = subst (LastIs Bares) (sym all) (last_added Bares items x none);
          few = rw (all, length-append items (x ∷ [])) (omega (arith, room));
        }

  -- what may come
  pub expected : (most : ℕ) (items : List A) (tail : Tail) → TailStands texts items tail → level_expects (mode_of tail) (ltb (length items) most) ≡ level_expects (level items tail).mode (has_room most (level items tail).kept (level items tail).mode)
  unfolding level_of
  expected most items Done h = ap (λ n. level_expects (mode_of Done) (ltb n most)) (omega arith)
  expected most items Bare h = by_ends Bares (λ l. level_expects (mode_of Bare) (ltb (length l) most) ≡ level_expects (last_apart bare_mode l).mode (has_room most (last_apart bare_mode l).kept (last_apart bare_mode l).mode)) (λ xs x p. rw (apart_last bare_mode xs x, length-append xs (x ∷ [])) refl) items h
  expected most items Open h = by_ends Any (λ l. level_expects (mode_of Open) (ltb (length l) most) ≡ level_expects (last_apart open_mode l).mode (has_room most (last_apart open_mode l).kept (last_apart open_mode l).mode)) (λ xs x p. rw (apart_last open_mode xs x) refl) items h
