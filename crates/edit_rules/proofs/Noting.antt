-- Tables that say where each key stands last.
use Rattle.std.proofs.Common.{◌≡◌, ◌==◌, ◌||◌, ℕ, zero, suc, ◌<◌, Bool, true, false, List, [], ◌∷◌, length, take, get_or, Some, Option, cond, refl, sym, ap, ◌∙◌, arith}
use Rattle.std.specs.FinMap.{FinMap, get, insert, get-insert}
use Rattle.std.specs.Ordering.{nat_cmp}
use Rattle.std.specs.Cmp.Lexicographic.{slice_cmp}
use Rattle.std.specs.Str.{bytes_eq}
use Rattle.project_model.specs.Items.{Item}
use Rattle.project_model.specs.declared.change.Thing.{Thing}
use Rattle.project_model.specs.declared.change.Thing.TheVariants as things
use Rattle.project_model.proofs.Rows.{ids, names}
use Rattle.edit_rules.specs.Histories.{changes_thing, is_same_thing}
use Rattle.edit_rules.specs.TouchRows.{touch_in}

pub get_put : {V : Type 0} (m : FinMap nat_cmp V) (k : ℕ) (v : V) (q : ℕ) → get (insert m k v) q ≡ cond (q == k) (Some v) (get m q)
get_put m k v q = get-insert ids.total m k v q ∙ ap (λ b. cond b (Some v) (get m q)) (sym (ids.agree q k))

pub get_named : {V : Type 0} (m : FinMap (slice_cmp nat_cmp) V) (k : List ℕ) (v : V) (q : List ℕ)
    → get (insert m k v) q ≡ cond (bytes_eq q k) (Some v) (get m q)
get_named m k v q = get-insert names.total m k v q ∙ ap (λ b. cond b (Some v) (get m q)) (sym (names.agree q k))

module _ (o : FinMap nat_cmp ℕ) (s y : FinMap (slice_cmp nat_cmp) ℕ) where
  pub touch_object : (id n : ℕ) (t : Thing)
      → touch_in (record { objects = insert o id n; sheets = s; symbols = y }) t ≡ cond (is_same_thing t (things.Object id)) (Some n) (touch_in (record { objects = o; sheets = s; symbols = y }) t)
  touch_object id n (things.Object j) = get_put o id n j
  touch_object id n (things.SheetName name) = refl
  touch_object id n (things.SymbolName name) = refl

  pub touch_sheet : (name : List ℕ) (n : ℕ) (t : Thing)
      → touch_in (record { objects = o; sheets = insert s name n; symbols = y }) t ≡ cond (is_same_thing t (things.SheetName name)) (Some n) (touch_in (record { objects = o; sheets = s; symbols = y }) t)
  touch_sheet name n (things.Object j) = refl
  touch_sheet name n (things.SheetName other) = get_named s name n other
  touch_sheet name n (things.SymbolName other) = refl

  pub touch_symbol : (name : List ℕ) (n : ℕ) (t : Thing)
      → touch_in (record { objects = o; sheets = s; symbols = insert y name n }) t ≡ cond (is_same_thing t (things.SymbolName name)) (Some n) (touch_in (record { objects = o; sheets = s; symbols = y }) t)
  touch_symbol name n (things.Object j) = refl
  touch_symbol name n (things.SheetName other) = refl
  touch_symbol name n (things.SymbolName other) = get_named y name n other

either : {X : Type 0} (b r : Bool) (x y : X) → cond b x (cond r x y) ≡ cond (r || b) x y
either true true x y = refl
either true false x y = refl
either false true x y = refl
either false false x y = refl

pub any_next : (t : Thing) (items : List Item) (i : ℕ) (item : Item) → i < length items → item ≡ get_or items i item
    → changes_thing t (take (suc i) items) ≡ (changes_thing t (take i items) || is_same_thing t item.0)
any_next t [] i item h e = absurd (omega arith)
any_next t (x ∷ xs) zero item h e = flat (is_same_thing t x.0) ∙ ap (λ (u : Item). is_same_thing t u.0) (sym e)
  where
    flat : (b : Bool) → (b || false) ≡ b
    flat true = refl
    flat false = refl
any_next t (x ∷ xs) (suc i) item h e =
    ap (λ b. is_same_thing t x.0 || b) (any_next t xs i item (omega arith) e) ∙ assoc (is_same_thing t x.0) (changes_thing t (take i xs)) (is_same_thing t item.0)
  where
    assoc : (a b c : Bool) → (a || (b || c)) ≡ ((a || b) || c)
    assoc true b c = refl
    assoc false b c = refl

pub touch_next : (m : Option ℕ) (t : Thing) (n : ℕ) (items : List Item) (i : ℕ) (item : Item) → i < length items → item ≡ get_or items i item
    → cond (is_same_thing t item.0) (Some n) (cond (changes_thing t (take i items)) (Some n) m) ≡ cond (changes_thing t (take (suc i) items)) (Some n) m
touch_next m t n items i item h e =
    either (is_same_thing t item.0) (changes_thing t (take i items)) (Some n) m ∙ ap (λ b. cond b (Some n) m) (sym (any_next t items i item h e))
