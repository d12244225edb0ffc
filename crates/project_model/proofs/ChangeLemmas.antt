-- What a change put in item by item makes of a project.
use Rattle.std.proofs.Common.{◌≡◌, ◌≢◌, ◌+◌, ℕ, zero, suc, ◌<◌, ◌≤◌, All, Bool, true, false, List, [], ◌∷◌, ◌++◌, length, get_or, set, take, drop, Option, None, Some, option_map, cond, refl, sym, ap, ◌∙◌, arith}
use Rattle.std.specs.declared.cmp.Ordering.{Ordering}
use Rattle.std.specs.Ordering.{eq_by_cmp}
use Rattle.std.specs.Cmp.{Equal-is}
use Rattle.std.specs.FinMap.{FinMap, get, get-insert, get-remove}
use Rattle.std.proofs.lemmas.List.Elements.{All-tail}
use Rattle.project_model.specs.declared.change.Thing.{Thing}
use Rattle.project_model.specs.declared.change.Thing.TheVariants as things
use Rattle.project_model.specs.declared.change.Value.TheVariants as values
use Rattle.project_model.specs.declared.change.Value.{Value}
use Rattle.project_model.specs.Items.{Item}
use Rattle.project_model.specs.Tables.{set_row}
use Rattle.project_model.specs.Projects.{ProjectData}
use Rattle.project_model.specs.Changes.{value_at, put_one, put, values_in, AreDistinct, as_placed, as_head, as_symbol, count_names, name_count}
use Rattle.project_model.proofs.Rows.{IsKey, ids, names}

untied : {K : Type 0} {R : K → K → Ordering} {E : K → K → Bool} → IsKey R E → (q k : K) → k ≢ q → eq_by_cmp R q k ≡ false
untied {R = R} o q k other = go (eq_by_cmp R q k) refl
  where
    go : (b : Bool) → eq_by_cmp R q k ≡ b → eq_by_cmp R q k ≡ false
    go true e = absurd (other (sym (o.exact q k ((Equal-is (R q k)).0 e))))
    go false e = e

module _ {K V : Type 0} {R : K → K → Ordering} {E : K → K → Bool} (o : IsKey R E) where
  -- another key keeps its row
  get_other : (m : FinMap R V) (k q : K) (v : Option V) → k ≢ q → get (set_row m k v) q ≡ get m q
  get_other m k q None other = get-remove o.total m k q ∙ ap (λ b. cond b None (get m q)) (untied o q k other)
  get_other m k q (Some v) other = get-insert o.total m k v q ∙ ap (λ b. cond b (Some v) (get m q)) (untied o q k other)

-- another thing keeps its value
pub value_at-put_one : (p : ProjectData) (s t : Thing) (v : Option Value) → s ≢ t → value_at (put_one p s v) t ≡ value_at p t
value_at-put_one p (things.Object i) (things.Object j) v other = ap (option_map values.Object) (get_other ids p.objects i j (as_placed v) (λ e. other (ap things.Object e)))
value_at-put_one p (things.Object i) (things.SheetName n) v other = refl
value_at-put_one p (things.Object i) (things.SymbolName n) v other = refl
value_at-put_one p (things.SheetName m) (things.Object j) v other = refl
value_at-put_one p (things.SheetName m) (things.SheetName n) v other = ap (option_map values.Head) (get_other names p.sheets m n (as_head v) (λ e. other (ap things.SheetName e)))
value_at-put_one p (things.SheetName m) (things.SymbolName n) v other = refl
value_at-put_one p (things.SymbolName m) (things.Object j) v other = refl
value_at-put_one p (things.SymbolName m) (things.SheetName n) v other = refl
value_at-put_one p (things.SymbolName m) (things.SymbolName n) v other = ap (option_map values.Symbol) (get_other names p.symbols m n (as_symbol v) (λ e. other (ap things.SymbolName e)))

pub put_next : (p : ProjectData) (items : List Item) (i : ℕ) (item : Item) → i < length items → item ≡ get_or items i item → put p (take (suc i) items) ≡ put_one (put p (take i items)) item.0 item.1
put_next p [] i item h e = absurd (omega arith)
put_next p (x ∷ xs) zero item h e = ap (λ (u : Item). put_one p u.0 u.1) (sym e)
put_next p (x ∷ xs) (suc i) item h e = put_next (put_one p x.0 x.1) xs i item (omega arith) e

-- the names of one item more
pub names_next : (items : List Item) (i : ℕ) (item : Item) → i < length items → item ≡ get_or items i item
    → count_names (take (suc i) items) ≡ count_names (take i items) + name_count item.0
names_next [] i item h e = absurd (omega arith)
names_next (x ∷ xs) zero item h e = rw (ap (λ (u : Item). name_count u.0) e) (omega arith)
names_next (x ∷ xs) (suc i) item h e = omega (arith, names_next xs i item (omega arith) e)

-- those of a part are no more
pub names_of_part : (items : List Item) (i : ℕ) → count_names (take i items) ≤ count_names items
names_of_part [] zero = omega arith
names_of_part [] (suc i) = omega arith
names_of_part (x ∷ xs) zero = omega arith
names_of_part (x ∷ xs) (suc i) = omega (arith, names_of_part xs i)

-- what stands further on in a change has the value that it had before the change
pub kept : (p : ProjectData) (items : List Item) (i : ℕ) (item : Item) → AreDistinct items → i < length items → item ≡ get_or items i item → value_at (put p (take i items)) item.0 ≡ value_at p item.0
kept p [] i item d h e = absurd (omega arith)
kept p (x ∷ xs) zero item d h e = refl
kept p (x ∷ xs) (suc i) item d h e =
    let later : i < length xs = omega arith in
    kept (put_one p x.0 x.1) xs i item (λ j k y lt end. d (suc j) (suc k) y (omega arith) (omega arith)) later e
    ∙ value_at-put_one p x.0 item.0 x.1 (λ same. d 0 (suc i) item (omega arith) h (same ∙ ap (λ (u : Item). u.0) e))

pub now_at : (p : ProjectData) (items : List Item) (i : ℕ) (d : Item) → i < length items → get_or (values_in p (take i items) ++ drop i items) i d ≡ get_or items i d
now_at p [] i d h = absurd (omega arith)
now_at p (x ∷ xs) zero d h = refl
now_at p (x ∷ xs) (suc i) d h = now_at p xs i d (omega arith)

pub set_next : (p : ProjectData) (items : List Item) (i : ℕ) (item : Item) → i < length items → item ≡ get_or items i item
    → set (values_in p (take i items) ++ drop i items) i (item.0, value_at p item.0) ≡ values_in p (take (suc i) items) ++ drop (suc i) items
set_next p [] i item h e = absurd (omega arith)
set_next p (x ∷ xs) zero item h e = λ k. ((e k).0, value_at p (e k).0) ∷ xs
set_next p (x ∷ xs) (suc i) item h e = ap (◌∷◌ (x.0, value_at p x.0)) (set_next p xs i item (omega arith) e)

pub length_now : (p : ProjectData) (items : List Item) (i : ℕ) → length (values_in p (take i items) ++ drop i items) ≡ length items
length_now p [] zero = refl
length_now p [] (suc i) = refl
length_now p (x ∷ xs) zero = refl
length_now p (x ∷ xs) (suc i) = ap suc (length_now p xs i)

-- a change that follows another one
pub put-append : (p : ProjectData) (items more : List Item) → put p (items ++ more) ≡ put (put p items) more
put-append p [] more = refl
put-append p (item ∷ items) more = put-append (put_one p item.0 item.1) items more

-- one more item
pub put-push : (p : ProjectData) (items : List Item) (thing : Thing) (value : Option Value) → put p (items ++ (thing, value) ∷ []) ≡ put_one (put p items) thing value
put-push p items thing value = put-append p items ((thing, value) ∷ [])

pub values_in-append : (p : ProjectData) (items more : List Item) → values_in p (items ++ more) ≡ values_in p items ++ values_in p more
values_in-append p [] more = refl
values_in-append p (item ∷ items) more = ap (◌∷◌ (item.0, value_at p item.0)) (values_in-append p items more)

-- a thing that no item has keeps its value
pub value_at-put : (p : ProjectData) (items : List Item) (thing : Thing) → All (λ (item : Item). item.0 ≢ thing) items → value_at (put p items) thing ≡ value_at p thing
value_at-put p [] thing apart = refl
value_at-put p (item ∷ items) thing apart =
    value_at-put (put_one p item.0 item.1) items thing (All-tail (λ (other : Item). other.0 ≢ thing) item items apart)
    ∙ value_at-put_one p item.0 thing item.1 (apart 0 item (omega arith))

-- ids are not given again
pub next_id-put_one : (p : ProjectData) (thing : Thing) (value : Option Value) → p.next_id ≤ (put_one p thing value).next_id
next_id-put_one p (things.Object id) value = omega arith
next_id-put_one p (things.SheetName name) value = omega arith
next_id-put_one p (things.SymbolName name) value = omega arith

pub next_id-put : (p : ProjectData) (items : List Item) → p.next_id ≤ (put p items).next_id
next_id-put p [] = omega arith
next_id-put p (item ∷ items) =
    let one = next_id-put_one p item.0 item.1 in
    let rest = next_id-put (put_one p item.0 item.1) items in
    omega arith
