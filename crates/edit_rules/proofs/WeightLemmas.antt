-- Sums over the values of finite maps, and what a change makes of such sums over a project.
use Rattle.std.proofs.Common.{◌≡◌, ◌≢◌, ℕ, suc, ◌+◌, ◌≤◌, Bool, true, false, not, ◌&&◌, T, List, [], ◌∷◌, map, All, Option, None, Some, option_map, cond, refl, sym, ap, subst, ◌∙◌, arith}
use Rattle.std.specs.List.{sum_by}
use Rattle.std.specs.declared.cmp.Ordering.{Ordering}
use Rattle.std.specs.declared.cmp.Ordering.TheVariants.{Less, Equal, Greater}
use Rattle.std.specs.Ordering.{eq_by_cmp, is_lt, is_eq}
use Rattle.std.specs.FinMap.{FinMap, get, insert, remove, values, entries, entries_sorted, entries-insert, get-entries, from_sorted, entries-from_sorted, get-from_sorted, get-remove, same_map}
use Rattle.std.specs.FinMap.Entries.{by_order, find, put, where_key, below_all, is_sorted, is_sorted-where_key, find-where_key}
use Rattle.std.proofs.lemmas.Cmp.{eq_by_cmp_equiv}
use Rattle.std.proofs.lemmas.List.Sums.{sum_by-cons}
use Rattle.std.proofs.lemmas.List.Elements.{All-tail}
use Rattle.project_model.specs.declared.change.Placed.{Placed}
use Rattle.project_model.specs.declared.change.Thing.{Thing}
use Rattle.project_model.specs.declared.change.Thing.TheVariants as things
use Rattle.project_model.specs.declared.change.Value.{Value}
use Rattle.project_model.specs.declared.change.Value.TheVariants as contents
use Rattle.geda_model.specs.Sheets.{HeadData, SymbolData}
use Rattle.project_model.specs.Items.{Item}
use Rattle.project_model.specs.Tables.{set_row}
use Rattle.project_model.specs.Projects.{ProjectData}
use Rattle.project_model.specs.Changes.{as_placed, as_head, as_symbol, value_at, put_one, values_in, AreDistinct}
use Rattle.project_model.specs.Changes as changes
use Rattle.project_model.proofs.Rows.{IsKey, ids, names}
use Rattle.project_model.proofs.ChangeLemmas.{value_at-put_one}
use Rattle.edit_rules.specs.Weights.{Weights, weigh, weight, weight_in, thing_weight}

first : (a b : Bool) → T (a && b) → T a
first true b p = tt
first false b p = absurd p

second : (a b : Bool) → T (a && b) → T b
second true b p = p
second false b p = absurd p

less : (r : Ordering) → T (is_lt r) → r ≡ Less
less Less p = refl
less Equal p = absurd p
less Greater p = absurd p

both : (a b : Bool) → T a → T b → T (a && b)
both true b p q = q
both false b p q = p

equal : (r : Ordering) → is_eq r ≡ true → r ≡ Equal
equal Less p = absurd (cc p)
equal Equal p = refl
equal Greater p = absurd (cc p)

abbrev vals : {K X : Type 0} → List (K × X) → List X
vals es = map (λ e. e.1) es

module _ {K X : Type 0} {R : K → K → Ordering} {E : K → K → Bool} (o : IsKey R E) where
  find_below : (q : K) (es : List (K × X)) → T (below_all R q es) → find R q es ≡ None
  find_below q [] h = refl
  find_below q (e ∷ es) h = ap (λ r. cond (is_eq r) (Some e.1) (find R q es)) (less _ (first _ _ h)) ∙ find_below q es (second _ _ h)

  below_less : (x y : K) (es : List (K × X)) → R x y ≡ Less → T (below_all R y es) → T (below_all R x es)
  below_less x y [] p h = tt
  below_less x y (e ∷ es) p h =
      both _ _ (subst (λ r. T (is_lt r)) (sym (o.total.trans x y e.0 p (less _ (first _ _ h)))) tt) (below_less x y es p (second _ _ h))

  module _ (f : X → ℕ) where
    put_case : (k : K) (v : X) (e : K × X) (es : List (K × X)) → T (below_all R e.0 es)
        → sum_by f (vals (put R k v es)) + weight f (find R k es) ≡ sum_by f (vals es) + f v → (r : Ordering) → R k e.0 ≡ r
        → sum_by f (vals (by_order r ((k, v) ∷ e ∷ es) ((e.0, v) ∷ es) (e ∷ put R k v es)))
        + weight f (cond (is_eq r) (Some e.1) (find R k es)) ≡ sum_by f (vals (e ∷ es)) + f v
    put_case k v e es h ih Less p =
        let none : find R k es ≡ None = find_below k es (below_less k e.0 es p h) in
        let a = sum_by-cons f v (e.1 ∷ vals es) in
        rw none (omega (arith, a))
    put_case k v e es h ih Equal p =
        let a = sum_by-cons f v (vals es) in
        let b = sum_by-cons f e.1 (vals es) in
        omega (arith, a, b)
    put_case k v e es h ih Greater p =
        let a = sum_by-cons f e.1 (vals (put R k v es)) in
        let b = sum_by-cons f e.1 (vals es) in
        omega (arith, a, b, ih)

    sum_put : (k : K) (v : X) (es : List (K × X)) → T (is_sorted R es) → sum_by f (vals (put R k v es)) + weight f (find R k es) ≡ sum_by f (vals es) + f v
    sum_put k v [] s = omega arith
    sum_put k v (e ∷ es) s = put_case k v e es (first _ _ s) (sum_put k v es (second _ _ s)) (R k e.0) refl

    abbrev others : K → K → Bool
    others k x = not (eq_by_cmp R k x)

    without_case : (k : K) (e : K × X) (es : List (K × X)) → T (below_all R e.0 es)
        → sum_by f (vals (where_key R (others k) es)) + weight f (find R k es) ≡ sum_by f (vals es) → (b : Bool) → eq_by_cmp R k e.0 ≡ b
        → sum_by f (vals (cond (not b) (e ∷ where_key R (others k) es) (where_key R (others k) es)))
        + weight f (cond b (Some e.1) (find R k es)) ≡ sum_by f (vals (e ∷ es))
    without_case k e es h ih true t =
        let same : k ≡ e.0 = o.exact k e.0 (equal (R k e.0) t) in
        let none : find R k es ≡ None = find_below k es (subst (λ x. T (below_all R x es)) (sym same) h) in
        let rest : sum_by f (vals (where_key R (others k) es)) + 0 ≡ sum_by f (vals es) =
        ap (λ (u : Option X). sum_by f (vals (where_key R (others k) es)) + weight f u) (sym none) ∙ ih in
        let b = sum_by-cons f e.1 (vals es) in
        omega (arith, rest, b)
    without_case k e es h ih false t =
        let a = sum_by-cons f e.1 (vals (where_key R (others k) es)) in
        let b = sum_by-cons f e.1 (vals es) in
        omega (arith, a, b, ih)

    sum_without : (k : K) (es : List (K × X)) → T (is_sorted R es) → sum_by f (vals (where_key R (others k) es)) + weight f (find R k es) ≡ sum_by f (vals es)
    sum_without k [] s = omega arith
    sum_without k (e ∷ es) s = without_case k e es (first _ _ s) (sum_without k es (second _ _ s)) (eq_by_cmp R k e.0) refl

    pub sum_insert : (m : FinMap R X) (k : K) (v : X) → sum_by f (values (insert m k v)) + weight f (get m k) ≡ sum_by f (values m) + f v
    sum_insert m k v = rw (entries-insert o.total m k v, get-entries m k) (sum_put k v (entries m) (entries_sorted m))

    turned : (b : Bool) (x y : Option X) → cond (not b) x y ≡ cond b y x
    turned true x y = refl
    turned false x y = refl

    entries-remove : (m : FinMap R X) (k : K) → entries (remove m k) ≡ where_key R (others k) (entries m)
    entries-remove m k =
        let kept = where_key R (others k) (entries m) in
        let s : T (is_sorted R kept) = is_sorted-where_key R (others k) (entries m) (entries_sorted m) in
        let same : remove m k ≡ from_sorted kept = same_map o.total o.exact (remove m k) (from_sorted kept) (λ q.
        get-remove o.total m k q
        ∙ sym (get-from_sorted R kept q s
        ∙ find-where_key R (others k) q (λ x t. ap (others k) (sym (o.exact q x t))) (entries m)
        ∙ turned (eq_by_cmp R k q) (find R q (entries m)) None
        ∙ ap (λ b. cond b None (find R q (entries m))) ((eq_by_cmp_equiv o.total).symm k q)
        ∙ ap (cond (eq_by_cmp R q k) None) (sym (get-entries m q)))) in
        ap entries same ∙ entries-from_sorted R kept s

    pub sum_remove : (m : FinMap R X) (k : K) → sum_by f (values (remove m k)) + weight f (get m k) ≡ sum_by f (values m)
    sum_remove m k = rw (entries-remove m k, get-entries m k) (sum_without k (entries m) (entries_sorted m))

    pub sum_set : (m : FinMap R X) (k : K) (v : Option X) → sum_by f (values (set_row m k v)) + weight f (get m k) ≡ sum_by f (values m) + weight f v
    sum_set m k None = let a = sum_remove m k in omega (arith, a)
    sum_set m k (Some v) = sum_insert m k v

placed_again : (x : Option Placed) → as_placed (option_map contents.Object x) ≡ x
placed_again None = refl
placed_again (Some x) = refl

head_again : (x : Option HeadData) → as_head (option_map contents.Head x) ≡ x
head_again None = refl
head_again (Some x) = refl

symbol_again : (x : Option SymbolData) → as_symbol (option_map contents.Symbol x) ≡ x
symbol_again None = refl
symbol_again (Some x) = refl

module _ (w : Weights) where
  pub weigh_one : (p : ProjectData) (t : Thing) (v : Option Value) → weigh w (put_one p t v) + thing_weight w t (value_at p t) ≡ weigh w p + thing_weight w t v
  weigh_one p (things.Object id) v =
      let a = sum_set ids w.object p.objects id (as_placed v) in
      rw (placed_again (get p.objects id)) (omega (arith, a))
  weigh_one p (things.SheetName name) v =
      let a = sum_set names w.head p.sheets name (as_head v) in
      rw (head_again (get p.sheets name)) (omega (arith, a))
  weigh_one p (things.SymbolName name) v =
      let a = sum_set names w.symbol p.symbols name (as_symbol v) in
      rw (symbol_again (get p.symbols name)) (omega (arith, a))

  kept_weight : (p : ProjectData) (x : Item) (items : List Item) → All (λ (item : Item). x.0 ≢ item.0) items
      → weight_in w (values_in (put_one p x.0 x.1) items) ≡ weight_in w (values_in p items)
  kept_weight p x [] apart = refl
  kept_weight p x (y ∷ items) apart =
      let ih = kept_weight p x items (All-tail (λ (item : Item). x.0 ≢ item.0) y items apart) in
      let same = ap (thing_weight w y.0) (value_at-put_one p x.0 y.0 x.1 (apart 0 y (omega arith))) in
      let g : Item → ℕ = λ (item : Item). thing_weight w item.0 item.1 in
      let a = sum_by-cons g (y.0, value_at (put_one p x.0 x.1) y.0) (values_in (put_one p x.0 x.1) items) in
      let b = sum_by-cons g (y.0, value_at p y.0) (values_in p items) in
      omega (arith, a, b, same, ih)

  -- the weight afterwards and what is replaced make up the weight before and what is put in
  pub weigh_put : (p : ProjectData) (items : List Item) → AreDistinct items
      → weigh w (changes.put p items) + weight_in w (values_in p items) ≡ weigh w p + weight_in w items
  weigh_put p [] d = refl
  weigh_put p (x ∷ items) d =
      let ih = weigh_put (put_one p x.0 x.1) items (λ i j y lt below. d (suc i) (suc j) y (omega arith) (omega arith)) in
      let k = kept_weight p x items (λ i y lt. d 0 (suc i) y (omega arith) (omega arith)) in
      let one = weigh_one p x.0 x.1 in
      let g : Item → ℕ = λ (item : Item). thing_weight w item.0 item.1 in
      let a = sum_by-cons g (x.0, value_at p x.0) (values_in p items) in
      let b = sum_by-cons g x items in
      omega (arith, ih, k, one, a, b)

  none_weighs : (t : Thing) → thing_weight w t None ≡ 0
  none_weighs (things.Object id) = refl
  none_weighs (things.SheetName name) = refl
  none_weighs (things.SymbolName name) = refl

  pub one_le : (p : ProjectData) (t : Thing) → thing_weight w t (value_at p t) ≤ weigh w p
  one_le p t = let one = weigh_one p t None in let none = none_weighs t in omega (arith, one, none)

  -- what is replaced is part of the weight before
  pub taken_le : (p : ProjectData) (items : List Item) → AreDistinct items → weight_in w (values_in p items) ≤ weigh w p
  taken_le p [] d = omega arith
  taken_le p (x ∷ items) d =
      let q : ProjectData = put_one p x.0 None in
      let ih = taken_le q items (λ i j y lt below. d (suc i) (suc j) y (omega arith) (omega arith)) in
      let k = kept_weight p (x.0, None) items (λ i y lt. d 0 (suc i) y (omega arith) (omega arith)) in
      let one = weigh_one p x.0 None in
      let none = none_weighs x.0 in
      let a = sum_by-cons (λ (item : Item). thing_weight w item.0 item.1) (x.0, value_at p x.0) (values_in p items) in
      omega (arith, ih, k, one, none, a)
