-- The rows of a hash map, as a finite map.
use Rattle.std.proofs.Common.{◌≡◌, ◌==◌, Bool, true, List, [], ◌∷◌, None, Some, cond, refl, sym, ◌∙◌}
use Rattle.std.specs.declared.cmp.Ordering.{Ordering}
use Rattle.std.specs.Ordering.{eq_by_cmp, nat_cmp}
use Rattle.std.specs.Cmp.{IsTotalOrder, IsEquivalence, Equal-is, unsigned_ties}
use Rattle.std.specs.Cmp.Lexicographic.{slice_cmp, texts_ties}
use Rattle.std.specs.Map.{lookup}
use Rattle.std.specs.Str.{bytes_eq}
use Rattle.std.specs.FinMap.{from_entries, get, insert, remove, get-from_entries, get-insert, get-remove, same_map, find}
use Rattle.std.proofs.lemmas.Cmp.{eq_by_cmp_equiv, nat_cmp_total, nat_list_cmp_total}
use Rattle.std.proofs.lemmas.Map.Lookups.{CmpEqualImpliesEq, exact_unsigned, exact_bytes}

-- how the keys of a table are compared: by an order and by an equality that agree
pub record IsKey {K : Type 0} (R : K → K → Ordering) (E : K → K → Bool) : Type 0 where
  pub total : IsTotalOrder R
  pub exact : CmpEqualImpliesEq R
  pub agree : (x y : K) → E x y ≡ eq_by_cmp R x y

pub key_equal : {K : Type 0} {R : K → K → Ordering} {E : K → K → Bool} → IsKey R E → IsEquivalence E
key_equal {R = R} o = record {
  refl = λ x. o.agree x x ∙ (eq_by_cmp_equiv o.total).refl x;
  symm = λ x y. o.agree x y ∙ (eq_by_cmp_equiv o.total).symm x y ∙ sym (o.agree y x);
  congr = λ x y z h. o.agree x z ∙ (eq_by_cmp_equiv o.total).congr x y z (sym (o.agree x y) ∙ h) ∙ sym (o.agree y z);
}

pub key_same : {K : Type 0} {R : K → K → Ordering} {E : K → K → Bool} → IsKey R E → (x y : K) → E x y ≡ true → x ≡ y
key_same {R = R} o x y h = o.exact x y ((Equal-is (R x y)).0 (sym (o.agree x y) ∙ h))

turn : {K : Type 0} {R : K → K → Ordering} {E : K → K → Bool} → IsKey R E → (k q : K) → E k q ≡ eq_by_cmp R q k
turn o k q = o.agree k q ∙ (eq_by_cmp_equiv o.total).symm k q

module _ {K X : Type 0} {R : K → K → Ordering} {E : K → K → Bool} (o : IsKey R E) where
  pub find_row : (es : List (K × X)) (q : K) → find R q es ≡ lookup (E q) es
  find_row [] q = refl
  find_row (e ∷ es) q = λ i. cond (sym (o.agree q e.0) i) (Some e.1) (find_row es q i)

  pub get_row : (es : List (K × X)) (q : K) → get (from_entries {R = R} es) q ≡ lookup (E q) es
  get_row es q = get-from_entries o.total es q ∙ find_row es q

  pub same_rows : (es fs : List (K × X)) → ((q : K) → lookup (E q) fs ≡ lookup (E q) es) → from_entries {R = R} fs ≡ from_entries es
  same_rows es fs h = same_map o.total o.exact _ _ (λ q. get_row fs q ∙ h q ∙ sym (get_row es q))

  pub put_row : (es fs : List (K × X)) (k : K) (v : X) → ((q : K) → lookup (E q) fs ≡ cond (E k q) (Some v) (lookup (E q) es)) → from_entries {R = R} fs ≡ insert (from_entries es) k v
  put_row es fs k v h = same_map o.total o.exact _ _ (λ q.
      get_row fs q ∙ h q ∙ (λ i. cond (turn o k q i) (Some v) (sym (get_row es q) i)) ∙ sym (get-insert o.total (from_entries es) k v q))

  pub remove_row : (es fs : List (K × X)) (k : K) → ((q : K) → lookup (E q) fs ≡ cond (E k q) None (lookup (E q) es)) → from_entries {R = R} fs ≡ remove (from_entries es) k
  remove_row es fs k h = same_map o.total o.exact _ _ (λ q.
      get_row fs q ∙ h q ∙ (λ i. cond (turn o k q i) None (sym (get_row es q) i)) ∙ sym (get-remove o.total (from_entries es) k q))

pub ids : IsKey nat_cmp ◌==◌
ids = record { total = nat_cmp_total; exact = exact_unsigned; agree = unsigned_ties }

pub names : IsKey (slice_cmp nat_cmp) bytes_eq
names = record { total = nat_list_cmp_total; exact = exact_bytes; agree = texts_ties }
