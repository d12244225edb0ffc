-- Setting an attribute where the place of the first text of its name is known.
use Rattle.std.proofs.Common.{◌≡◌, ◌<◌, ◌++◌, ◌∷◌, [], ℕ, suc, List, Bool, true, false, Option, None, Some, option_map, cond, get_or, length, refl, ap, arith}
use Rattle.std.specs.Prelude.{slice_set}
use Rattle.geda_geom.specs.declared.conductor.Point.{Point}
use Rattle.geda_model.specs.Data.{TextData}
use Rattle.edit_attr.specs.Attributes.{is_attr_named, new_label, attr_place, set_text, with_content}

some_suc : (o : Option ℕ) (i : ℕ) → option_map suc o ≡ Some i → (k : ℕ) × (o ≡ Some k) × (i ≡ suc k)
some_suc None i e = absurd (let t : None ≡ Some i = e in cc)
some_suc (Some k) i e = (k, refl, let t : Some (suc k) ≡ Some i = e in cc)

-- the place is one of a text
pub place_within : (name : List ℕ) (texts : List TextData) (i : ℕ) → attr_place name texts ≡ Some i → i < length texts
place_within name [] i e = absurd (let t : None ≡ Some i = e in cc)
place_within name (t ∷ ts) i e = by (is_attr_named name t) (place_within name ts) e
  where
    by : (b : Bool) → ((k : ℕ) → attr_place name ts ≡ Some k → k < length ts) → cond b (Some 0) (option_map suc (attr_place name ts)) ≡ Some i
        → i < length (t ∷ ts)
    by true more h = let z : 0 ≡ i = (let k : Some 0 ≡ Some i = h in cc) in omega (arith, z)
    by false more h =
        let s = some_suc (attr_place name ts) i h in
        let lt = more s.0 s.1 in
        let is = s.2 in
        omega (arith, lt, is)

-- the text there gets the content
pub set_there : (name content : List ℕ) (p : Point) (texts : List TextData) (i : ℕ) (d : TextData) → attr_place name texts ≡ Some i
    → slice_set texts i (with_content content (get_or texts i d)) ≡ set_text name content p texts
set_there name content p [] i d e = absurd (let t : None ≡ Some i = e in cc)
set_there name content p (t ∷ ts) i d e = by (is_attr_named name t) (λ k. set_there name content p ts k d) e
  where
    by : (b : Bool) → ((k : ℕ) → attr_place name ts ≡ Some k → slice_set ts k (with_content content (get_or ts k d)) ≡ set_text name content p ts)
        → cond b (Some 0) (option_map suc (attr_place name ts)) ≡ Some i
        → slice_set (t ∷ ts) i (with_content content (get_or (t ∷ ts) i d)) ≡ cond b (with_content content t ∷ ts) (t ∷ set_text name content p ts)
    by true more h = let z : 0 ≡ i = (let k : Some 0 ≡ Some i = h in cc) in rw (← z) refl
    by false more h =
        let s = some_suc (attr_place name ts) i h in
        rw s.2 (ap (λ (rest : List TextData). t ∷ rest) (more s.0 s.1))

-- where there is none, the label comes last
pub set_last : (name content : List ℕ) (p : Point) (texts : List TextData) → attr_place name texts ≡ None
    → texts ++ new_label content p ∷ [] ≡ set_text name content p texts
set_last name content p [] e = refl
set_last name content p (t ∷ ts) e = by (is_attr_named name t) (set_last name content p ts) e
  where
    none : (o : Option ℕ) → option_map suc o ≡ None → o ≡ None
    none None h = refl
    none (Some k) h = absurd (let z : Some (suc k) ≡ None = h in cc)

    by : (b : Bool) → (attr_place name ts ≡ None → ts ++ new_label content p ∷ [] ≡ set_text name content p ts)
        → cond b (Some 0) (option_map suc (attr_place name ts)) ≡ None
        → t ∷ (ts ++ new_label content p ∷ []) ≡ cond b (with_content content t ∷ ts) (t ∷ set_text name content p ts)
    by true more h = absurd (let z : Some 0 ≡ None = h in cc)
    by false more h = ap (λ (rest : List TextData). t ∷ rest) (more (none (attr_place name ts) h))
