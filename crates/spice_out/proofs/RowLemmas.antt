-- What a table of pins has after a refdes got one more.
use Rattle.std.proofs.Common.{◌≡◌, ◌∙◌, ℕ, Bool, true, false, cond, List, [], ◌∷◌, ◌++◌, Option, Some, None, refl, ap, nat_cmp, unwrap_or}
use Rattle.std.specs.BTreeMap.{UpdatesBy}
use Rattle.std.specs.Cmp.Lexicographic.{slice_cmp}
use Rattle.std.specs.Str.{bytes_eq}
use Rattle.std.proofs.lemmas.Map.Text.{btree_map_updates_str}
use Rattle.std.proofs.lemmas.Slice.Eq.{bytes_eq-Decides}
use Rattle.spice_out.specs.Pins.{PinData}
use Rattle.spice_out.specs.steps.PinRows.{PinRows, pins_at, row_at, taken_in}

-- the row of a refdes changes
abbrev pub Changes : PinRows → PinRows → List ℕ → Option (List PinData) → Type 0
Changes old new refdes row = UpdatesBy (λ x y. slice_cmp nat_cmp x.now y.now) (λ k. slice_cmp nat_cmp refdes k.now) old new row

cond_twice : {A : Type 0} (b : Bool) (x y z : A) → cond b x (cond b y z) ≡ cond b x z
cond_twice true x y z = refl
cond_twice false x y z = refl

-- the row is taken out, and put back with a pin behind the others
pub put_back : (refdes : List ℕ) (pin : PinData) (old mid new : PinRows) → Changes old mid refdes None → Changes mid new refdes (Some (pins_at old refdes ++ pin ∷ []))
    → (q : List ℕ) → pins_at new q ≡ taken_in q refdes pin (pins_at old q)
put_back refdes pin old mid new out back q =
    ap (λ (r : Option (List PinData)). unwrap_or r [])
    (btree_map_updates_str refdes mid new (Some (pins_at old refdes ++ pin ∷ [])) back q
    ∙ ap (cond (bytes_eq refdes q) (Some (pins_at old refdes ++ pin ∷ []))) (btree_map_updates_str refdes old mid None out q)
    ∙ cond_twice (bytes_eq refdes q) (Some (pins_at old refdes ++ pin ∷ [])) None (row_at old q))
    ∙ by (bytes_eq refdes q) refl
  where
    by : (b : Bool) → bytes_eq refdes q ≡ b
        → unwrap_or (cond b (Some (pins_at old refdes ++ pin ∷ [])) (row_at old q)) [] ≡ cond b (pins_at old q ++ pin ∷ []) (pins_at old q)
    by true e = rw ((bytes_eq-Decides refdes q).0 e) refl
    by false e = refl
