-- Sums over the items of a change, one by one.
use Rattle.std.proofs.Common.{◌≡◌, ℕ, zero, suc, ◌+◌, ◌-◌, ◌^◌, ◌<◌, ◌≤◌, List, [], ◌∷◌, length, get_or, take, min, nat_lt, ap, arith, add-one}
use Rattle.std.proofs.lemmas.Bool.{ltb-true, lt-ltb, ltb_from_iff}
use Rattle.std.proofs.lemmas.List.Sums.{sum_by-cons}
use Rattle.project_model.specs.Items.{Item}
use Rattle.project_model.specs.Projects.{ProjectData}
use Rattle.project_model.specs.Changes.{value_at, values_in}
use Rattle.edit_rules.specs.Weights.{Weights, weight_in, thing_weight}

put_next_sum : (w : Weights) (items : List Item) (i : ℕ) (item : Item) → i < length items → item ≡ get_or items i item
    → weight_in w (take (suc i) items) ≡ weight_in w (take i items) + thing_weight w item.0 item.1
put_next_sum w [] i item lt e = absurd (omega arith)
put_next_sum w (x ∷ items) zero item lt e =
    let same = ap (λ (u : Item). thing_weight w u.0 u.1) e in
    omega (arith, same)
put_next_sum w (x ∷ items) (suc i) item lt e =
    let g : Item → ℕ = λ (u : Item). thing_weight w u.0 u.1 in
    let ih = put_next_sum w items i item (omega arith) e in
    let a = sum_by-cons g x (take (suc i) items) in
    let b = sum_by-cons g x (take i items) in
    omega (arith, ih, a, b)

taken_next_sum : (w : Weights) (p : ProjectData) (items : List Item) (i : ℕ) (item : Item) → i < length items → item ≡ get_or items i item
    → weight_in w (values_in p (take (suc i) items)) ≡ weight_in w (values_in p (take i items)) + thing_weight w item.0 (value_at p item.0)
taken_next_sum w p [] i item lt e = absurd (omega arith)
taken_next_sum w p (x ∷ items) zero item lt e =
    let same = ap (λ (u : Item). thing_weight w u.0 (value_at p u.0)) e in
    omega (arith, same)
taken_next_sum w p (x ∷ items) (suc i) item lt e =
    let g : Item → ℕ = λ (u : Item). thing_weight w u.0 u.1 in
    let ih = taken_next_sum w p items i item (omega arith) e in
    let a = sum_by-cons g (x.0, value_at p x.0) (values_in p (take (suc i) items)) in
    let b = sum_by-cons g (x.0, value_at p x.0) (values_in p (take i items)) in
    omega (arith, ih, a, b)

pub put_more : (w : Weights) (items : List Item) (i : ℕ) (item : Item) → i < length items → item ≡ get_or items i item
    → weight_in w (take (i + 1) items) ≡ weight_in w (take i items) + thing_weight w item.0 item.1
put_more w items i item lt e = rw add-one (put_next_sum w items i item lt e)

pub taken_more : (w : Weights) (p : ProjectData) (items : List Item) (i : ℕ) (item : Item) → i < length items → item ≡ get_or items i item
    → weight_in w (values_in p (take (i + 1) items)) ≡ weight_in w (values_in p (take i items)) + thing_weight w item.0 (value_at p item.0)
taken_more w p items i item lt e = rw add-one (taken_next_sum w p items i item lt e)

-- a sum afterwards that stays at the end of its type
module _ (whole put_in gone after result : ℕ) (balance : after + gone ≡ whole + put_in) (within : gone ≤ whole) (low : whole ≤ 67108864)
    (result_is : result ≡ min (whole + min put_in (2 ^ 64 - 1)) (2 ^ 64 - 1) - min gone (2 ^ 64 - 1)) where
  pub after_exact : after < 2 ^ 62 → result ≡ after
  after_exact small = omega (arith, balance, within, low, result_is, small)

  pub after_over : (limit : ℕ) → limit < 2 ^ 62 → nat_lt limit result ≡ nat_lt limit after
  after_over limit small =
      ltb_from_iff (
        λ e. let past = ltb-true limit result e in omega (arith, balance, within, low, result_is, small, past),
        λ past. lt-ltb limit result (omega (arith, balance, within, low, result_is, small, past)),
      )
