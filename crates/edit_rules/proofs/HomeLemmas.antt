-- How many objects each sheet has, as a change goes in item by item.
use Rattle.std.proofs.Common.{◌≡◌, ℕ, zero, suc, ◌+◌, ◌-◌, ◌≤◌, ◌<◌, ◌*◌, Bool, true, false, List, [], ◌∷◌, length, get_or, take, Option, Some, None, is_some, cond, refl, sym, ap, ◌∙◌, arith, add-one}
use Rattle.std.specs.List.{sum_by}
use Rattle.std.specs.FinMap as finite
use Rattle.std.specs.FinMap.{insert, get, values, entries, len-entries, len-empty, get-empty}
use Rattle.std.specs.Ordering.{nat_cmp}
use Rattle.std.specs.Cmp.Lexicographic.{slice_cmp}
use Rattle.std.specs.Str.{bytes_eq}
use Rattle.std.specs.declared.cmp.Ordering.{Ordering}
use Rattle.std.proofs.lemmas.List.{length-map}
use Rattle.std.proofs.lemmas.List.Sums.{sum_by-cons, sum_by-le-sum_by}
use Rattle.project_model.specs.declared.change.Placed.{Placed}
use Rattle.project_model.specs.declared.change.Thing.{Thing}
use Rattle.project_model.specs.declared.change.Thing.TheVariants as things
use Rattle.project_model.specs.declared.change.Value.{Value}
use Rattle.geda_model.specs.Sheets.{HeadData, SymbolData}
use Rattle.project_model.specs.Items.{Item}
use Rattle.project_model.specs.Projects.{ProjectData, empty_project}
use Rattle.project_model.specs.Changes.{AreDistinct, put, put_one, value_at}
use Rattle.project_model.proofs.Rows.{names, key_same}
use Rattle.project_model.proofs.ChangeLemmas.{kept, put_next}
use Rattle.edit_rules.proofs.WeightLemmas.{weigh_one, one_le}
use Rattle.edit_rules.specs.declared.weighing.Which.{Which}
use Rattle.edit_rules.specs.declared.weighing.Which.TheVariants as which
use Rattle.edit_rules.specs.LateLines.{project_text}
use Rattle.edit_rules.specs.Weights.{Weights, in_sheet, stands, weigh, weight, thing_weight}
use Rattle.edit_rules.proofs.Noting.{get_named}
use Rattle.edit_rules.specs.HomeRows.{SheetCounts, home_count}
use Rattle.edit_rules.specs.Tallies.{IsTallied, have, no_tally, weights_of}

entered_by : (homes : SheetCounts) (name n : List ℕ) (k : ℕ) (b : Bool) → bytes_eq n name ≡ b → k ≡ home_count (get homes name)
    → home_count (cond b (Some (k + 1)) (get homes n)) ≡ home_count (get homes n) + cond b 1 0
entered_by homes name n k true e is = let same = ap (λ (x : List ℕ). home_count (get homes x)) (key_same names n name e) in omega (arith, same, is)
entered_by homes name n k false e is = omega arith

pub entered : (homes : SheetCounts) (name n : List ℕ) (k : ℕ) → k ≡ home_count (get homes name)
    → home_count (get (insert homes name (k + 1)) n) ≡ home_count (get homes n) + cond (bytes_eq n name) 1 0
entered homes name n k is = ap home_count (get_named homes name (k + 1) n) ∙ entered_by homes name n k (bytes_eq n name) refl is

left_by : (homes : SheetCounts) (name n : List ℕ) (k : ℕ) (b : Bool) → bytes_eq n name ≡ b → k ≡ home_count (get homes name) → 0 < k
    → home_count (cond b (Some (k - 1)) (get homes n)) + cond b 1 0 ≡ home_count (get homes n)
left_by homes name n k true e is lt = let same = ap (λ (x : List ℕ). home_count (get homes x)) (key_same names n name e) in omega (arith, same, is)
left_by homes name n k false e is lt = omega arith

pub left : (homes : SheetCounts) (name n : List ℕ) (k : ℕ) → k ≡ home_count (get homes name) → 0 < k
    → home_count (get (insert homes name (k - 1)) n) + cond (bytes_eq n name) 1 0 ≡ home_count (get homes n)
left homes name n k is lt =
    ap (λ o. home_count o + cond (bytes_eq n name) 1 0) (get_named homes name (k - 1) n) ∙ left_by homes name n k (bytes_eq n name) refl is lt

one_each : (n : List ℕ) (placed : Placed) → stands n placed ≤ 1
one_each n placed = go (bytes_eq n placed.sheet)
  where
    go : (b : Bool) → cond b 1 0 ≤ 1
    go true = omega arith
    go false = omega arith

one_placed : (n : List ℕ) (o : Option Placed) → weight (stands n) o ≤ 1
one_placed n None = omega arith
one_placed n (Some placed) = one_each n placed

none_head : (o : Option HeadData) → weight (λ (head : HeadData). 0) o ≤ 1
none_head None = omega arith
none_head (Some head) = omega arith

none_symbol : (o : Option SymbolData) → weight (λ (symbol : SymbolData). 0) o ≤ 1
none_symbol None = omega arith
none_symbol (Some symbol) = omega arith

one_thing : (n : List ℕ) (t : Thing) (v : Option Value) → thing_weight (in_sheet n) t v ≤ 1
one_thing n (things.Object id) v = one_placed n _
one_thing n (things.SheetName name) v = none_head _
one_thing n (things.SymbolName name) v = none_symbol _

module _ (p : ProjectData) (items : List Item) (i : ℕ) (item : Item) (d : AreDistinct items) (lt : i < length items) (e : item ≡ get_or items i item)
    (n : List ℕ) where
  value_now : value_at (put p (take i items)) item.0 ≡ value_at p item.0
  value_now = kept p items i item d lt e

  pub home_here : (before : ℕ) → before ≡ weigh (in_sheet n) (put p (take i items)) → thing_weight (in_sheet n) item.0 (value_at p item.0) ≤ before
  home_here before is =
      let le = one_le (in_sheet n) (put p (take i items)) item.0 in
      let same = ap (thing_weight (in_sheet n) item.0) value_now in
      omega (arith, le, same, is)

  next_project : put p (take (i + 1) items) ≡ put_one (put p (take i items)) item.0 item.1
  next_project = rw add-one (put_next p items i item lt e)

  pub rehomed : (before after : ℕ) → before ≡ weigh (in_sheet n) (put p (take i items))
      → after + thing_weight (in_sheet n) item.0 (value_at p item.0) ≡ before + thing_weight (in_sheet n) item.0 item.1
      → after ≡ weigh (in_sheet n) (put p (take (i + 1) items))
  rehomed before after is moved =
      let one = weigh_one (in_sheet n) (put p (take i items)) item.0 item.1 in
      let same = ap (thing_weight (in_sheet n) item.0) value_now in
      let next = ap (weigh (in_sheet n)) next_project in
      omega (arith, one, same, next, is, moved)

  pub few_more : weigh (in_sheet n) (put p (take (i + 1) items)) ≤ weigh (in_sheet n) (put p (take i items)) + 1
  few_more =
      let one = weigh_one (in_sheet n) (put p (take i items)) item.0 item.1 in
      let le = one_thing n item.0 item.1 in
      let next = ap (weigh (in_sheet n)) next_project in
      omega (arith, one, le, next)

-- a sheet has no more objects than the project
pub in_sheet_le : (n : List ℕ) (p : ProjectData) → weigh (in_sheet n) p ≤ weigh (weights_of which.Objects) p
in_sheet_le n p = let le = sum_by-le-sum_by (stands n) (λ (placed : Placed). 1) (values p.objects) (one_each n) in omega (arith, le)

-- sums of ones and of zeros
sum_ones : {X : Type 0} (xs : List X) → sum_by (λ (x : X). 1) xs ≡ length xs
sum_ones [] = refl
sum_ones {X = X} (x ∷ xs) = let ih = sum_ones xs in let a = sum_by-cons (λ (y : X). 1) x xs in omega (arith, ih, a)

sum_zeros : {X : Type 0} (xs : List X) → sum_by (λ (x : X). 0) xs ≡ 0
sum_zeros [] = refl
sum_zeros {X = X} (x ∷ xs) = let ih = sum_zeros xs in let a = sum_by-cons (λ (y : X). 0) x xs in omega (arith, ih, a)

values_len : {K X : Type 0} {R : K → K → Ordering} (m : finite.FinMap R X) → length (values m) ≡ finite.len m
values_len m = length-map (entries m) (λ e. e.1) ∙ sym (len-entries m)

pub objects_are : (p : ProjectData) → weigh (weights_of which.Objects) p ≡ finite.len p.objects
objects_are p =
    let a = sum_ones (values p.objects) in let b = sum_zeros (values p.sheets) in let c = sum_zeros (values p.symbols) in let l = values_len p.objects in
    omega (arith, a, b, c, l)

pub sheets_are : (p : ProjectData) → weigh (weights_of which.Sheets) p ≡ finite.len p.sheets
sheets_are p =
    let a = sum_zeros (values p.objects) in let b = sum_ones (values p.sheets) in let c = sum_zeros (values p.symbols) in let l = values_len p.sheets in
    omega (arith, a, b, c, l)

pub symbols_are : (p : ProjectData) → weigh (weights_of which.Symbols) p ≡ finite.len p.symbols
symbols_are p =
    let a = sum_zeros (values p.objects) in let b = sum_zeros (values p.sheets) in let c = sum_ones (values p.symbols) in let l = values_len p.symbols in
    omega (arith, a, b, c, l)

pub text_is : (p : ProjectData) → weigh (weights_of which.Text) p ≡ project_text p
text_is p = let b = sum_zeros (values p.sheets) in omega (arith, b)

pub all_low : (p : ProjectData) → finite.len p.objects ≤ 400000 → finite.len p.sheets ≤ 1024 → finite.len p.symbols ≤ 8192 → project_text p ≤ 67108864
    → (w : Which) → weigh (weights_of w) p ≤ 67108864
all_low p a b c d which.Objects = let e = objects_are p in omega (arith, a, e)
all_low p a b c d which.Sheets = let e = sheets_are p in omega (arith, b, e)
all_low p a b c d which.Symbols = let e = symbols_are p in omega (arith, c, e)
all_low p a b c d which.Text = let e = text_is p in omega (arith, d, e)

nothing : {X : Type 0} (xs : List X) → length xs ≡ 0 → xs ≡ []
nothing [] e = refl
nothing (x ∷ xs) e = absurd (omega arith)

no_values : {K X : Type 0} (R : K → K → Ordering) → values {K = K} {X = X} {R = R} finite.empty ≡ []
no_values {K = K} {X = X} R = nothing (values {R = R} finite.empty) (values_len {R = R} finite.empty ∙ len-empty R X)

no_weight : (w : Weights) → weigh w empty_project ≡ 0
no_weight w = rw (no_values {X = Placed} nat_cmp, no_values {X = HeadData} (slice_cmp nat_cmp), no_values {X = SymbolData} (slice_cmp nat_cmp)) refl

nothing_had : (w : Which) → have no_tally w ≡ 0
nothing_had which.Objects = refl
nothing_had which.Sheets = refl
nothing_had which.Symbols = refl
nothing_had which.Text = refl

pub none_tallied : IsTallied empty_project no_tally
none_tallied = record {
  numbers = λ w. nothing_had w ∙ sym (no_weight (weights_of w));
  homes = λ name. ap home_count (get-empty (slice_cmp nat_cmp) name) ∙ sym (no_weight (in_sheet name));
  known =
      λ name there. absurd
      (let none : is_some (get {X = HeadData} empty_project.sheets name) ≡ false = ap is_some (get-empty (slice_cmp nat_cmp) name) in let no : false ≡ true = sym none ∙ there in cc no);
  low = λ w. let e = no_weight (weights_of w) in omega (arith, e);
}
