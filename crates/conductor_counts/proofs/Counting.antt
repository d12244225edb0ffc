-- Sums of conductors over the objects of a project, and what a change makes of them.
use Rattle.std.proofs.Common.{Bor, ◌≡◌, ℕ, suc, ◌+◌, ◌≤◌, Bool, true, false, ◌||◌, List, [], ◌∷◌, map, length, Option, refl, sym, ap, subst, ◌∙◌, arith}
use Rattle.std.specs.List.{list_any, sum_by}
use Rattle.std.specs.FinMap.{entries, values}
use Rattle.std.proofs.lemmas.List.Sums.{sum_by-cons}
use Rattle.pin_place.specs.SymbolPins.{SymbolPin}
use Rattle.pin_place.specs.Plans.{ends_in}
use Rattle.project_model.specs.declared.change.Placed.{Placed}
use Rattle.project_model.specs.declared.change.Thing.{Thing}
use Rattle.project_model.specs.declared.change.Thing.TheVariants as things
use Rattle.project_model.specs.declared.change.Value.{Value}
use Rattle.project_model.specs.Items.{Item}
use Rattle.project_model.specs.Tables.{row_now}
use Rattle.project_model.specs.Projects.{ProjectData}
use Rattle.project_model.specs.Changes.{CanApply, put, put_one, values_in}
use Rattle.edit_rules.specs.Weights.{weigh, weight_in}
use Rattle.edit_rules.proofs.WeightLemmas.{taken_le, weigh_put}
use Rattle.conductor_counts.specs.Conductors.{Symbols, conductor_weights, conductors}
use Rattle.conductor_counts.specs.steps.Rows.{row_conductors}
use Rattle.conductor_counts.specs.steps.SymbolItems.{is_symbol, is_symbol_name}

-- each net pin has one end
pub length-ends_in : (place : ℕ) (pins : List SymbolPin) → length (ends_in place pins) ≡ length pins
length-ends_in place [] = refl
length-ends_in place (pin ∷ pins) = ap suc (length-ends_in (place + 1) pins)

either_false : (a b : Bool) → (a || b) ≡ false → (a ≡ false) × (b ≡ false)
either_false true b e = absurd (cc e)
either_false false b e = (refl, e)

one_kept : (p : ProjectData) (t : Thing) (v : Option Value) → is_symbol_name t ≡ false → (put_one p t v).symbols ≡ p.symbols
one_kept p (things.Object id) v e = refl
one_kept p (things.SheetName name) v e = refl
one_kept p (things.SymbolName name) v e = absurd (cc e)

-- a change with no symbol among it leaves them
pub symbols_kept : (p : ProjectData) (items : List Item) → list_any is_symbol items ≡ false → (put p items).symbols ≡ p.symbols
symbols_kept p [] e = refl
symbols_kept p (item ∷ items) e =
    let both = either_false (is_symbol item) (list_any is_symbol items) e in
    symbols_kept (put_one p item.0 item.1) items both.1 ∙ one_kept p item.0 item.1 both.0

-- what is put in and what is taken out make the number afterwards
pub after_change : (p : ProjectData) (items : List Item) → CanApply items → list_any is_symbol items ≡ false
    → conductors (put p items) + weight_in (conductor_weights p.symbols) (values_in p items)
    ≡ conductors p + weight_in (conductor_weights p.symbols) items
after_change p items can none =
    subst (λ (symbols : Symbols). weigh (conductor_weights symbols) (put p items) + weight_in (conductor_weights p.symbols) (values_in p items)
    ≡ conductors p + weight_in (conductor_weights p.symbols) items)
    (sym (symbols_kept p items none)) (weigh_put (conductor_weights p.symbols) p items can.distinct)

-- what is taken out was there
pub taken_is_less : (p : ProjectData) (items : List Item) → CanApply items → weight_in (conductor_weights p.symbols) (values_in p items) ≤ conductors p
taken_is_less p items can = taken_le (conductor_weights p.symbols) p items can.distinct

no_sum : {X : Type 0} (xs : List X) → sum_by (λ (x : X). 0) xs ≡ 0
no_sum [] = refl
no_sum {X = X} (x ∷ xs) = let ih = no_sum xs in let a = sum_by-cons (λ (y : X). 0) x xs in omega (arith, ih, a)

row_sums : (symbols : Symbols) (rows : List (ℕ × Bor Placed))
    → sum_by (row_conductors symbols) rows ≡ sum_by (conductor_weights symbols).object (map (λ (e : ℕ × Placed). e.1) (map row_now rows))
row_sums symbols [] = refl
row_sums symbols (row ∷ rows) =
    let f = (conductor_weights symbols).object in
    let ih = row_sums symbols rows in
    let a = sum_by-cons (row_conductors symbols) row rows in
    let b = sum_by-cons f row.1.now (map (λ (e : ℕ × Placed). e.1) (map row_now rows)) in
    omega (arith, ih, a, b)

-- the conductors of all objects are those of the project
pub all_rows : (p : ProjectData) (rows : List (ℕ × Bor Placed)) → map row_now rows ≡ entries p.objects → sum_by (row_conductors p.symbols) rows ≡ conductors p
all_rows p rows are =
    let objects = row_sums p.symbols rows ∙ ap (λ (es : List (ℕ × Placed)). sum_by (conductor_weights p.symbols).object (map (λ (e : ℕ × Placed). e.1) es)) are in
    let heads = no_sum (values p.sheets) in
    let symbols = no_sum (values p.symbols) in
    omega (arith, objects, heads, symbols)
