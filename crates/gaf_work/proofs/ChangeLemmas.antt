-- The changes of the work can be applied.
use Rattle.std.proofs.Common.{◌≢◌, [], ◌∷◌, Some}
use Rattle.std.proofs.lemmas.List.Elements.{All-cons, All-nil}
use Rattle.project_model.specs.Items.{Item}
use Rattle.project_model.specs.declared.change.Thing.{Thing}
use Rattle.project_model.specs.declared.change.Thing.TheVariants as things
use Rattle.project_model.specs.declared.change.Value.TheVariants as values
use Rattle.project_model.specs.Changes.{CanApply}
use Rattle.project_model.proofs.BuiltChanges.{CanApply-push, one_can_apply}
use Rattle.gaf_work.specs.Opening.{opening, head, sheet_name, symbol_name, two_pins}

-- the change that opens the project
pub opening_can_apply : CanApply opening
opening_can_apply =
    let symbol : Thing = things.SymbolName symbol_name in
    let sheet : Thing = things.SheetName sheet_name in
    let first : Item = (symbol, Some (values.Symbol two_pins)) in
    CanApply-push (first ∷ []) sheet (Some (values.Head head)) (one_can_apply symbol (Some (values.Symbol two_pins)) tt)
    (All-cons (λ (item : Item). item.0 ≢ sheet) first [] (λ e. absurd cc) (All-nil _)) tt
