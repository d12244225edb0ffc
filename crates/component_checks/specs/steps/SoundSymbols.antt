-- Steps of the code; no public clause cites them.
-- What is at fault with the values of components, and library symbols with which nothing is.
use Rattle.std.specs.Prelude.{◌≡◌, ℕ, true, false, List, [], ◌∷◌, Option, Some, None, codes}
use Rattle.std.specs.HashSet.{HashSet}
use Rattle.std.specs.List.{list_any, slice_get}
use Rattle.geda_model.specs.declared.object.Body.TheVariants as bodies
use Rattle.geda_model.specs.Shapes.{ComponentData}
use Rattle.geda_model.specs.Sheets.{ObjectData, SymbolData}
use Rattle.project_model.specs.Projects.{ProjectData}
use Rattle.attr_rules.specs.Attributes.{all_attrs}
use Rattle.attr_rules.specs.FirstValues.{ValuesData, values_of}
use Rattle.attr_rules.specs.Libraries.{symbol_named}
use Rattle.attr_rules.specs.Slots.{slot_pins}
use Rattle.attr_rules.specs.declared.slots.SlotFault.{SlotFault}
use Rattle.pin_place.specs.Plans.{library_values}
use Rattle.text_tallies.specs.PairSets.{PairData}
use Rattle.text_tallies.specs.steps.KeySteps.{is_seen}
use Rattle.component_checks.specs.CheckedComponents.{is_bad_net, slot_fault, slot_fault_of}
use Rattle.component_checks.specs.declared.value_faults.ValueFaults.{ValueFaults}

-- what is at fault with the values of a component under a value of `slot`
abbrev pub faults_of : ObjectData → Option SymbolData → Option (List ℕ) → ValueFaults
faults_of o library slot = record {
  bad_net = list_any is_bad_net (all_attrs o library (codes "net"));
  slot = slot_fault o library slot;
}

-- nothing
abbrev pub no_faults : ValueFaults
no_faults = record { bad_net = false; slot = None }

-- why a library symbol gives no pin numbers under a value of `slot`
abbrev pub symbol_fault : Option SymbolData → Option (List ℕ) → Option SlotFault
symbol_fault library None = None
symbol_fault library (Some slot) = slot_fault_of
    (slot_pins slot (slice_get (library_values library (codes "numslots")) 0)
    (library_values library (codes "slotdef")))

-- what is at fault with the values of a library symbol under a value of `slot`
abbrev pub symbol_faults : Option SymbolData → Option (List ℕ) → ValueFaults
symbol_faults library slot = record {
  bad_net = list_any is_bad_net (library_values library (codes "net"));
  slot = symbol_fault library slot;
}

-- the slot in a key: an empty one stands for none
abbrev pub slot_in : List ℕ → Option (List ℕ)
slot_in [] = None
slot_in (b ∷ bs) = Some (b ∷ bs)

-- the key of a symbol of this name under this value of `slot`
pub record IsKey (name : List ℕ) (slot : Option (List ℕ)) (key : PairData) : Type 0 where
  pub names : key.first ≡ name
  pub slots : slot_in key.second ≡ slot

-- the object is this component, whose symbol has its basename as name; it has these first values
-- and these faults
pub record HasFaults (p : ProjectData) (o : ObjectData) (c : ComponentData) (v : ValuesData)
    (faults : ValueFaults) : Type 0 where
  pub body : o.body ≡ bodies.Component c
  pub values : v ≡ values_of o (symbol_named p c.basename)
  pub found : faults ≡ faults_of o (symbol_named p c.basename) v.slot

-- nothing is at fault with a symbol of this project under a value of `slot`
abbrev pub IsSound : ProjectData → List ℕ → Option (List ℕ) → Type 0
IsSound p name slot = symbol_faults (symbol_named p name) slot ≡ no_faults

module _ {S : Type 0} where
  -- so it is with the symbols of these keys
  abbrev pub AreSound : ProjectData → HashSet PairData S → Type 0
  AreSound p keys = (q : PairData) → is_seen keys q ≡ true → IsSound p q.first (slot_in q.second)
