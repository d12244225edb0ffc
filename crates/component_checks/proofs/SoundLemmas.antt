-- Library symbols with whose values nothing is at fault.
use Rattle.std.proofs.Common.{◌≡◌, ◌∙◌, ◌≢◌, ℕ, List, [], ◌∷◌, Bool, true, false, ◌||◌, Option, None, Some, ap, refl, sym, subst, length}
use Rattle.std.specs.Prelude.{codes}
use Rattle.std.specs.HashSet as hash
use Rattle.std.specs.List.{slice_get}
use Rattle.std.specs.Ordering.{eq_by_cmp}
use Rattle.geda_model.specs.declared.object.Body.TheVariants as bodies
use Rattle.geda_model.specs.Shapes.{ComponentData}
use Rattle.geda_model.specs.Sheets.{ObjectData, SymbolData}
use Rattle.project_model.specs.Projects.{ProjectData}
use Rattle.attr_rules.specs.Attributes.{all_attrs, attached, attr, attrs, parts_of}
use Rattle.attr_rules.specs.FirstValues.{ValuesData, first_named, first_values, values_of}
use Rattle.attr_rules.specs.Libraries.{symbol_named}
use Rattle.pin_place.specs.Plans.{IsPlain, SayPlain, library_parts, library_values}
use Rattle.pin_place.proofs.PlanLaws.{parts_of-library, plain_from}
use Rattle.text_tallies.specs.PairSets.{PairData, by_pair, same_pair}
use Rattle.text_tallies.specs.steps.KeySteps.{is_seen}
use Rattle.text_tallies.proofs.KeyLemmas.{pair_adds}
use Rattle.text_tallies.proofs.PairLemmas.{or_false}
use Rattle.text_tallies.proofs.SetLemmas.{pair_exact}
use Rattle.component_checks.specs.CheckedComponents.{slot_fault}
use Rattle.component_checks.specs.declared.value_faults.ValueFaults.{ValueFaults}
use Rattle.component_checks.specs.steps.SoundSymbols.{AreSound, HasFaults, IsKey, IsSound, faults_of, no_faults, slot_in, symbol_fault, symbol_faults}

-- the key of a value of `slot` that is not empty
pub filled_key : (name slot : List ℕ) → length slot ≢ 0 → IsKey name (Some slot) (record { first = name; second = slot })
filled_key name [] filled = absurd (filled refl)
filled_key name (b ∷ bs) filled = record { names = refl; slots = refl }

-- no first value, so no value
no_values : (values : List (List ℕ)) → slice_get values 0 ≡ None → values ≡ []
no_values [] e = refl
no_values (v ∷ vs) e = absurd (let h = e in cc)

module _ (o : ObjectData) (library : Option SymbolData) (parts : parts_of o library ≡ library_parts library) where
  -- the values of a name that is not attached are those of the symbol
  attrs_are : (name : List ℕ) → first_named o.attrs name ≡ None → attrs o library name ≡ library_values library name
  unfolding attrs
  attrs_are name none = rw (no_values (attached o name) none, parts) refl

  attr_is : (name : List ℕ) → first_named o.attrs name ≡ None → attr o library name ≡ slice_get (library_values library name) 0
  unfolding attr
  attr_is name none = ap (λ (values : List (List ℕ)). slice_get values 0) (attrs_are name none)

  all_are : (name : List ℕ) → first_named o.attrs name ≡ None → all_attrs o library name ≡ library_values library name
  unfolding all_attrs
  all_are name none = rw (no_values (attached o name) none, parts) refl

  fault_is : IsPlain o library → (slot : Option (List ℕ)) → slot_fault o library slot ≡ symbol_fault library slot
  fault_is plain None = refl
  fault_is plain (Some slot) = rw (attr_is (codes "numslots") plain.numslots, attrs_are (codes "slotdef") plain.slotdef) refl

  -- so its faults are the symbol's
  faults_are : IsPlain o library → (slot : Option (List ℕ)) → faults_of o library slot ≡ symbol_faults library slot
  faults_are plain slot = rw (all_are (codes "net") plain.net, fault_is plain slot) refl

-- so it is with a component whose first values say that it is plain
pub faults_by : (o : ObjectData) (library : Option SymbolData) (c : ComponentData) → o.body ≡ bodies.Component c → c.embedded ≡ None
    → (own v : ValuesData) → own ≡ first_values o.attrs → v ≡ values_of o library → SayPlain own v
    → (slot : Option (List ℕ)) → faults_of o library slot ≡ symbol_faults library slot
faults_by o library c body alone own v own_is is says slot =
    faults_are o library (parts_of-library o library c body alone)
    (plain_from o library c body (subst (λ (x : ValuesData). SayPlain x (values_of o library)) own_is (subst (λ (x : ValuesData). SayPlain own x) is says))) slot

-- the symbol of a plain component with which nothing is at fault
pub sound_by : (p : ProjectData) (o : ObjectData) (c : ComponentData) (own v : ValuesData) (faults : ValueFaults) → HasFaults p o c v faults
    → c.embedded ≡ None → own ≡ first_values o.attrs → SayPlain own v → faults ≡ no_faults → IsSound p c.basename v.slot
sound_by p o c own v faults has alone own_is says none =
    sym (faults_by o (symbol_named p c.basename) c has.body alone own v own_is has.values says v.slot) ∙ (sym has.found ∙ none)

-- what a key says of a symbol
pub sound_at : (p : ProjectData) (name : List ℕ) (slot : Option (List ℕ)) (key : PairData) → IsKey name slot key
    → IsSound p key.first (slot_in key.second) → IsSound p name slot
sound_at p name slot key is sound =
    subst (λ (n : List ℕ). IsSound p n slot) is.names (subst (λ (s : Option (List ℕ)). IsSound p key.first s) is.slots sound)

sound_key : (p : ProjectData) (name : List ℕ) (slot : Option (List ℕ)) (key : PairData) → IsKey name slot key
    → IsSound p name slot → IsSound p key.first (slot_in key.second)
sound_key p name slot key is sound =
    subst (λ (n : List ℕ). IsSound p n (slot_in key.second)) (sym is.names) (subst (λ (s : Option (List ℕ)). IsSound p name s) (sym is.slots) sound)

module _ {S : Type 0} where
  -- one more
  pub sound_more : (p : ProjectData) (name : List ℕ) (slot : Option (List ℕ)) (key : PairData) (old new : hash.HashSet PairData S)
      → IsKey name slot key → hash.Updates (eq_by_cmp by_pair) old new key true → IsSound p name slot → AreSound p old → AreSound p new
  sound_more p name slot key old new is updates sound are = λ q seen. go q (same_pair q key) refl (sym (pair_adds key old new updates q) ∙ seen)
    where
      go : (q : PairData) (b : Bool) → same_pair q key ≡ b → (is_seen old q || b) ≡ true → IsSound p q.first (slot_in q.second)
      go q true e h = subst (λ (k : PairData). IsSound p k.first (slot_in k.second)) (sym (pair_exact q key e)) (sound_key p name slot key is sound)
      go q false e h = are q (sym (or_false (is_seen old q)) ∙ h)
