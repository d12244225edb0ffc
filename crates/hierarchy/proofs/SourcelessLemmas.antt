-- Components without a `source`.
use Rattle.std.proofs.Common.{◌≡◌, ◌∙◌, ℕ, Bool, true, false, List, Option, None, Some, refl, ap, sym}
use Rattle.std.specs.Prelude.{◌&&◌, codes, is_some, not}
use Rattle.std.specs.List.{filter_map}
use Rattle.geda_model.specs.declared.object.Body.TheVariants as bodies
use Rattle.geda_model.specs.Shapes.{ComponentData}
use Rattle.geda_model.specs.Sheets.{ObjectData, SymbolData}
use Rattle.attr_rules.specs.Attributes.{attr, free_text, parts_of}
use Rattle.attr_rules.specs.Components.{has_sources}
use Rattle.attr_rules.specs.FirstValues.{ValuesData, first_named, first_values, says_annotation, says_sources, values_of}
use Rattle.attr_rules.proofs.ValueLaws.{attr_is, sources_is}
use Rattle.hierarchy.specs.steps.MetSymbols.{source_in}

none_from : {A : Type 0} (o : Option A) → is_some o ≡ false → o ≡ None
none_from None e = refl
none_from (Some x) e = absurd (let h : true ≡ false = e in cc)

of_not : (b : Bool) → not b ≡ true → b ≡ false
of_not false e = refl
of_not true e = absurd (let h : false ≡ true = e in cc)

-- what a component inherits from a symbol that is not embedded
inherited_source : (o : ObjectData) (symbol : Option SymbolData) (c : ComponentData) → o.body ≡ bodies.Component c → c.embedded ≡ None
    → first_named (filter_map free_text (parts_of o symbol)) (codes "source") ≡ source_in symbol
unfolding first_values
inherited_source o None c body alone = rw (body, alone) refl
inherited_source o (Some symbol) c body alone = rw (body, alone) refl

-- values without a `source` say that there are no sheets below
no_source_said : (v : ValuesData) → v.source ≡ None → says_sources v ≡ false
no_source_said v e = ap (λ (s : Option (List ℕ)). is_some s && not (says_annotation v)) e

values_source : (o : ObjectData) (library : Option SymbolData) → (values_of o library).source ≡ attr o library (codes "source")
unfolding values_of
values_source o library = refl

-- where neither its symbol nor its own texts have one, it has none
pub no_sources : (o : ObjectData) (symbol : Option SymbolData) (c : ComponentData) (free attached : Bool) → o.body ≡ bodies.Component c → c.embedded ≡ None
    → free ≡ is_some (source_in symbol) → free ≡ false → attached ≡ is_some (first_named o.attrs (codes "source")) → not attached ≡ true → has_sources o symbol ≡ false
no_sources o symbol c free attached body alone free_is no_free attached_is no_attached =
    let inherited : source_in symbol ≡ None = none_from (source_in symbol) (sym free_is ∙ no_free) in
    let own : first_named o.attrs (codes "source") ≡ None = none_from (first_named o.attrs (codes "source")) (sym attached_is ∙ of_not attached no_attached) in
    let value : attr o symbol (codes "source") ≡ None = attr_is o symbol (codes "source") ∙ rw (own, inherited_source o symbol c body alone, inherited) refl in
    sym (sources_is o symbol c body) ∙ no_source_said (values_of o symbol) (values_source o symbol ∙ value)
