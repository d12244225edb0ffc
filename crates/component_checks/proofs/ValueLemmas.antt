-- What a component is to the check, by its first values.
use Rattle.std.proofs.Common.{◌≡◌, ◌∙◌, ℕ, false, List, [], ◌∷◌, ◌++◌, Option, None, Some, refl, ap, sym}
use Rattle.std.specs.Prelude.{All, codes}
use Rattle.std.specs.List.{list_any, slice_get}
use Rattle.geda_model.specs.declared.object.Body.TheVariants as bodies
use Rattle.geda_model.specs.Names.{IsLineByte}
use Rattle.geda_model.specs.Shapes.{ComponentData}
use Rattle.geda_model.specs.Sheets.{ObjectData, SymbolData}
use Rattle.project_model.specs.Projects.{ProjectData}
use Rattle.attr_rules.specs.Attributes.{all_attrs, attached, attr, attrs, inherited, or_else}
use Rattle.attr_rules.specs.Components.{if_line, is_annotation}
use Rattle.attr_rules.specs.FirstValues.{ValuesData, says_annotation, values_of}
use Rattle.attr_rules.proofs.ValueLaws.{annotation_is, refdes_is, sources_is}
use Rattle.hierarchy.proofs.TextLemmas.{refdes_bytes}
use Rattle.pin_place.specs.declared.pins.PlacedPin.{PlacedPin}
use Rattle.pin_place.specs.Plans.{SayPlain}
use Rattle.instance_objects.specs.Occurrences.{FlatObject}
use Rattle.component_checks.specs.CheckedComponents.{checked_with, is_bad_net}
use Rattle.component_checks.specs.declared.value_faults.ValueFaults.{ValueFaults}
use Rattle.component_checks.specs.steps.CheckedValues.{checked_by}
use Rattle.component_checks.specs.steps.SoundSymbols.{faults_of}
use Rattle.component_checks.specs.steps.ToldPins.{drawn_of}

-- no first value, attached or inherited, so none at all
none_at_all : (own others : List (List ℕ)) → slice_get (or_else own others) 0 ≡ None → own ++ others ≡ []
none_at_all [] [] e = refl
none_at_all [] (v ∷ vs) e = absurd (let h = e in cc)
none_at_all (v ∷ vs) others e = absurd (let h = e in cc)

-- so none is bad
pub no_bad_net : (o : ObjectData) (library : Option SymbolData) → attr o library (codes "net") ≡ None → list_any is_bad_net (all_attrs o library (codes "net")) ≡ false
unfolding attr attrs all_attrs
no_bad_net o library none = rw (none_at_all (attached o (codes "net")) (inherited o library (codes "net")) none) refl

module _ (o : ObjectData) (library : Option SymbolData) (v : ValuesData) (is : v ≡ values_of o library) where
  -- a refdes has no LF
  pub line_bytes : (text : List ℕ) → Some text ≡ if_line v.refdes → All IsLineByte text
  line_bytes text e = refdes_bytes o library text (e ∙ ap (λ (v : ValuesData). if_line v.refdes) is ∙ refdes_is o library)

  pub net_is : v.net ≡ attr o library (codes "net")
  unfolding values_of
  net_is = ap (λ (v : ValuesData). v.net) is

  -- an annotation
  pub annotation_by : (c : ComponentData) → o.body ≡ bodies.Component c → says_annotation v ≡ is_annotation o library
  annotation_by c body = ap says_annotation is ∙ annotation_is o library c body

  -- none is plain
  pub no_annotation : (c : ComponentData) → o.body ≡ bodies.Component c → (own : ValuesData) → SayPlain own v → is_annotation o library ≡ false
  no_annotation c body own says = sym (annotation_by c body) ∙ rw (says.graphical, says.directive) refl

-- a component, as the check sees it
pub checked_by-is : (p : ProjectData) (f : FlatObject) (library : Option SymbolData) (c : ComponentData) → f.object.body ≡ bodies.Component c
    → (v : ValuesData) → v ≡ values_of f.object library → (faults : ValueFaults) → faults ≡ faults_of f.object library v.slot
    → (pins : List PlacedPin) → pins ≡ drawn_of f.object library
    → checked_by p f c library v faults pins ≡ checked_with p f.instance f.id f.object c library
unfolding values_of
checked_by-is p f library c body v is faults faults_are pins pins_are =
    rw (faults_are, is, sources_is f.object library c body, refdes_is f.object library, pins_are) refl
