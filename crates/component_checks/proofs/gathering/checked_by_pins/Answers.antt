use Rattle.std.proofs.Common.{◌≡◌, ◌∙◌, true, false, Option, Some, ap, refl, sym, option_copied}
use Rattle.geda_model.specs.declared.object.Body.TheVariants as bodies
use Rattle.geda_model.specs.Sheets.{ObjectData, SymbolData}
use Rattle.project_model.specs.Projects.{ProjectData}
use Rattle.attr_rules.specs.Components.{is_annotation}
use Rattle.attr_rules.specs.FirstValues.{values_of}
use Rattle.attr_rules.specs.Libraries.{library_of, symbol_named}
use Rattle.pin_place.specs.Pins.{pins_of}
use Rattle.component_checks.specs.steps.CheckedValues.{checked_by}
use Rattle.component_checks.specs.steps.SoundSymbols.{faults_of}
use Rattle.component_checks.specs.steps.ToldPins.{drawn_of}
use Rattle.symbol_tables.proofs.TableLemmas.{library_is}
use Rattle.component_checks.proofs.ValueLemmas.{annotation_by, checked_by-is}
use Rattle.component_checks.proofs.gathering.checked_by_pins.Goals as goal

pub returns-then-is_annotation-clause-made : goal.returns-then-is_annotation-clause-made
returns-then-is_annotation-clause-made c =
    let p = c.args.found.now.project in
    let o = c.args.found.now.flat.object in
    let v = c.in_ok-values.values in
    let is : v ≡ values_of o (library_of p o) = c.in_ok-values.ensures.values
    ∙ ap (λ (o : ObjectData). values_of o (library_of c.args.tables.now o)) c.object-object.ensures
    ∙ ap (λ (q : ProjectData). values_of o (library_of q o)) c.requires.same in
    let yes : is_annotation o (library_of p o) ≡ true = sym (annotation_by o (library_of p o) v is c.args.component.now c.requires.body) ∙ sym c.if-is_annotation.ensures in
    rw yes refl

pub of-requires : goal.of-requires
of-requires c = c.in_ok-all.ensures.pins ∙ ap (pins_of c.object-object.result.now) (sym c.in_ok-library.ensures)

pub returns-clause-made : goal.returns-clause-made
returns-clause-made c =
    let p = c.args.found.now.project in
    let f = c.args.found.now.flat in
    let o = f.object in
    let v = c.in_ok-values.values in
    let kept = c.in_ok-values.ensures.kept ∙ c.requires.same in
    let is : v ≡ values_of o (library_of p o) = c.in_ok-values.ensures.values
    ∙ ap (λ (o : ObjectData). values_of o (library_of c.args.tables.now o)) c.object-object.ensures
    ∙ ap (λ (q : ProjectData). values_of o (library_of q o)) c.requires.same in
    let none : is_annotation o (library_of p o) ≡ false = sym (annotation_by o (library_of p o) v is c.args.component.now c.requires.body) ∙ sym c.if-is_annotation.ensures in
    let library : option_copied c.in_ok-library.library ≡ library_of p o = c.in_ok-library.ensures
    ∙ ap (library_of c.values_of.new.self) c.object-object.ensures
    ∙ ap (λ (q : ProjectData). library_of q o) kept in
    let pins = c.in_ok-pins.pins in
    let drawn : pins ≡ drawn_of o (library_of p o) = c.in_ok-pins.ensures
    ∙ ap (λ (o : ObjectData). drawn_of o (option_copied c.in_ok-library.library)) c.object-object.ensures
    ∙ ap (drawn_of o) library in
    let faults = c.in_ok-faults.faults in
    let found : faults ≡ faults_of o (library_of p o) v.slot = c.in_ok-faults.ensures (λ sure. absurd (let h = sure in cc))
    ∙ ap (λ (o : ObjectData). faults_of o (option_copied c.in_ok-library.library) v.slot) c.object-object.ensures
    ∙ ap (λ (l : Option SymbolData). faults_of o l v.slot) library in
    rw none (ap Some (
    c.in_ok-made.ensures
    ∙ ap (λ (l : Option SymbolData). checked_by p f c.args.component.now l v faults pins) library
    ∙ checked_by-is p f (library_of p o) c.args.component.now c.requires.body v is faults found pins drawn
    ))

pub returns-clause-sound : goal.returns-clause-sound
returns-clause-sound c =
    let p = c.args.found.now.project in
    let o = c.args.found.now.flat.object in
    let component = c.args.component.now in
    let v = c.in_ok-values.values in
    let lent = c.object-object.result.now in
    let kept = c.in_ok-values.ensures.kept ∙ c.requires.same in
    let body : lent.body ≡ bodies.Component component = ap (λ (o : ObjectData). o.body) c.object-object.ensures ∙ c.requires.body in
    let named = library_is p lent component body in
    let library : option_copied c.in_ok-library.library ≡ symbol_named p component.basename = c.in_ok-library.ensures
    ∙ ap (λ (q : ProjectData). library_of q lent) kept ∙ named in
    c.in_ok-take_in.ensures p (record {
      body = body;
      values = c.in_ok-values.ensures.values ∙ ap (λ (q : ProjectData). values_of lent (library_of q lent)) c.requires.same ∙ ap (values_of lent) named;
      found = c.in_ok-faults.ensures (λ sure. absurd (let h = sure in cc)) ∙ ap (λ (l : Option SymbolData). faults_of lent l v.slot) library;
    }) c.requires.sound
