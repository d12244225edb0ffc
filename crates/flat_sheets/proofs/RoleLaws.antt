-- The role of a component and its package, by its first values.
use Rattle.std.proofs.Common.{◌≡◌, ◌∙◌, ℕ, List, Option, None, Some, refl, ap}
use Rattle.geda_model.specs.declared.object.Body.TheVariants as bodies
use Rattle.geda_model.specs.Shapes.{ComponentData}
use Rattle.geda_model.specs.Sheets.{ObjectData, SymbolData}
use Rattle.project_model.specs.Projects.{ProjectData}
use Rattle.attr_rules.specs.Components.{has_sources, if_line, is_annotation, is_directive, refdes_of}
use Rattle.attr_rules.specs.FirstValues.{ValuesData, values_of}
use Rattle.attr_rules.proofs.ValueLaws.{annotation_is, directive_is, refdes_is, sources_is}
use Rattle.instance_objects.specs.Occurrences.{FlatObject}
use Rattle.flat_sheets.specs.Conductors.{role_of}
use Rattle.flat_sheets.specs.ListedParts.{package_under}
use Rattle.flat_sheets.specs.steps.RoleValues.{Said, package_by, role_by, role_said, said_by}

-- what a component says of itself
abbrev said_of : ObjectData → Option SymbolData → Said
said_of o library = record {
  annotation = is_annotation o library;
  sources = has_sources o library;
  directive = is_directive o library;
}

-- its role, by what it says of itself
role_is : (p : ProjectData) (f : FlatObject) (library : Option SymbolData) → role_said p f.instance (said_of f.object library) (refdes_of f.object library) ≡ role_of p f library
role_is p f library = by (refdes_of f.object library) refl
  where
    by : (refdes : Option (List ℕ)) → refdes_of f.object library ≡ refdes → role_said p f.instance (said_of f.object library) (refdes_of f.object library) ≡ role_of p f library
    by None e = rw e refl
    by (Some refdes) e = rw e refl

-- what its first values say of it
said_is : (o : ObjectData) (library : Option SymbolData) (c : ComponentData) → o.body ≡ bodies.Component c → said_by (values_of o library) ≡ said_of o library
said_is o library c body =
    let annotation = annotation_is o library c body in
    let sources = sources_is o library c body in
    let directive = directive_is o library c body in
    λ i. record { annotation = annotation i; sources = sources i; directive = directive i }

-- its role, by its first values
pub role_by-is : (p : ProjectData) (f : FlatObject) (library : Option SymbolData) (c : ComponentData) → f.object.body ≡ bodies.Component c
    → (v : ValuesData) → v ≡ values_of f.object library → role_by p f v ≡ role_of p f library
role_by-is p f library c body v is =
    let o = f.object in
    let refdes = if_line ((values_of o library).refdes) in
    ap (role_by p f) is
    ∙ ap (λ (said : Said). role_said p f.instance said refdes) (said_is o library c body)
    ∙ ap (role_said p f.instance (said_of o library)) (refdes_is o library)
    ∙ role_is p f library

-- and what it says of its package
pub package_by-is : (o : ObjectData) (library : Option SymbolData) (v : ValuesData) → v ≡ values_of o library
    → (refdes : Option (List ℕ)) → package_by v refdes ≡ package_under o library refdes
unfolding values_of
package_by-is o library v is None = refl
package_by-is o library v is (Some refdes) = rw is refl
