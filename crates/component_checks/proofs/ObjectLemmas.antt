-- The components among the objects that stand there are those of the project.
use Rattle.std.proofs.Common.{◌≡◌, List, refl, subst}
use Rattle.std.specs.List.{filter_map}
use Rattle.geda_model.specs.declared.object.Body.TheVariants as bodies
use Rattle.geda_model.specs.Shapes.{ComponentData}
use Rattle.project_model.specs.Projects.{ProjectData}
use Rattle.attr_rules.specs.Libraries.{library_of}
use Rattle.instance_objects.specs.Occurrences.{FlatObject, OccurrenceData, object_at}
use Rattle.instance_objects.proofs.FlatObjects.{with_body-same}
use Rattle.component_checks.specs.CheckedComponents.{checked_component, checked_object}
use Rattle.component_checks.specs.steps.CheckedObjects.{checked_at, checked_if}
use Rattle.component_checks.proofs.ListLemmas.{filter_map-twice}

-- an object that is this component
pub checked_object-component : (p : ProjectData) (f : FlatObject) (c : ComponentData)
    → f.object.body ≡ bodies.Component c → checked_component p f c (library_of p f.object) ≡ checked_object p f
checked_object-component p f c e =
    subst (λ (x : FlatObject). checked_component p x c (library_of p x.object) ≡ checked_object p x) (with_body-same f (bodies.Component c) e) refl

-- all of them
pub checked_at-are : (p : ProjectData) (os : List OccurrenceData)
    → filter_map (checked_at p) os ≡ filter_map (checked_object p) (filter_map (object_at p) os)
checked_at-are p os = filter_map-twice (object_at p) (checked_object p) (checked_if p) refl (λ f. refl) os
