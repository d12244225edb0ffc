-- An object of a project in an instance of its sheet (own).
use Rattle.project_model.specs.Projects.{ProjectData}
use Rattle.instance_objects.specs.Occurrences.{FlatObject}

-- the project, and the object with its instance
pub record InstanceObjectData : Type 0 where
  pub project : ProjectData
  pub flat : FlatObject
