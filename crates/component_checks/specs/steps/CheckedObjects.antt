-- Steps of the code; no public clause cites them.
-- What each object of a project is to the check.
use Rattle.std.specs.Prelude.{Option, Some, None}
use Rattle.project_model.specs.Projects.{ProjectData}
use Rattle.instance_objects.specs.Occurrences.{FlatObject, OccurrenceData, object_at}
use Rattle.component_checks.specs.CheckedComponents.{CheckedData, checked_object}

-- an object that may be there, as the check sees it
abbrev pub checked_if : ProjectData → Option FlatObject → Option CheckedData
checked_if p None = None
checked_if p (Some f) = checked_object p f

-- what stands there, as the check sees it
abbrev pub checked_at : ProjectData → OccurrenceData → Option CheckedData
checked_at p o = checked_if p (object_at p o)
