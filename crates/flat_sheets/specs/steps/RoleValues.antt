-- Steps of the code; no public clause cites them.
-- What a component is in an instance, by its first values.
use Rattle.std.specs.Prelude.{ℕ, Bool, ◌||◌, ◌&&◌, not, if◌then◌else◌, List, Option, Some, None}
use Rattle.project_model.specs.Projects.{ProjectData}
use Rattle.attr_rules.specs.Components.{if_line}
use Rattle.attr_rules.specs.FirstValues.{ValuesData, says_annotation, says_directive, says_sources}
use Rattle.hierarchy.specs.declared.instances.Instance.{Instance}
use Rattle.instance_objects.specs.Occurrences.{FlatObject}
use Rattle.instance_objects.specs.Ports.{component_above, is_port}
use Rattle.instance_objects.specs.Texts.{under}
use Rattle.net_list.specs.declared.package.Package.{Package}
use Rattle.flat_sheets.specs.Conductors.{RoleData}
use Rattle.flat_sheets.specs.Ports.{pins_at}

-- what is said of a component: whether it is an annotation, has sheets below, and is a directive
pub record Said : Type 0 where
  pub annotation : Bool
  pub sources : Bool
  pub directive : Bool

-- one of which this is said, and which has this refdes, is a port of the instance
abbrev pub is_port_by : ProjectData → Instance → Said → List ℕ → Bool
is_port_by p i said refdes = not said.directive && is_port p i refdes

-- its role
abbrev pub role_said : ProjectData → Instance → Said → Option (List ℕ) → RoleData
role_said p i said None = record {
  refdes = None;
  leads_down = said.sources;
  leads_up = None;
  directive = said.directive;
}
role_said p i said (Some refdes) = record {
  refdes =
      if (said.annotation || said.sources) || is_port_by p i said refdes then None
      else Some (under i.path refdes);
  leads_down = said.sources;
  leads_up =
      if is_port_by p i said refdes then pins_at i.parent (component_above i) refdes else None;
  directive = said.directive;
}

-- what first values say
abbrev pub said_by : ValuesData → Said
said_by v = record {
  annotation = says_annotation v;
  sources = says_sources v;
  directive = says_directive v;
}

-- the role of a component with these first values
abbrev pub role_by : ProjectData → FlatObject → ValuesData → RoleData
role_by p f v = role_said p f.instance (said_by v) (if_line v.refdes)

-- what it says of its package, if it is listed under a printed refdes
abbrev pub package_by : ValuesData → Option (List ℕ) → Option Package
package_by v None = None
package_by v (Some refdes) = Some (record {
  refdes = refdes;
  device = v.device;
  value = v.value;
  footprint = v.footprint;
})
