-- The parts that a net list has (own).
use Rattle.std.specs.Prelude.{ℕ, ◌||◌, if◌then◌else◌, Bool, List, Option, None, Some, codes}
use Rattle.std.specs.List.{filter_map}
use Rattle.geda_model.specs.declared.object.Body.{Body}
use Rattle.geda_model.specs.declared.object.Body.TheVariants as bodies
use Rattle.geda_model.specs.Sheets.{ObjectData, SymbolData}
use Rattle.project_model.specs.Projects.{ProjectData}
use Rattle.attr_rules.specs.Attributes.{attr}
use Rattle.attr_rules.specs.Libraries.{library_of}
use Rattle.attr_rules.specs.Components.{has_sources, is_annotation, refdes_of}
use Rattle.hierarchy.specs.declared.instances.Instance.{Instance}
use Rattle.instance_objects.specs.Occurrences.{FlatObject, flat_objects}
use Rattle.instance_objects.specs.Texts.{under}
use Rattle.net_list.specs.declared.package.Package.{Package}
use Rattle.flat_sheets.specs.Ports.{stands_as_port}

-- a component that is no part, whatever its refdes: it is graphical or a directive, or has sheets
-- below
abbrev pub is_no_part : ObjectData → Option SymbolData → Bool
is_no_part o library = is_annotation o library || has_sources o library

-- the printed refdes of a component with a library symbol that has this refdes: it is listed where
-- it has one, is neither graphical nor a directive, has no sheets below, and is no port
abbrev pub printed_refdes :
    ProjectData → Instance → ObjectData → Option SymbolData → Option (List ℕ) → Option (List ℕ)
printed_refdes p i o library None = None
printed_refdes p i o library (Some refdes) =
    if is_no_part o library || stands_as_port p i o library refdes then None
    else Some (under i.path refdes)

-- the same of one that has its own refdes
abbrev pub refdes_in : ProjectData → Instance → ObjectData → Option SymbolData → Option (List ℕ)
refdes_in p i o library = printed_refdes p i o library (refdes_of o library)

-- the printed refdes of an object, if it is a listed part
abbrev pub listed_refdes : ProjectData → FlatObject → Option (List ℕ)
listed_refdes p f = of_body f.object.body
  where
    of_body : Body → Option (List ℕ)
    of_body (bodies.Shape s) = None
    of_body (bodies.Component c) = refdes_in p f.instance f.object (library_of p f.object)

-- what a component under a printed refdes says of its package
abbrev pub package_under : ObjectData → Option SymbolData → Option (List ℕ) → Option Package
package_under o library None = None
package_under o library (Some refdes) = Some (record {
  refdes = refdes;
  device = attr o library (codes "device");
  value = attr o library (codes "value");
  footprint = attr o library (codes "footprint");
})

-- what an object says of its package, if it is a listed part
abbrev pub listed_part : ProjectData → FlatObject → Option Package
listed_part p f = package_under f.object (library_of p f.object) (listed_refdes p f)

-- the listed parts of a project, by route and then by id
abbrev pub listed_parts : ProjectData → List Package
listed_parts p = filter_map (listed_part p) (flat_objects p)
