-- The packages of a project: all listed parts with one printed refdes are one (own).
use Rattle.std.specs.Prelude.{ℕ, cond, List, Option, None, map}
use Rattle.std.specs.List.{filter_map, slice_get}
use Rattle.std.specs.Str.{bytes_eq}
use Rattle.project_model.specs.Projects.{ProjectData}
use Rattle.net_list.specs.declared.package.Package.{Package}
use Rattle.flat_sheets.specs.ListedParts.{listed_parts}
use Rattle.geda_defs.specs.Order.{by_bytes, once_in_order}

-- an attribute of a part, if the part has this refdes
abbrev pub attr_in_package :
    List ℕ → (Package → Option (List ℕ)) → Package → Option (List ℕ)
attr_in_package refdes attribute part = cond (bytes_eq part.refdes refdes) (attribute part) None

-- the attribute of the first part of the package that has it
abbrev pub package_attr :
    List Package → List ℕ → (Package → Option (List ℕ)) → Option (List ℕ)
package_attr parts refdes attribute =
    slice_get (filter_map (attr_in_package refdes attribute) parts) 0

-- the package of a refdes
abbrev pub package_of : List Package → List ℕ → Package
package_of parts refdes = record {
  refdes = refdes;
  device = package_attr parts refdes (λ part. part.device);
  value = package_attr parts refdes (λ part. part.value);
  footprint = package_attr parts refdes (λ part. part.footprint);
}

-- one package for each refdes, in order of bytes
abbrev pub packages_by : List Package → List Package
packages_by parts =
    map (package_of parts) (once_in_order by_bytes (map (λ part. part.refdes) parts))

-- the packages of a project
abbrev pub packages_of : ProjectData → List Package
packages_of p = packages_by (listed_parts p)
