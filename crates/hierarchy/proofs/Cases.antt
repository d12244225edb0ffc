-- What the definitions say of small projects.
use Rattle.std.proofs.Common.{◌≡◌, ℕ, pos, true, false, List, [], ◌∷◌, Option, Some, None, refl, ap, ◌∙◌}
use Rattle.std.specs.Prelude.{T, codes, filter, filter_map, if◌then◌else◌, map, sum_by}
use Rattle.std.specs.FinMap.{entries, is_sorted, keys}
use Rattle.std.specs.Str.{chars}
use Rattle.std.specs.FinMap as finite
use Rattle.std.specs.Ordering.{nat_cmp}
use Rattle.std.specs.Cmp.Lexicographic.{slice_cmp}
use lib.Utf8.{encode}
use Rattle.project_model.specs.declared.change.Placed.{Placed}
use Rattle.geda_model.specs.declared.object.Body.TheVariants as bodies
use Rattle.geda_model.specs.Data.{TextData}
use Rattle.geda_model.specs.Sheets.{HeadData}
use Rattle.project_model.specs.Projects.{ProjectData, is_on}
use Rattle.attr_rules.specs.Splits.{split_of}
use Rattle.attr_rules.specs.Attributes.{attr, attrs}
use Rattle.attr_rules.specs.Components.{has_sources}
use Rattle.attr_rules.specs.Libraries.{library_of}
use Rattle.hierarchy.specs.declared.instances.Instance.{Instance}
use Rattle.hierarchy.specs.declared.lost.Lost.TheVariants.{MissingSource, SourceLoop, Unreached}
use Rattle.hierarchy.specs.SheetTable.{TableSheetData, component_with, object_weight, sheet_table}
use Rattle.hierarchy.specs.Lost.{lost}
use Rattle.hierarchy.specs.Instances.{instances, instances_of, lost_of}

abbrev text : List ℕ → TextData
text content = record { x = pos 0; y = pos 0; color = pos 5; size = pos 8; visible = 0; show = 0; angle = 0; align = 0; content = content }

-- a component with these attributes on a sheet
abbrev component : List ℕ → List TextData → Placed
component sheet attrs = record {
  sheet = sheet;
  object = record {
    body = bodies.Component (record { x = pos 0; y = pos 0; selectable = true; angle = 0; mirror = false; basename = codes "k"; embedded = Some [] });
    attrs = attrs;
  };
}

abbrev head : HeadData
head = record { date = 20200319; format = 2 }

abbrev sheets : List (List ℕ × HeadData)
sheets = (codes "low.sch", head) ∷ (codes "top.sch", head) ∷ []

-- two sheets, and these objects
abbrev project : List (ℕ × Placed) → ProjectData
project objects = record {
  sheets = finite.from_sorted {R = slice_cmp nat_cmp} sheets;
  objects = finite.from_sorted {R = nat_cmp} objects;
  symbols = finite.empty;
  next_id = 9;
}

-- the table of a project with these names and these rows
abbrev table_by : ProjectData → List (List ℕ) → List (ℕ × Placed) → List TableSheetData
table_by p names rows = map (λ name. record {
  name = name;
  components = filter_map (λ (row : ℕ × Placed).
      if has_sources row.1.object (library_of p row.1.object)
      then Some (component_with names row.0 row.1.object (library_of p row.1.object))
      else None) (filter (is_on name) rows);
  weight = sum_by (λ (row : ℕ × Placed). object_weight p row.1.object) (filter (is_on name) rows);
}) names

abbrev names : List (List ℕ)
names = codes "low.sch" ∷ codes "top.sch" ∷ []

table : (rows : List (ℕ × Placed)) → T (is_sorted nat_cmp rows) → sheet_table (project rows) ≡ table_by (project rows) names rows
table rows h =
    let p = project rows in
    let all : keys p.sheets ≡ names = ap (map (λ (e : List ℕ × HeadData). e.0)) (finite.entries-from_sorted (slice_cmp nat_cmp) sheets tt) in
    ap (λ (ns : List (List ℕ)). table_by p ns (entries p.objects)) all ∙ ap (table_by p names) (finite.entries-from_sorted nat_cmp rows h)

-- an instance
abbrev instance : List ℕ → List ℕ → List ℕ → Option ℕ → Instance
instance sheet path route parent = record { sheet = sheet; path = path; route = route; parent = parent }

-- two components over one sheet
abbrev two : List (ℕ × Placed)
two = (3, component (codes "top.sch") (text (codes "refdes=U1") ∷ text (codes "source=low.sch") ∷ []))
    ∷ (5, component (codes "top.sch") (text (codes "refdes=U2") ∷ text (codes "source=low.sch") ∷ text (codes "source=low.sch") ∷ [])) ∷ []

two_instances : instances_of (project two) ≡ instance (codes "top.sch") [] [] None
    ∷ instance (codes "low.sch") (codes "U1") (3 ∷ []) (Some 0) ∷ instance (codes "low.sch") (codes "U2") (5 ∷ []) (Some 0) ∷ []
unfolding attr attrs split_of chars encode
two_instances =
    let is : instances (table_by (project two) names two) ≡ instance (codes "top.sch") [] [] None ∷ instance (codes "low.sch") (codes "U1") (3 ∷ []) (Some 0) ∷ instance (codes "low.sch") (codes "U2") (5 ∷ []) (Some 0) ∷ [] = refl in
    ap instances (table two tt) ∙ is

two_lost : lost_of (project two) ≡ []
unfolding attr attrs split_of chars encode
two_lost =
    let is : lost (table_by (project two) names two) ≡ [] = refl in
    ap lost (table two tt) ∙ is

-- a component below names the sheet on which it stands
abbrev loop : List (ℕ × Placed)
loop = (0, component (codes "top.sch") (text (codes "refdes=U1") ∷ text (codes "source=low.sch") ∷ []))
    ∷ (1, component (codes "low.sch") (text (codes "refdes=V1") ∷ text (codes "source=low.sch") ∷ [])) ∷ []

loop_instances : instances_of (project loop) ≡ instance (codes "top.sch") [] [] None ∷ instance (codes "low.sch") (codes "U1") (0 ∷ []) (Some 0) ∷ []
unfolding attr attrs split_of chars encode
loop_instances =
    let is : instances (table_by (project loop) names loop) ≡ instance (codes "top.sch") [] [] None ∷ instance (codes "low.sch") (codes "U1") (0 ∷ []) (Some 0) ∷ [] = refl in
    ap instances (table loop tt) ∙ is

loop_lost : lost_of (project loop) ≡ SourceLoop (codes "U1/V1") (codes "low.sch") ∷ []
unfolding attr attrs split_of chars encode
loop_lost =
    let is : lost (table_by (project loop) names loop) ≡ SourceLoop (codes "U1/V1") (codes "low.sch") ∷ [] = refl in
    ap lost (table loop tt) ∙ is

-- a component without refdes over a sheet that is not there
abbrev missing : List (ℕ × Placed)
missing = (0, component (codes "low.sch") (text (codes "source=none.sch") ∷ [])) ∷ []

missing_instances : instances_of (project missing) ≡ instance (codes "low.sch") [] [] None ∷ instance (codes "top.sch") [] [] None ∷ []
unfolding attr attrs split_of chars encode
missing_instances =
    let is : instances (table_by (project missing) names missing) ≡ instance (codes "low.sch") [] [] None ∷ instance (codes "top.sch") [] [] None ∷ [] = refl in
    ap instances (table missing tt) ∙ is

missing_lost : lost_of (project missing) ≡ MissingSource (codes "low.sch") (codes "none.sch") ∷ []
unfolding attr attrs split_of chars encode
missing_lost =
    let is : lost (table_by (project missing) names missing) ≡ MissingSource (codes "low.sch") (codes "none.sch") ∷ [] = refl in
    ap lost (table missing tt) ∙ is

-- a component without refdes over a sheet leaves it without an instance
abbrev unnamed : List (ℕ × Placed)
unnamed = (0, component (codes "top.sch") (text (codes "source=low.sch") ∷ [])) ∷ []

unnamed_lost : lost_of (project unnamed) ≡ Unreached (codes "low.sch") ∷ []
unfolding attr attrs split_of chars encode
unnamed_lost =
    let is : lost (table_by (project unnamed) names unnamed) ≡ Unreached (codes "low.sch") ∷ [] = refl in
    ap lost (table unnamed tt) ∙ is

-- a graphical component has no sources: the sheet that it names stays a root
abbrev graphical : List (ℕ × Placed)
graphical = (0, component (codes "top.sch") (text (codes "graphical=1") ∷ text (codes "refdes=U1") ∷ text (codes "source=low.sch") ∷ [])) ∷ []

graphical_instances : instances_of (project graphical) ≡ instance (codes "low.sch") [] [] None ∷ instance (codes "top.sch") [] [] None ∷ []
unfolding attr attrs split_of chars encode
graphical_instances =
    let is : instances (table_by (project graphical) names graphical) ≡ instance (codes "low.sch") [] [] None ∷ instance (codes "top.sch") [] [] None ∷ [] = refl in
    ap instances (table graphical tt) ∙ is

-- nor has a directive
abbrev directive : List (ℕ × Placed)
directive = (0, component (codes "top.sch") (text (codes "device=DRC_Directive") ∷ text (codes "value=NoConnection") ∷ text (codes "refdes=U1") ∷ text (codes "source=low.sch") ∷ [])) ∷ []

directive_instances : instances_of (project directive) ≡ instance (codes "low.sch") [] [] None ∷ instance (codes "top.sch") [] [] None ∷ []
unfolding attr attrs split_of chars encode
directive_instances =
    let is : instances (table_by (project directive) names directive) ≡ instance (codes "low.sch") [] [] None ∷ instance (codes "top.sch") [] [] None ∷ [] = refl in
    ap instances (table directive tt) ∙ is
