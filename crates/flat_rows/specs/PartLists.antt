-- Lists of what listed parts have, and the parts that they stand for (own).
use Rattle.std.specs.Prelude.{◌≡◌, ℕ, ◌+◌, ◌==◌, cond, List, [], ◌∷◌, Option, Some, None, map}
use Rattle.std.specs.Option.{option_to_list}
use Rattle.net_list.specs.declared.package.Package.{Package}
use Rattle.flat_rows.specs.Keyed.{Keyed, keyed_from}
use Rattle.flat_rows.specs.declared.parts.PartLists.{PartLists}

-- lists have just what these parts have, in order: the refdes of each, and each device, value and
-- footprint with the place of its part
pub record ArePartsOf (ls : PartLists) (parts : List Package) : Type 0 where
  pub refdeses : ls.refdeses.items ≡ map (λ p. p.refdes) parts
  pub devices : ls.devices.items ≡ keyed_from (λ p. option_to_list p.device) 0 parts
  pub values : ls.values.items ≡ keyed_from (λ p. option_to_list p.value) 0 parts
  pub footprints : ls.footprints.items ≡ keyed_from (λ p. option_to_list p.footprint) 0 parts

-- the text of a place, if there is one
abbrev pub text_at : ℕ → List (Keyed (List ℕ)) → Option (List ℕ)
text_at place [] = None
text_at place (t ∷ ts) = cond (t.1 == place) (Some t.0) (text_at place ts)

-- the part of a refdes at a place
abbrev pub part_at : PartLists → ℕ → List ℕ → Package
part_at ls place refdes = record {
  refdes = refdes;
  device = text_at place ls.devices.items;
  value = text_at place ls.values.items;
  footprint = text_at place ls.footprints.items;
}

-- the parts of refdeses, of which the first has this place
abbrev pub parts_from : PartLists → ℕ → List (List ℕ) → List Package
parts_from ls place [] = []
parts_from ls place (refdes ∷ refdeses) =
    part_at ls place refdes ∷ parts_from ls (place + 1) refdeses

-- the parts of lists
abbrev pub parts_in : PartLists → List Package
parts_in ls = parts_from ls 0 ls.refdeses.items
