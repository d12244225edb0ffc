-- Steps of the code; no public clause cites them.
-- Packages by the ranks of their parts: first the refdeses, then each list of texts in one pass.
use Rattle.std.specs.Prelude.{ℕ, List, [], ◌∷◌, Option, Some, None, slice_index, slice_index_or, slice_set}
use Rattle.std.specs.Option.{option_or}
use Rattle.flat_rows.specs.Keyed.{Keyed}
use Rattle.net_list.specs.declared.package.Package.{Package}
use Rattle.net_names.specs.declared.packages.Attribute.{Attribute}
use Rattle.net_names.specs.declared.packages.Attribute.TheVariants.{Device, Value, Footprint}

-- a package of which the refdes alone is known
abbrev pub bare_package : List ℕ → Package
bare_package refdes = record { refdes = refdes; device = None; value = None; footprint = None }

-- what is known of a package, and behind it a text, if there is one
abbrev pub with_text : Attribute → Package → Option (List ℕ) → Package
with_text Device p text = record {
  refdes = p.refdes;
  device = option_or p.device text;
  value = p.value;
  footprint = p.footprint;
}
with_text Value p text = record {
  refdes = p.refdes;
  device = p.device;
  value = option_or p.value text;
  footprint = p.footprint;
}
with_text Footprint p text = record {
  refdes = p.refdes;
  device = p.device;
  value = p.value;
  footprint = option_or p.footprint text;
}

-- the packages of all ranks, with one more text, at the rank of its part
abbrev pub with_keyed : Attribute → List ℕ → List Package → Keyed (List ℕ) → List Package
with_keyed attribute ranks packages t =
    let rank = slice_index ranks t.1 in
    slice_set packages rank
    (with_text attribute (slice_index_or packages rank (bare_package [])) (Some t.0))

-- and with several
abbrev pub with_texts : Attribute → List ℕ → List Package → List (Keyed (List ℕ)) → List Package
with_texts attribute ranks packages [] = packages
with_texts attribute ranks packages (t ∷ ts) =
    with_texts attribute ranks (with_keyed attribute ranks packages t) ts
