-- Lists of what parts have, as the parts that they stand for.
use Rattle.std.proofs.Common.{◌≡◌, ℕ, ◌+◌, ◌==◌, Bool, true, false, cond, List, [], ◌∷◌, Option, Some, map, refl, sym, ap, ap₂, subst, ◌∙◌}
use Rattle.std.specs.Option.{option_to_list}
use Rattle.net_list.specs.declared.package.Package.{Package}
use Rattle.flat_rows.specs.Keyed.{Keyed}
use Rattle.flat_rows.specs.PartLists.{ArePartsOf, part_at, parts_from, parts_in, text_at}
use Rattle.flat_rows.specs.declared.parts.PartLists.{PartLists}
use Rattle.flat_rows.specs.steps.Lists.{first_of, keys_at}
use Rattle.flat_rows.proofs.KeyedLemmas.{Tells, tells_all, tells_first, tells_rest}
use Rattle.flat_rows.proofs.RowLemmas.{first_option}

-- lists tell of each place from this one on what these parts have
record PartsTell (ls : PartLists) (place : ℕ) (parts : List Package) : Type 0 where
  devices : Tells (λ (p : Package). option_to_list p.device) ls.devices.items place parts
  values : Tells (λ (p : Package). option_to_list p.value) ls.values.items place parts
  footprints : Tells (λ (p : Package). option_to_list p.footprint) ls.footprints.items place parts

first_text : (place : ℕ) (ts : List (Keyed (List ℕ))) → text_at place ts ≡ first_of (keys_at place ts)
first_text place [] = refl
first_text place (t ∷ ts) = by (t.1 == place) (first_text place ts)
  where
    by : (b : Bool) → text_at place ts ≡ first_of (keys_at place ts) → cond b (Some t.0) (text_at place ts) ≡ first_of (cond b (t.0 ∷ keys_at place ts) (keys_at place ts))
    by true h = refl
    by false h = h

text_is : (tells : Package → Option (List ℕ)) (ts : List (Keyed (List ℕ))) (place : ℕ) (p : Package) (ps : List Package) → Tells (λ (p : Package). option_to_list (tells p)) ts place (p ∷ ps) → text_at place ts ≡ tells p
text_is tells ts place p ps told =
    first_text place ts ∙ ap (λ ks. first_of ks) (tells_first (λ (p : Package). option_to_list (tells p)) ts place p ps told) ∙ first_option (tells p)

part_is : (ls : PartLists) (place : ℕ) (p : Package) (ps : List Package) → PartsTell ls place (p ∷ ps) → part_at ls place p.refdes ≡ p
part_is ls place p ps tell =
    let device = text_is (λ p. p.device) ls.devices.items place p ps tell.devices in
    let value = text_is (λ p. p.value) ls.values.items place p ps tell.values in
    let footprint = text_is (λ p. p.footprint) ls.footprints.items place p ps tell.footprints in
    λ i. record {
      refdes = p.refdes;
      device = device i;
      value = value i;
      footprint = footprint i;
    }

parts_are : (ls : PartLists) (place : ℕ) (ps : List Package) → PartsTell ls place ps → parts_from ls place (map (λ p. p.refdes) ps) ≡ ps
parts_are ls place [] tell = refl
parts_are ls place (p ∷ ps) tell =
    ap₂ (λ (q : Package) (qs : List Package). q ∷ qs) (part_is ls place p ps tell) (parts_are ls (place + 1) ps (record {
      devices = tells_rest (λ (p : Package). option_to_list p.device) ls.devices.items place p ps tell.devices;
      values = tells_rest (λ (p : Package). option_to_list p.value) ls.values.items place p ps tell.values;
      footprints = tells_rest (λ (p : Package). option_to_list p.footprint) ls.footprints.items place p ps tell.footprints;
    }))

-- the parts of lists are those of which they have all
pub parts_tell : (ls : PartLists) (parts : List Package) → ArePartsOf ls parts → parts_in ls ≡ parts
parts_tell ls parts are =
    ap (parts_from ls 0) are.refdeses ∙ parts_are ls 0 parts (record {
      devices = tells_all (λ (p : Package). option_to_list p.device) ls.devices.items parts are.devices;
      values = tells_all (λ (p : Package). option_to_list p.value) ls.values.items parts are.values;
      footprints = tells_all (λ (p : Package). option_to_list p.footprint) ls.footprints.items parts are.footprints;
    })

pub parts_stand : (ls : PartLists) (parts : List Package) → ArePartsOf ls parts → ArePartsOf ls (parts_in ls)
parts_stand ls parts are = subst (ArePartsOf ls) (sym (parts_tell ls parts are)) are
