-- What is found on packages (own).
use Rattle.std.specs.Prelude.{ℕ, Bool, false, not, ◌==◌, ◌&&◌, List, ◌++◌, Option, Some, None, filter, map, unwrap_or}
use Rattle.std.specs.Fmt.{decimal}
use Rattle.std.specs.List.{filter_map, flat_map, list_any, range_with_len, slice_get}
use Rattle.std.specs.Str.{bytes_eq}
use Rattle.attr_rules.specs.Slots.{short_number}
use Rattle.net_list.specs.declared.package.Package.{Package}
use Rattle.printed_texts.specs.PrintedTexts.{two_words, word}
use Rattle.text_tallies.specs.Levels.{found_if}
use Rattle.drc_findings.specs.declared.rule.Rule.TheVariants as drc
use Rattle.drc_findings.specs.declared.finding.Finding.{Finding}
use Rattle.drc_findings.specs.Findings.{a_warning, same_text}
use Rattle.component_checks.specs.CheckedComponents.{CheckedData}
use Rattle.component_checks.specs.OnComponents.{checked_refdes, is_listed_part}

-- the components of a package
abbrev pub of_package : List CheckedData → List ℕ → List CheckedData
of_package cs refdes = filter (λ c. is_listed_part c && bytes_eq refdes (checked_refdes c)) cs

-- the count of slots of the first component that has one, or 0
abbrev pub slots_of : List CheckedData → ℕ
slots_of cs = unwrap_or (slice_get (filter_map (λ c. c.slots) cs) 0) 0

-- the value of a `slot` of 1 to 4 digits
abbrev pub slot_value : Option (List ℕ) → Option ℕ
slot_value None = None
slot_value (Some slot) = short_number slot

-- it is the slot of this number
abbrev pub is_slot_number : ℕ → Option ℕ → Bool
is_slot_number k None = false
is_slot_number k (Some n) = n == k

-- one of these components has the slot of this number
abbrev pub uses_slot : List CheckedData → ℕ → Bool
uses_slot cs k = list_any (λ c. is_slot_number k (slot_value c.slot)) cs

-- no component of the package has this slot
abbrev pub unused_slot : List CheckedData → List ℕ → ℕ → List Finding
unused_slot members refdes k =
    found_if (not (uses_slot members k))
    (a_warning drc.UnusedSlot (two_words (word refdes) (decimal k)))

-- UnusedSlot: so it is with one of the slots of the package, whose numbers begin with 1
abbrev pub unused_slots : List CheckedData → List ℕ → List Finding
unused_slots cs refdes =
    flat_map (unused_slot (of_package cs refdes) refdes)
    (range_with_len 1 (slots_of (of_package cs refdes)))

-- the refdes of packages
abbrev pub package_refdeses : List Package → List (List ℕ)
package_refdeses packages = map (λ p. p.refdes) packages

-- what is found on one of these packages
abbrev pub found_on_package : List CheckedData → List Package → Package → List Finding
found_on_package cs packages p =
    unused_slots cs p.refdes ++ same_text (package_refdeses packages) p.refdes

-- what is found on all of them
abbrev pub found_on_packages : List CheckedData → List Package → List Finding
found_on_packages cs packages = flat_map (found_on_package cs packages) packages
