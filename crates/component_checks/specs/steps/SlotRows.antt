-- Steps of the code; no public clause cites them.
-- The slots of packages, gathered by refdes in one pass over the components.
use Rattle.std.specs.Prelude.{◌≡◌, ℕ, Bool, false, not, ◌&&◌, ◌||◌, if◌then◌else◌, List, [], ◌∷◌, Option, Some, None, is_some, unwrap_or}
use Rattle.std.specs.BTreeMap.{BTreeMap, get}
use Rattle.std.specs.BTreeSet.{BTreeSet, contains}
use Rattle.std.specs.Fmt.{decimal}
use Rattle.std.specs.List.{flat_map, list_any, range_with_len}
use Rattle.std.specs.Option.{option_or}
use Rattle.std.specs.Ordering.{nat_cmp}
use Rattle.std.specs.Str.{bytes_eq}
use Rattle.geda_defs.specs.Order.{by_bytes}
use Rattle.printed_texts.specs.PrintedTexts.{two_words, word}
use Rattle.text_tallies.specs.Levels.{found_if}
use Rattle.drc_findings.specs.declared.rule.Rule.TheVariants as drc
use Rattle.drc_findings.specs.declared.finding.Finding.{Finding}
use Rattle.drc_findings.specs.Findings.{a_warning}
use Rattle.component_checks.specs.CheckedComponents.{CheckedData}
use Rattle.component_checks.specs.OnComponents.{checked_refdes, is_listed_part}
use Rattle.component_checks.specs.OnPackages.{is_slot_number, slot_value}
use Rattle.component_checks.specs.declared.slot_rows.PackageSlots.{PackageSlots}

-- slots by refdes
abbrev pub SlotRows : Type 0
SlotRows = BTreeMap (List ℕ) PackageSlots

-- the slots at a refdes
abbrev pub row_at : SlotRows → List ℕ → Option PackageSlots
row_at rows refdes = get by_bytes rows refdes

-- the count of slots in a row
abbrev pub count_in : Option PackageSlots → Option ℕ
count_in None = None
count_in (Some slots) = slots.count

-- the slot of this number is used in a row
abbrev pub is_used : Option PackageSlots → ℕ → Bool
is_used None k = false
is_used (Some slots) k = contains nat_cmp slots.used k

-- one more number in a set, where there is one
abbrev pub AddsNumber : Option ℕ → BTreeSet ℕ → BTreeSet ℕ → Type 0
AddsNumber n old new =
    (k : ℕ) → contains nat_cmp new k ≡ (contains nat_cmp old k || is_slot_number k n)

-- a listed part of the package of this refdes
abbrev pub is_part_of : List ℕ → CheckedData → Bool
is_part_of refdes c = is_listed_part c && bytes_eq refdes (checked_refdes c)

-- the count of slots that it gives to a package
abbrev pub count_of : List ℕ → CheckedData → Option ℕ
count_of refdes c = if is_part_of refdes c then c.slots else None

-- it uses the slot of this number in a package
abbrev pub uses_in : List ℕ → ℕ → CheckedData → Bool
uses_in refdes k c = is_part_of refdes c && is_slot_number k (slot_value c.slot)

-- a component without slots: it gives no count of them, and has none
abbrev pub has_no_slots : CheckedData → Bool
has_no_slots c = not (is_some c.slots) && not (is_some c.slot)

-- the rows after a component with this refdes
pub record TakesIn (refdes : List ℕ) (c : CheckedData) (old new : SlotRows) : Type 0 where
  pub counts : (q : List ℕ) → count_in (row_at new q)
      ≡ option_or (count_in (row_at old q)) (if bytes_eq q refdes then c.slots else None)
  pub used : (q : List ℕ) (k : ℕ) → is_used (row_at new q) k
      ≡ (is_used (row_at old q) k || (bytes_eq q refdes && is_slot_number k (slot_value c.slot)))

-- the rows after a component
pub record TakesInIfListed (c : CheckedData) (old new : SlotRows) : Type 0 where
  pub counts : (q : List ℕ) → count_in (row_at new q)
      ≡ option_or (count_in (row_at old q)) (count_of q c)
  pub used : (q : List ℕ) (k : ℕ) → is_used (row_at new q) k
      ≡ (is_used (row_at old q) k || uses_in q k c)

-- the count of slots of a package, after components
abbrev pub count_after : List ℕ → List CheckedData → Option ℕ → Option ℕ
count_after q [] count = count
count_after q (c ∷ cs) count = count_after q cs (option_or count (count_of q c))

-- each row is that after the components
pub record AreSlotsOf (cs : List CheckedData) (rows : SlotRows) : Type 0 where
  pub counts : (q : List ℕ) → count_in (row_at rows q) ≡ count_after q cs None
  pub used : (q : List ℕ) (k : ℕ) → is_used (row_at rows q) k ≡ list_any (uses_in q k) cs

-- the slot of this number is not used in a row
abbrev pub unused_in : Option PackageSlots → List ℕ → ℕ → List Finding
unused_in row refdes k =
    found_if (not (is_used row k)) (a_warning drc.UnusedSlot (two_words (word refdes) (decimal k)))

-- so it is with one of the slots of a row
abbrev pub all_unused_in : Option PackageSlots → List ℕ → List Finding
all_unused_in row refdes =
    flat_map (unused_in row refdes) (range_with_len 1 (unwrap_or (count_in row) 0))
