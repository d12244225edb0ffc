-- What is found on components, each rule by its own condition (own).
use Rattle.std.specs.Prelude.{ℕ, ◌-◌, Bool, not, ◌==◌, ◌&&◌, ◌||◌, List, [], ◌++◌, Option, Some, None, codes, is_some, length, slice_index}
use Rattle.std.specs.List.{flat_map, list_any}
use Rattle.std.specs.Str.{bytes_eq}
use Rattle.attr_rules.specs.declared.kinds.PinKind.TheVariants as kinds
use Rattle.attr_rules.specs.declared.slots.SlotFault.{SlotFault}
use Rattle.attr_rules.specs.declared.slots.SlotFault.TheVariants as faults
use Rattle.pin_place.specs.declared.pins.PlacedPin.{PlacedPin}
use Rattle.printed_texts.specs.PrintedTexts.{numbered_words, pin_words, two_words, word}
use Rattle.text_tallies.specs.TwoOfAList.{pairs, two_pass}
use Rattle.text_tallies.specs.Levels.{found_if}
use Rattle.pin_matrix.specs.Matrices.{same_kind}
use Rattle.drc_findings.specs.declared.rule.Rule.TheVariants as drc
use Rattle.drc_findings.specs.declared.finding.Finding.{Finding}
use Rattle.drc_findings.specs.Findings.{a_warning, an_error}
use Rattle.component_checks.specs.CheckedComponents.{CheckedData}

-- a text that may be there, or the empty one
abbrev pub text_or_empty : Option (List ℕ) → List ℕ
text_or_empty None = []
text_or_empty (Some text) = text

-- the printed refdes, of one that has it
abbrev pub checked_refdes : CheckedData → List ℕ
checked_refdes c = text_or_empty c.refdes

-- the `slot`, of one that has it
abbrev pub slot_of : CheckedData → List ℕ
slot_of c = text_or_empty c.slot

-- a listed part: it has a refdes and no sheets below, and is no port
abbrev pub is_listed_part : CheckedData → Bool
is_listed_part c = is_some c.refdes && (not c.is_hierarchical && not c.is_port)

-- a listed part, or a component with a refdes and sheets below
abbrev pub is_numbered_component : CheckedData → Bool
is_numbered_component c = is_some c.refdes && (c.is_hierarchical || not c.is_port)

-- the refdes ends in `?`
abbrev pub is_open_refdes : List ℕ → Bool
is_open_refdes refdes =
    not (length refdes == 0) && (slice_index refdes (length refdes - 1) == 63)

-- Unnumbered: the printed refdes of a listed part, or of a component with sheets below, ends in `?`
abbrev pub unnumbered : CheckedData → List Finding
unnumbered c =
    found_if (is_numbered_component c && is_open_refdes (checked_refdes c))
    (an_error drc.Unnumbered (word (checked_refdes c)))

-- a component without refdes has sheets below, or has a drawn net pin and no value of `net`
abbrev pub lacks_refdes : CheckedData → Bool
lacks_refdes c =
    not (is_some c.refdes) && (c.is_hierarchical || (not (length c.pins == 0) && not c.has_net))

-- NoRefdes: so it is
abbrev pub without_refdes : CheckedData → List Finding
without_refdes c = found_if (lacks_refdes c) (an_error drc.NoRefdes (numbered_words c.sheet c.id))

-- a listed part, or a component with sheets below, with this printed refdes
abbrev pub is_numbered_as : List ℕ → CheckedData → Bool
is_numbered_as refdes c = is_numbered_component c && bytes_eq refdes (checked_refdes c)

-- it has sheets below, or no `slot`
abbrev pub is_whole : CheckedData → Bool
is_whole c = c.is_hierarchical || not (is_some c.slot)

-- two have this printed refdes, and at least one of the two is whole
abbrev pub clash_as : List ℕ → CheckedData × CheckedData → Bool
clash_as refdes two =
    (is_numbered_as refdes two.0 && is_numbered_as refdes two.1)
    && (is_whole two.0 || is_whole two.1)

-- the printed refdes does not end in `?`, and two of these components clash under it
abbrev pub is_duplicate : List CheckedData → CheckedData → Bool
is_duplicate cs c = is_numbered_component c
    && (not (is_open_refdes (checked_refdes c))
    && list_any (clash_as (checked_refdes c)) (pairs cs))

-- DuplicateRefdes: so it is
abbrev pub duplicate_refdes : List CheckedData → CheckedData → List Finding
duplicate_refdes cs c =
    found_if (is_duplicate cs c) (an_error drc.DuplicateRefdes (word (checked_refdes c)))

-- a listed part with this printed refdes and this `slot`
abbrev pub is_slotted_as : List ℕ → List ℕ → CheckedData → Bool
is_slotted_as refdes slot c = is_listed_part c
    && (is_some c.slot && (bytes_eq refdes (checked_refdes c) && bytes_eq slot (slot_of c)))

-- the printed refdes does not end in `?`, and two listed parts have it with the same `slot`
abbrev pub is_duplicate_slot : List CheckedData → CheckedData → Bool
is_duplicate_slot cs c = (is_listed_part c && is_some c.slot)
    && (not (is_open_refdes (checked_refdes c))
    && two_pass (is_slotted_as (checked_refdes c) (slot_of c)) cs)

-- DuplicateSlot: so it is
abbrev pub duplicate_slot : List CheckedData → CheckedData → List Finding
duplicate_slot cs c = found_if (is_duplicate_slot cs c)
    (an_error drc.DuplicateSlot (two_words (word (checked_refdes c)) (word (slot_of c))))

-- a fault of a slot; want of memory is none of a slot's
abbrev pub fault_word : SlotFault → List ℕ
fault_word faults.NoSlotdef = codes "NoSlotdef"
fault_word faults.BadSlotdef = codes "BadSlotdef"
fault_word faults.SlotRange = codes "SlotRange"
fault_word faults.NoMemory = []

-- BadSlot: the `slot` of a listed part gives no pin numbers
abbrev pub bad_slot : CheckedData → List Finding
bad_slot c = on_fault c.slot_fault
  where
    on_fault : Option SlotFault → List Finding
    on_fault None = []
    on_fault (Some fault) = found_if (is_listed_part c)
        (an_error drc.BadSlot (two_words (word (checked_refdes c)) (fault_word fault)))

-- UnknownPintype: a drawn pin of a listed part has kind unknown
abbrev pub unknown_pin : CheckedData → PlacedPin → List Finding
unknown_pin c pin = found_if (is_listed_part c && same_kind pin.kind kinds.Unknown)
    (a_warning drc.UnknownPintype (pin_words (checked_refdes c) pin.number))

abbrev pub unknown_pins : CheckedData → List Finding
unknown_pins c = flat_map (unknown_pin c) c.pins

-- MissingSymbol: a component without symbol
abbrev pub missing_symbol : CheckedData → List Finding
missing_symbol c =
    found_if (not c.has_symbol)
    (an_error drc.MissingSymbol (two_words (word c.sheet) (word c.basename)))

-- BadNet: a component has a value of `net` that is bad
abbrev pub bad_net : CheckedData → List Finding
bad_net c = found_if c.has_bad_net (an_error drc.BadNet (numbered_words c.sheet c.id))

-- what is found on one of these components
abbrev pub found_on : List CheckedData → CheckedData → List Finding
found_on cs c =
    unnumbered c ++ (without_refdes c ++ (duplicate_refdes cs c ++ (duplicate_slot cs c
    ++ (bad_slot c ++ (unknown_pins c ++ (missing_symbol c ++ bad_net c))))))

-- what is found on all of them
abbrev pub found_on_components : List CheckedData → List Finding
found_on_components cs = flat_map (found_on cs) cs
