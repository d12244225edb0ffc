-- Steps of the code; no public clause cites them.
-- What is found on a component by what several components have in common.
use Rattle.std.specs.Prelude.{ℕ, not, ◌&&◌, Bool, List, ◌++◌, is_some}
use Rattle.printed_texts.specs.PrintedTexts.{pin_words, two_words, word}
use Rattle.text_tallies.specs.NameSets.{set_has_name}
use Rattle.text_tallies.specs.PairSets.{has_pair}
use Rattle.text_tallies.specs.Levels.{found_if}
use Rattle.drc_findings.specs.declared.rule.Rule.TheVariants as drc
use Rattle.drc_findings.specs.declared.finding.Finding.{Finding}
use Rattle.drc_findings.specs.Findings.{a_warning, an_error}
use Rattle.component_checks.specs.CheckedComponents.{CheckedData}
use Rattle.component_checks.specs.OnComponents.{bad_net, bad_slot, checked_refdes, is_listed_part, is_numbered_component, is_open_refdes, missing_symbol, slot_of, unknown_pins, unnumbered, without_refdes}
use Rattle.component_checks.specs.declared.repeats.Repeats.{Repeats}

-- two numbered components have this refdes, and one has it whole; it does not end in `?`
abbrev pub clashes : Repeats → List ℕ → Bool
clashes repeats refdes = not (is_open_refdes refdes) && set_has_name repeats.clashing refdes

-- a numbered component has such a refdes
abbrev pub is_duplicate_by : Repeats → CheckedData → Bool
is_duplicate_by repeats c = is_numbered_component c && clashes repeats (checked_refdes c)

-- so it is
abbrev pub duplicate_by : Repeats → CheckedData → List Finding
duplicate_by repeats c =
    found_if (is_duplicate_by repeats c) (an_error drc.DuplicateRefdes (word (checked_refdes c)))

-- two listed parts have the refdes and the slot of this one; the refdes does not end in `?`
abbrev pub is_duplicate_slot_by : Repeats → CheckedData → Bool
is_duplicate_slot_by repeats c = (is_listed_part c && is_some c.slot)
    && (not (is_open_refdes (checked_refdes c))
    && has_pair repeats.slotted (record { first = checked_refdes c; second = slot_of c }))

-- so it is
abbrev pub duplicate_slot_by : Repeats → CheckedData → List Finding
duplicate_slot_by repeats c = found_if (is_duplicate_slot_by repeats c)
    (an_error drc.DuplicateSlot (two_words (word (checked_refdes c)) (word (slot_of c))))

-- what is found on a pin of kind unknown, by its number
abbrev pub unknown_at : CheckedData → List ℕ → Finding
unknown_at c number = a_warning drc.UnknownPintype (pin_words (checked_refdes c) number)

-- what is found on the refdes of a component
abbrev pub found_on_refdes : Repeats → CheckedData → List Finding
found_on_refdes repeats c =
    unnumbered c ++ (without_refdes c ++ (duplicate_by repeats c ++ duplicate_slot_by repeats c))

-- what is found on its slot, its pins, its symbol and its nets
abbrev pub found_on_contents : CheckedData → List Finding
found_on_contents c = bad_slot c ++ (unknown_pins c ++ (missing_symbol c ++ bad_net c))

-- what is found on a component
abbrev pub found_by : Repeats → CheckedData → List Finding
found_by repeats c = found_on_refdes repeats c ++ found_on_contents c
