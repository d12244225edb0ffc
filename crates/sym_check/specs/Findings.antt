-- What is found on a symbol, each rule by its own condition (own).
use Rattle.std.specs.Prelude.{ℕ, Bool, true, false, not, ◌==◌, ◌&&◌, List, [], ◌++◌, Option, Some, None, is_some, length, unwrap_or}
use Rattle.std.specs.Fmt.{decimal}
use Rattle.std.specs.List.{filter_map, flat_map, list_any, range_with_len}
use Rattle.std.specs.Str.{bytes_eq}
use Rattle.geda_model.specs.Sheets.{SymbolData}
use Rattle.attr_rules.specs.NetValues.{net_entry}
use Rattle.attr_rules.specs.Slots.{short_number, slot_count}
use Rattle.printed_texts.specs.PrintedTexts.{word}
use Rattle.text_tallies.specs.Levels.{found_if}
use Rattle.text_tallies.specs.TwoOfAList.{two_pass}
use Rattle.sym_check.specs.declared.finding.SymFinding.{SymFinding}
use Rattle.sym_check.specs.declared.checked.CheckedPin.{CheckedPin}
use Rattle.sym_check.specs.declared.checked.CheckedSymbol.{CheckedSymbol}
use Rattle.sym_check.specs.CheckedSymbols.{checked_symbol}
use Rattle.sym_check.specs.Slotdefs.{heads_of, is_bad_slotdef, is_small_number, slotdef_head}

-- an error by the number of its rule and its words
abbrev pub symbol_error : ℕ → List ℕ → SymFinding
symbol_error code words = record { code = code; error = true; words = words }

-- a warning
abbrev pub symbol_warning : ℕ → List ℕ → SymFinding
symbol_warning code words = record { code = code; error = false; words = words }

-- this text stands twice among others
abbrev pub stands_twice : List (List ℕ) → List ℕ → Bool
stands_twice texts text = two_pass (bytes_eq text) texts

-- a finding on a text that stands twice, where there is one
abbrev pub repeated_text : ℕ → List (List ℕ) → Option (List ℕ) → List SymFinding
repeated_text code texts None = []
repeated_text code texts (Some text) =
    found_if (stands_twice texts text) (symbol_error code (word text))

-- NoDevice: no free `device`
abbrev pub no_device : CheckedSymbol → List SymFinding
no_device s = found_if (not s.has_device) (symbol_warning 1 [])

-- NoRefdes: no free `refdes`, and it is not graphical
abbrev pub no_refdes : CheckedSymbol → List SymFinding
no_refdes s = found_if (not s.has_refdes && not s.is_graphical) (symbol_warning 2 [])

-- NoPins: no net pin, and it is not graphical
abbrev pub no_pins : CheckedSymbol → List SymFinding
no_pins s = found_if ((length s.pins == 0) && not s.is_graphical) (symbol_warning 3 [])

-- MissingNumber: a pin has no `pinnumber`
abbrev pub missing_number : CheckedPin → List SymFinding
missing_number pin = found_if (not (is_some pin.number)) (symbol_error 4 (decimal pin.place))

-- a `pinseq` that is there and a small number
abbrev pub is_good_seq : Option (List ℕ) → Bool
is_good_seq None = false
is_good_seq (Some seq) = is_small_number seq

-- MissingSeq: a pin has no `pinseq` that is a small number
abbrev pub missing_seq : CheckedPin → List SymFinding
missing_seq pin = found_if (not (is_good_seq pin.seq)) (symbol_error 5 (decimal pin.place))

-- the `pinnumber` of all pins that have one
abbrev pub pin_numbers_of : List CheckedPin → List (List ℕ)
pin_numbers_of pins = filter_map (λ pin. pin.number) pins

-- DuplicateNumber: two pins have the `pinnumber` of this one
abbrev pub duplicate_number : List CheckedPin → CheckedPin → List SymFinding
duplicate_number pins pin = repeated_text 6 (pin_numbers_of pins) pin.number

-- the `pinseq` of all pins that have one
abbrev pub seqs_of : List CheckedPin → List (List ℕ)
seqs_of pins = filter_map (λ pin. pin.seq) pins

-- DuplicateSeq: two pins have the `pinseq` of this one
abbrev pub duplicate_seq : List CheckedPin → CheckedPin → List SymFinding
duplicate_seq pins pin = repeated_text 7 (seqs_of pins) pin.seq

-- MissingLabel: a pin has no `pinlabel`
abbrev pub missing_label : CheckedPin → List SymFinding
missing_label pin = found_if (not pin.has_label) (symbol_warning 8 (decimal pin.place))

-- BadPintype: a pin has no `pintype` that is one of the ten
abbrev pub bad_pintype : CheckedPin → List SymFinding
bad_pintype pin = found_if (not pin.has_kind) (symbol_error 9 (decimal pin.place))

-- OffGrid: a coordinate of a pin is no multiple of 100
abbrev pub off_grid : CheckedPin → List SymFinding
off_grid pin = found_if pin.is_off_grid (symbol_warning 10 (decimal pin.place))

-- what is found on one of these pins
abbrev pub found_on_pin : List CheckedPin → CheckedPin → List SymFinding
found_on_pin pins pin =
    missing_number pin ++ (missing_seq pin ++ (duplicate_number pins pin
    ++ (duplicate_seq pins pin ++ (missing_label pin ++ (bad_pintype pin ++ off_grid pin)))))

-- BadNumslots: the free `numslots` is not 1 to 4 digits
abbrev pub bad_numslots : CheckedSymbol → List SymFinding
bad_numslots s = of_value s.numslots
  where
    of_value : Option (List ℕ) → List SymFinding
    of_value None = []
    of_value (Some value) =
        found_if (not (is_some (short_number value))) (symbol_error 11 (word value))

-- MissingSlotdef: no `slotdef` has the digits of this number before its first `:`
abbrev pub missing_slotdef : List (List ℕ) → ℕ → List SymFinding
missing_slotdef slotdefs k =
    found_if (not (list_any (bytes_eq (decimal k)) (heads_of slotdefs)))
    (symbol_error 12 (decimal k))

-- the same of each number from 1 to a `numslots` of 1 to 4 digits
abbrev pub missing_slotdefs : CheckedSymbol → List SymFinding
missing_slotdefs s = flat_map (missing_slotdef s.slotdefs)
    (range_with_len 1 (unwrap_or (slot_count s.numslots) 0))

-- DuplicateSlotdef: two `slotdef` have what this one has before its first `:`
abbrev pub duplicate_slotdef : List (List ℕ) → List ℕ → List SymFinding
duplicate_slotdef slotdefs slotdef = repeated_text 13 (heads_of slotdefs) (slotdef_head slotdef)

-- BadSlotdef: a free `slotdef` is bad
abbrev pub bad_slotdef : CheckedSymbol → List ℕ → List SymFinding
bad_slotdef s slotdef =
    found_if (is_bad_slotdef (slot_count s.numslots) (length s.pins) slotdef)
    (symbol_error 14 (word slotdef))

-- what is found on one `slotdef`
abbrev pub found_on_slotdef : CheckedSymbol → List ℕ → List SymFinding
found_on_slotdef s slotdef = duplicate_slotdef s.slotdefs slotdef ++ bad_slotdef s slotdef

-- BadNet: a free `net` says nothing
abbrev pub bad_net_value : List ℕ → List SymFinding
bad_net_value value = found_if (not (is_some (net_entry value))) (symbol_error 15 (word value))

-- what is found on the symbol as a whole
abbrev pub found_on_whole : CheckedSymbol → List SymFinding
found_on_whole s = no_device s ++ (no_refdes s ++ no_pins s)

-- what is found on its pins
abbrev pub found_on_pins : CheckedSymbol → List SymFinding
found_on_pins s = flat_map (found_on_pin s.pins) s.pins

-- what is found on its slots
abbrev pub found_on_slots : CheckedSymbol → List SymFinding
found_on_slots s =
    bad_numslots s ++ (missing_slotdefs s ++ flat_map (found_on_slotdef s) s.slotdefs)

-- all that is found
abbrev pub found_on_symbol : CheckedSymbol → List SymFinding
found_on_symbol s =
    found_on_whole s ++ (found_on_pins s ++ (found_on_slots s ++ flat_map bad_net_value s.nets))

-- all that is found in a symbol
unfoldable pub found_in_symbol : SymbolData → List SymFinding
found_in_symbol symbol = found_on_symbol (checked_symbol symbol)
