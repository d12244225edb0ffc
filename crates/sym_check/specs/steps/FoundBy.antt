-- Steps of the code; no public clause cites them.
-- What is found on pins and on slots by the sets of the texts that stand once and twice.
use Rattle.std.specs.Prelude.{◌≡◌, ℕ, Bool, not, List, [], ◌++◌, Option, Some, None, map}
use Rattle.std.specs.BTreeSet.{BTreeSet}
use Rattle.std.specs.Fmt.{decimal}
use Rattle.std.specs.List.{list_any}
use Rattle.std.specs.Str.{bytes_eq}
use Rattle.printed_texts.specs.PrintedTexts.{word}
use Rattle.text_tallies.specs.NameSets.{HasNames, set_has_name}
use Rattle.text_tallies.specs.PairSets.{PairData, has_pair}
use Rattle.text_tallies.specs.Levels.{found_if}
use Rattle.sym_check.specs.declared.checked.CheckedPin.{CheckedPin}
use Rattle.sym_check.specs.declared.checked.CheckedSymbol.{CheckedSymbol}
use Rattle.sym_check.specs.declared.finding.SymFinding.{SymFinding}
use Rattle.sym_check.specs.Findings.{bad_pintype, bad_slotdef, missing_label, missing_number, missing_seq, off_grid, stands_twice, symbol_error}
use Rattle.sym_check.specs.Slotdefs.{slotdef_head}

-- a text as the second of a pair
abbrev pub key_of : List ℕ → PairData
key_of text = record { first = []; second = text }

-- the text is in a set
abbrev pub has_text : BTreeSet PairData → List ℕ → Bool
has_text texts q = has_pair texts (key_of q)

-- the set has what the texts of a list print as, and no other
abbrev pub HasPrinted : List (List ℕ) → BTreeSet (List ℕ) → Type 0
HasPrinted list printed = HasNames (λ q. list_any (bytes_eq q) (map word list)) printed

-- the set has the texts that stand twice in a list, and no other
abbrev pub HasTwice : List (List ℕ) → BTreeSet PairData → Type 0
HasTwice list texts = (q : List ℕ) → has_text texts q ≡ stands_twice list q

-- a text that may be there is in a set
abbrev pub repeated_by : ℕ → BTreeSet PairData → Option (List ℕ) → List SymFinding
repeated_by code twice None = []
repeated_by code twice (Some text) = found_if (has_text twice text) (symbol_error code (word text))

-- what is found on a pin, by the numbers and by the `pinseq` that stand twice
abbrev pub on_pin_by : BTreeSet PairData → BTreeSet PairData → CheckedPin → List SymFinding
on_pin_by numbers seqs pin =
    missing_number pin ++ (missing_seq pin ++ (repeated_by 6 numbers pin.number
    ++ (repeated_by 7 seqs pin.seq ++ (missing_label pin ++ (bad_pintype pin ++ off_grid pin)))))

-- no `slotdef` begins with this number, by what those that begin with something print there
abbrev pub missing_slotdef_by : BTreeSet (List ℕ) → ℕ → List SymFinding
missing_slotdef_by heads k =
    found_if (not (set_has_name heads (decimal k))) (symbol_error 12 (decimal k))

-- what is found on a `slotdef`, by what two `slotdef` begin with
abbrev pub on_slotdef_by : BTreeSet PairData → CheckedSymbol → List ℕ → List SymFinding
on_slotdef_by twice s slotdef =
    repeated_by 13 twice (slotdef_head slotdef) ++ bad_slotdef s slotdef
