-- What is found by sets of texts is what is found.
use Rattle.std.proofs.Common.{◌≡◌, ◌∙◌, ◌<◌, ◌≤◌, ◌+◌, ◌^◌, ◌==◌, ℕ, zero, suc, Bool, true, not, List, [], ◌∷◌, Option, Some, None, map, refl, ap, arith}
use Rattle.std.specs.BTreeSet.{BTreeSet}
use Rattle.std.specs.Char.{is_ascii_digit}
use Rattle.std.specs.Fmt.{decimal}
use Rattle.std.specs.List.{filter_map, flat_map, list_all, list_any, range_with_len}
use Rattle.std.specs.Str.{bytes_eq}
use Rattle.std.proofs.lemmas.Bool.Decides.{nat_tests}
use Rattle.std.proofs.lemmas.Bool.{and_parts}
use Rattle.std.proofs.lemmas.Fmt.{digits_decimal}
use Rattle.printed_texts.specs.PrintedTexts.{word, word_byte}
use Rattle.text_tallies.specs.PairSets.{HasPairs, PairData, same_pair}
use Rattle.text_tallies.specs.TwoOfAList.{two_pass}
use Rattle.text_tallies.proofs.ListLemmas.{flat_map_same}
use Rattle.text_tallies.proofs.PairLemmas.{two_pass_filter, two_pass_same}
use Rattle.text_tallies.specs.Levels.{found_if}
use Rattle.sym_check.specs.declared.checked.CheckedPin.{CheckedPin}
use Rattle.sym_check.specs.declared.checked.CheckedSymbol.{CheckedSymbol}
use Rattle.sym_check.specs.declared.finding.SymFinding.{SymFinding}
use Rattle.sym_check.specs.Findings.{found_on_pin, found_on_slotdef, missing_slotdef, pin_numbers_of, repeated_text, seqs_of, stands_twice, symbol_error}
use Rattle.sym_check.specs.Slotdefs.{heads_of, slotdef_head}
use Rattle.sym_check.specs.steps.FoundBy.{HasPrinted, HasTwice, key_of, missing_slotdef_by, on_pin_by, on_slotdef_by, repeated_by}
use Rattle.sym_check.proofs.NumberLemmas.{own}

keys_are : (texts : List (List ℕ)) → map key_of texts ≡ filter_map (λ t. Some (key_of t)) texts
keys_are [] = refl
keys_are (t ∷ texts) = ap (λ (ks : List PairData). key_of t ∷ ks) (keys_are texts)

-- a text stands twice among others where its key stands twice among theirs
two_keys : (q : List ℕ) (texts : List (List ℕ)) → two_pass (same_pair (key_of q)) (map key_of texts) ≡ stands_twice texts q
two_keys q texts =
    ap (two_pass (same_pair (key_of q))) (keys_are texts)
    ∙ two_pass_filter (λ (t : List ℕ). Some (key_of t)) (same_pair (key_of q)) texts
    ∙ two_pass_same _ (bytes_eq q) (λ t. refl) texts

-- so the keys that stand twice are those of the texts that do
pub twice_of_keys : (texts : List (List ℕ)) (keys : List PairData) (twice : BTreeSet PairData) → keys ≡ map key_of texts
    → HasPairs (λ q. two_pass (same_pair q) keys) twice → HasTwice texts twice
twice_of_keys texts keys twice same has q =
    has (key_of q) ∙ ap (two_pass (same_pair (key_of q))) same ∙ two_keys q texts

-- on a text that may be there
repeated_is : (code : ℕ) (texts : List (List ℕ)) (twice : BTreeSet PairData) → HasTwice texts twice
    → (text : Option (List ℕ)) → repeated_by code twice text ≡ repeated_text code texts text
repeated_is code texts twice has None = refl
repeated_is code texts twice has (Some text) = ap (λ (b : Bool). found_if b (symbol_error code (word text))) (has text)

-- on all pins
pub all_pins_by : (pins : List CheckedPin) (numbers seqs : BTreeSet PairData) → HasTwice (pin_numbers_of pins) numbers → HasTwice (seqs_of pins) seqs
    → flat_map (on_pin_by numbers seqs) pins ≡ flat_map (found_on_pin pins) pins
all_pins_by pins numbers seqs n s =
    flat_map_same (on_pin_by numbers seqs) (found_on_pin pins)
    (λ pin. rw (repeated_is 6 (pin_numbers_of pins) numbers n pin.number, repeated_is 7 (seqs_of pins) seqs s pin.seq) refl) pins

-- on all `slotdef`
pub all_slotdefs_by : (s : CheckedSymbol) (slotdefs : List (List ℕ)) (twice : BTreeSet PairData) → slotdefs ≡ s.slotdefs → HasTwice (heads_of slotdefs) twice
    → flat_map (on_slotdef_by twice s) slotdefs ≡ flat_map (found_on_slotdef s) s.slotdefs
all_slotdefs_by s slotdefs twice same has =
    ap (flat_map (on_slotdef_by twice s)) same
    ∙ flat_map_same (on_slotdef_by twice s) (found_on_slotdef s)
    (λ slotdef. rw (repeated_is 13 (heads_of s.slotdefs) twice (rw same at has) (slotdef_head slotdef)) refl) s.slotdefs

-- a digit is a byte where it is what the byte prints as
digit_is : (d b : ℕ) → is_ascii_digit d ≡ true → (d == word_byte b) ≡ (d == b)
digit_is d b h = grind (arith, nat_tests)

digits_are : (ds text : List ℕ) → list_all is_ascii_digit ds ≡ true → bytes_eq ds (word text) ≡ bytes_eq ds text
digits_are [] [] h = refl
digits_are [] (b ∷ text) h = refl
digits_are (d ∷ ds) [] h = refl
digits_are (d ∷ ds) (b ∷ text) h =
    let parts = and_parts (is_ascii_digit d) (list_all is_ascii_digit ds) h in
    rw (digit_is d b parts.0, digits_are ds text parts.1) refl

any_printed : (ds : List ℕ) (texts : List (List ℕ)) → list_all is_ascii_digit ds ≡ true
    → list_any (bytes_eq ds) (map word texts) ≡ list_any (bytes_eq ds) texts
any_printed ds [] h = refl
any_printed ds (t ∷ texts) h = rw (digits_are ds t h, any_printed ds texts h) refl

missing_is : (slotdefs : List (List ℕ)) (heads : BTreeSet (List ℕ)) → HasPrinted (heads_of slotdefs) heads
    → (k : ℕ) → k < 2 ^ 64 → missing_slotdef_by heads k ≡ missing_slotdef slotdefs k
missing_is slotdefs heads has k small =
    ap (λ (b : Bool). found_if (not b) (symbol_error 12 (decimal k)))
    (has (decimal k) ∙ any_printed (decimal k) (heads_of slotdefs) (digits_decimal own k small))

range_same : (f g : ℕ → List SymFinding) → ((k : ℕ) → k < 2 ^ 64 → f k ≡ g k) → (from n : ℕ) → from + n ≤ 2 ^ 64
    → flat_map f (range_with_len from n) ≡ flat_map g (range_with_len from n)
range_same f g same from zero most = refl
range_same f g same from (suc n) most =
    rw (same from (omega arith), range_same f g same (from + 1) n (omega arith)) refl

-- on all numbers of slots
pub all_missing_by : (slotdefs : List (List ℕ)) (heads : BTreeSet (List ℕ)) (count : ℕ) → count < 2 ^ 32 → HasPrinted (heads_of slotdefs) heads
    → flat_map (missing_slotdef_by heads) (range_with_len 1 count) ≡ flat_map (missing_slotdef slotdefs) (range_with_len 1 count)
all_missing_by slotdefs heads count small has =
    range_same (missing_slotdef_by heads) (missing_slotdef slotdefs) (missing_is slotdefs heads has) 1 count (omega (arith, small))
