-- The text of a net list, cut into lines, and its cards into fields.
use Rattle.std.proofs.Common.{◌≡◌, ◌∙◌, ℕ, ◌+◌, ◌<◌, ◌^◌, ◌==◌, ◌||◌, not, Bool, true, false, cond, List, [], ◌∷◌, ◌++◌, Option, Some, None, codes, decimal, filter, length, map, refl, rules, sym, ap, ap₂, arith, append_assoc, append-nil, true≢false}
use Rattle.std.specs.Prelude.{All}
use Rattle.std.specs.Char.{is_ascii_digit, to_ascii_uppercase}
use Rattle.std.specs.List.{flat_map, list_all, list_any, range_with_len, slice_get, slice_split}
use Rattle.std.specs.Option.{is_some, option_and_then, option_map, unwrap_or}
use Rattle.std.specs.Str.Parse.{digits_value}
use Rattle.std.proofs.lemmas.Bool.{and_parts}
use Rattle.std.proofs.lemmas.Bool.Decides.{nat_tests}
use Rattle.std.proofs.lemmas.Fmt.{digits_decimal}
use Rattle.std.proofs.lemmas.List.Elements.{All-append, All-cons, All-head, All-tail, All-weaker}
use Rattle.std.proofs.lemmas.List.Splits.{slice_split_at}
use Rattle.std.proofs.lemmas.Str.Parse.{IsNumeralModel, numerals_by_value}
use Rattle.geda_defs.specs.Lines.{ended, is_line_feed}
use Rattle.hierarchy.proofs.ListLemmas.{all_flat_map, all_none}
use Rattle.printed_texts.specs.PrintedTexts.{flat, flat_byte, word, word_byte}
use Rattle.net_list.specs.declared.package.Package.{Package}
use Rattle.net_list.specs.declared.nets.Nets.{Nets}
use Rattle.spice_out.specs.declared.net_nodes.NetNode.{NetNode}
use Rattle.spice_out.specs.Cards.{card_letter, card_name, earlier_pieces, has_card, last_piece, name_byte, pin_count, pins_of_letter}
use Rattle.spice_out.specs.Nodes.{NodedNetData, noded_nets}
use Rattle.spice_out.specs.Pins.{PinData, first_at, numbers_of, refdes_pins}
use Rattle.spice_out.specs.SpiceLaws.{AreFew, card_fields, carded, cut_cards, is_card_line, is_space, node_at}
use Rattle.spice_out.specs.SpiceText.{card_line, line_with, node_comment, node_text, package_card, spice_text, value_of}
use Rattle.spice_out.proofs.NodeLemmas.{small}
use Rattle.spice_out.proofs.PinLemmas.{first_is_small}

-- ---- bytes that do not stand in a text

-- no byte of the text is this one
abbrev pub Lacks : ℕ → List ℕ → Type 0
Lacks c text = All (λ b. (b == c) ≡ false) text

-- a text of bytes that a function gives
made_lacks : (c : ℕ) (f : ℕ → ℕ) → ((b : ℕ) → (f b == c) ≡ false) → (text : List ℕ) → Lacks c (map f text)
made_lacks c f differs [] = all_none (λ b. (b == c) ≡ false)
made_lacks c f differs (b ∷ bs) = All-cons (λ b. (b == c) ≡ false) (f b) (map f bs) (differs b) (made_lacks c f differs bs)

own : IsNumeralModel (λ ds. list_all is_ascii_digit ds ≡ true) (digits_value 10)
own = numerals_by_value _ (search rules)

digit_differs : (c b : ℕ) → c < 48 → is_ascii_digit b ≡ true → (b == c) ≡ false
digit_differs c b low h = grind (arith, nat_tests)

digits_lack : (c : ℕ) → c < 48 → (ds : List ℕ) → list_all is_ascii_digit ds ≡ true → Lacks c ds
digits_lack c low [] h = all_none (λ b. (b == c) ≡ false)
digits_lack c low (d ∷ ds) h =
    let parts = and_parts (is_ascii_digit d) (list_all is_ascii_digit ds) h in
    All-cons (λ b. (b == c) ≡ false) d ds (digit_differs c d low parts.0) (digits_lack c low ds parts.1)

decimal_lacks : (c n : ℕ) → c < 48 → n < 2 ^ 64 → Lacks c (decimal n)
decimal_lacks c n low h = digits_lack c low (decimal n) (digits_decimal own n h)

name_byte_is : (c b : ℕ) → c < 48 → (name_byte b == c) ≡ false
name_byte_is c b low = grind (arith, nat_tests)

word_byte_is : (b : ℕ) → (word_byte b == 10) ≡ false
word_byte_is b = grind (arith, nat_tests)

flat_byte_is : (b : ℕ) → (flat_byte b == 10) ≡ false
flat_byte_is b = grind (arith, nat_tests)

name_lacks : (c : ℕ) → c < 48 → (refdes : List ℕ) → Lacks c (card_name refdes)
name_lacks c low refdes =
    All-append (λ b. (b == c) ≡ false) (map name_byte (last_piece refdes)) (flat_map (λ piece. 95 ∷ map name_byte piece) (earlier_pieces refdes))
    (made_lacks c name_byte (λ b. name_byte_is c b low) (last_piece refdes))
    (all_flat_map (λ piece. Unit {0}) (λ b. (b == c) ≡ false) (λ piece. 95 ∷ map name_byte piece)
    (λ piece _. All-cons (λ b. (b == c) ≡ false) 95 (map name_byte piece) (mark c low) (made_lacks c name_byte (λ b. name_byte_is c b low) piece))
    (earlier_pieces refdes) (λ k d h. tt))
  where
    mark : (c : ℕ) → c < 48 → (95 == c) ≡ false
    mark c low = grind (arith, nat_tests)

node_lacks : (c : ℕ) → c < 48 → (list : Nets) → AreFew list → (p : Package) (k : ℕ) → Lacks c (node_at list p k)
node_lacks c low list few p k = by (first_at (refdes_pins list.nets p.refdes) (decimal k)) refl
  where
    by : (at : Option NetNode) → first_at (refdes_pins list.nets p.refdes) (decimal k) ≡ at → Lacks c (node_text at)
    by None e = all_none (λ b. (b == c) ≡ false)
    by (Some at) e = decimal_lacks c at.node low (first_is_small list few p.refdes (decimal k) at e)

-- a text that is known
free : (t : Bool) → not t ≡ true → t ≡ false
free true h = absurd (true≢false (sym h))
free false h = refl

known_lacks : (text : List ℕ) → list_all (λ b. not (b == 10)) text ≡ true → Lacks 10 text
known_lacks [] h = all_none (λ b. (b == 10) ≡ false)
known_lacks (b ∷ bs) h =
    let parts = and_parts (not (b == 10)) (list_all (λ b. not (b == 10)) bs) h in
    All-cons (λ b. (b == 10) ≡ false) b bs (free (b == 10) parts.0) (known_lacks bs parts.1)

-- ---- fields

cut_fields : (node : ℕ → List ℕ) → ((k : ℕ) → Lacks 32 (node k)) → (name : List ℕ) → Lacks 32 name → (ks value : List ℕ)
    → slice_split is_space (name ++ flat_map (λ k. 32 ∷ node k) ks ++ 32 ∷ value) ≡ name ∷ (map node ks ++ slice_split is_space value)
cut_fields node plain name lacks [] value =
    ap (λ (text : List ℕ). slice_split is_space (text ++ 32 ∷ value)) (append-nil name)
    ∙ slice_split_at is_space name 32 value lacks refl
cut_fields node plain name lacks (k ∷ ks) value =
    ap (slice_split is_space) (append_assoc name (32 ∷ (node k ++ flat_map (λ k. 32 ∷ node k) ks)) (32 ∷ value))
    ∙ slice_split_at is_space name 32 (node k ++ flat_map (λ k. 32 ∷ node k) ks ++ 32 ∷ value) lacks refl
    ∙ ap (λ (fields : List (List ℕ)). name ∷ fields) (cut_fields node plain (node k) (plain k) ks value)

-- ---- lines

-- the lines of cards of a text
abbrev card_lines : List ℕ → List (List ℕ)
card_lines text = filter is_card_line (slice_split is_line_feed text)

cut_line : (line rest : List ℕ) → Lacks 10 line → card_lines (ended line ++ rest) ≡ cond (is_card_line line) (line ∷ card_lines rest) (card_lines rest)
cut_line line rest lacks =
    ap card_lines (append_assoc line (10 ∷ []) rest)
    ∙ ap (filter is_card_line) (slice_split_at is_line_feed line 10 rest lacks refl)

-- a line that is no card
record IsComment (line : List ℕ) : Type 0 where
  one : Lacks 10 line
  none : is_card_line line ≡ false

cut_comment : (line rest : List ℕ) → IsComment line → card_lines (ended line ++ rest) ≡ card_lines rest
cut_comment line rest is = cut_line line rest is.one ∙ rw is.none refl

net_comment : (d : NodedNetData) → d.at.node < 2 ^ 64 → IsComment (node_comment d)
net_comment d low = record {
  one = All-append (λ b. (b == 10) ≡ false) (codes "* node " ++ decimal d.at.node) (32 ∷ word d.net.name)
      (All-append (λ b. (b == 10) ≡ false) (codes "* node ") (decimal d.at.node) (known_lacks (codes "* node ") refl) (decimal_lacks 10 d.at.node (omega arith) low))
      (All-cons (λ b. (b == 10) ≡ false) 32 (word d.net.name) refl (made_lacks 10 word_byte word_byte_is d.net.name));
  none = refl;
}

-- comments leave no card
cut_comments : {X : Type 0} (f : X → List ℕ) (xs : List X) (rest : List ℕ) → All (λ x. IsComment (f x)) xs → card_lines (flat_map (λ x. ended (f x)) xs ++ rest) ≡ card_lines rest
cut_comments f [] rest all = refl
cut_comments f (x ∷ xs) rest all =
    ap card_lines (append_assoc (ended (f x)) (flat_map (λ x. ended (f x)) xs) rest)
    ∙ cut_comment (f x) (flat_map (λ x. ended (f x)) xs ++ rest) (All-head (λ x. IsComment (f x)) x xs all)
    ∙ cut_comments f xs rest (All-tail (λ x. IsComment (f x)) x xs all)

-- ---- cards

-- how many pins a package has decides not whether it has a card
one_letter : (many letter : ℕ) → is_some (pins_of_letter many letter) ≡ is_some (pins_of_letter 0 letter)
one_letter many letter = by (list_any (λ c. c == letter) (codes "RCLVID")) (letter == 81) (letter == 77) (letter == 88)
  where
    by : (a b c d : Bool) → is_some {T = ℕ} (cond a (Some 2) (cond b (Some 3) (cond c (Some 4) (cond d (Some many) None)))) ≡ is_some {T = ℕ} (cond a (Some 2) (cond b (Some 3) (cond c (Some 4) (cond d (Some 0) None))))
    by true b c d = refl
    by false true c d = refl
    by false false true d = refl
    by false false false true = refl
    by false false false false = refl

pub has_one : (refdes : List ℕ) (many : ℕ) → is_some (pin_count refdes many) ≡ has_card refdes
has_one refdes many = by (card_letter refdes)
  where
    by : (letter : Option ℕ) → is_some (option_and_then (pins_of_letter many) letter) ≡ is_some (option_and_then (pins_of_letter 0) letter)
    by None = refl
    by (Some letter) = one_letter many letter

name_starts : (b : ℕ) → not ((name_byte b == 42) || (name_byte b == 46)) ≡ true
name_starts b = grind (arith, nat_tests)

-- the line of a card begins with a byte of a name
begins : (many : ℕ) (last earlier nodes value : List ℕ) → is_some (option_and_then (pins_of_letter many) (option_map to_ascii_uppercase (slice_get last 0))) ≡ true
    → is_card_line (map name_byte last ++ earlier ++ nodes ++ value) ≡ true
begins many [] earlier nodes value h = absurd (true≢false (sym h))
begins many (b ∷ bs) earlier nodes value h = name_starts b

module _ (list : Nets) (few : AreFew list) where
  module _ (p : Package) where
    abbrev pins : List PinData
    pins = refdes_pins list.nets p.refdes

    abbrev count : Option ℕ
    count = pin_count p.refdes (length (numbers_of pins))

    card_lacks : (n : ℕ) → Lacks 10 (card_line pins p n)
    card_lacks n =
        let Free : ℕ → Type 0 = λ b. (b == 10) ≡ false in
        let node : ℕ → List ℕ = λ k. 32 ∷ node_at list p k in
        All-append Free (card_name p.refdes ++ flat_map node (range_with_len 1 n)) (32 ∷ flat (unwrap_or (value_of p) []))
        (All-append Free (card_name p.refdes) (flat_map node (range_with_len 1 n)) (name_lacks 10 (omega arith) p.refdes)
        (all_flat_map (λ k. Unit {0}) Free node (λ k _. All-cons Free 32 (node_at list p k) refl (node_lacks 10 (omega arith) list few p k)) (range_with_len 1 n) (λ k d h. tt)))
        (All-cons Free 32 (flat (unwrap_or (value_of p) [])) refl (made_lacks 10 flat_byte flat_byte_is (unwrap_or (value_of p) [])))

    skipped : IsComment (codes "* skipped " ++ word p.refdes)
    skipped = record {
      one = All-append (λ b. (b == 10) ≡ false) (codes "* skipped ") (word p.refdes) (known_lacks (codes "* skipped ") refl) (made_lacks 10 word_byte word_byte_is p.refdes);
      none = refl;
    }

    package_cut : (rest : List ℕ) → card_lines (ended (package_card list.nets p) ++ rest) ≡ cond (has_card p.refdes) (package_card list.nets p ∷ card_lines rest) (card_lines rest)
    package_cut rest = by count refl (has_one p.refdes (length (numbers_of pins)))
      where
        by : (c : Option ℕ) → count ≡ c → is_some c ≡ has_card p.refdes
            → card_lines (ended (line_with pins p c) ++ rest) ≡ cond (has_card p.refdes) (line_with pins p c ∷ card_lines rest) (card_lines rest)
        by None e h = cut_comment (codes "* skipped " ++ word p.refdes) rest skipped ∙ rw (sym h) refl
        by (Some n) e h =
            let begun = begins (length (numbers_of pins)) (last_piece p.refdes) (flat_map (λ piece. 95 ∷ map name_byte piece) (earlier_pieces p.refdes))
            (flat_map (λ k. 32 ∷ node_at list p k) (range_with_len 1 n)) (32 ∷ flat (unwrap_or (value_of p) [])) (ap is_some e) in
            cut_line (card_line pins p n) rest (card_lacks n)
            ∙ ap (λ (b : Bool). cond b (card_line pins p n ∷ card_lines rest) (card_lines rest)) (begun ∙ h)

    fields_are : has_card p.refdes ≡ true → slice_split is_space (package_card list.nets p) ≡ card_fields list p
    fields_are has = by count (has_one p.refdes (length (numbers_of pins)) ∙ has)
      where
        by : (c : Option ℕ) → is_some c ≡ true
            → slice_split is_space (line_with pins p c) ≡ card_name p.refdes ∷ (map (node_at list p) (range_with_len 1 (unwrap_or c 0)) ++ slice_split is_space (flat (unwrap_or (value_of p) [])))
        by None h = absurd (true≢false (sym h))
        by (Some n) h = cut_fields (node_at list p) (λ k. node_lacks 32 (omega arith) list few p k) (card_name p.refdes) (name_lacks 32 (omega arith) p.refdes) (range_with_len 1 n) (flat (unwrap_or (value_of p) []))

  cut_packages : (ps : List Package) (rest : List ℕ) → card_lines (flat_map (λ p. ended (package_card list.nets p)) ps ++ rest) ≡ map (package_card list.nets) (carded ps) ++ card_lines rest
  cut_packages [] rest = refl
  cut_packages (p ∷ ps) rest =
      ap card_lines (append_assoc (ended (package_card list.nets p)) (flat_map (λ p. ended (package_card list.nets p)) ps) rest)
      ∙ package_cut p (flat_map (λ p. ended (package_card list.nets p)) ps ++ rest)
      ∙ ap (λ (lines : List (List ℕ)). cond (has_card p.refdes) (package_card list.nets p ∷ lines) lines) (cut_packages ps rest)
      ∙ by (has_card p.refdes)
    where
      by : (b : Bool) → cond b (package_card list.nets p ∷ (map (package_card list.nets) (carded ps) ++ card_lines rest)) (map (package_card list.nets) (carded ps) ++ card_lines rest)
          ≡ map (package_card list.nets) (cond b (p ∷ carded ps) (carded ps)) ++ card_lines rest
      by true = refl
      by false = refl

  each_cut : (ps : List Package) → map (slice_split is_space) (map (package_card list.nets) (carded ps)) ≡ map (card_fields list) (carded ps)
  each_cut [] = refl
  each_cut (p ∷ ps) = by (has_card p.refdes) refl (each_cut ps)
    where
      by : (b : Bool) → has_card p.refdes ≡ b → map (slice_split is_space) (map (package_card list.nets) (carded ps)) ≡ map (card_fields list) (carded ps)
          → map (slice_split is_space) (map (package_card list.nets) (cond b (p ∷ carded ps) (carded ps))) ≡ map (card_fields list) (cond b (p ∷ carded ps) (carded ps))
      by true e h = ap₂ (λ (f : List (List ℕ)) (fs : List (List (List ℕ))). f ∷ fs) (fields_are p e) h
      by false e h = h

  -- the lines of cards are those of the packages with a card
  pub cards_are_cut : cut_cards (spice_text list) ≡ map (card_fields list) (carded list.packages)
  cards_are_cut =
      let nets = flat_map (λ n. ended (node_comment n)) (noded_nets list.nets) in
      let packages = flat_map (λ p. ended (package_card list.nets p)) list.packages in
      let last = ended (codes ".end") in
      ap (map (slice_split is_space))
      (ap card_lines (append_assoc (ended (codes "* gafd")) nets (packages ++ last))
      ∙ cut_comment (codes "* gafd") (nets ++ (packages ++ last)) (record { one = known_lacks (codes "* gafd") refl; none = refl })
      ∙ cut_comments node_comment (noded_nets list.nets) (packages ++ last)
      (All-weaker (λ d. d.at.node < 1 + length list.nets) (λ d. IsComment (node_comment d)) (λ d low. net_comment d (omega (arith, low, few))) (noded_nets list.nets) (small 0 1 list.nets))
      ∙ cut_packages list.packages last
      ∙ append-nil (map (package_card list.nets) (carded list.packages)))
      ∙ each_cut list.packages
