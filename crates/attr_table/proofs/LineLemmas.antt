-- The line of an attribute, by its name and its value.
use Rattle.std.proofs.Common.{◌≡◌, ◌∙◌, ◌+◌, ◌<◌, ◌++◌, ◌∷◌, ◌||◌, ◌&&◌, ◌==◌, [], ℕ, suc, List, Bool, true, false, not, cond, Option, Some, None, codes, is_some, length, min, nat_lt, ◌-◌, ◌^◌, refl, sym, ap, arith, drop, take}
use Rattle.std.specs.List.{after_first, before_first, list_any, position_or_len}
use Rattle.std.proofs.lemmas.Bool.{and_parts}
use Rattle.std.proofs.lemmas.Bool.Decides.{nat_tests}
use Rattle.std.proofs.lemmas.List.{length-append}
use Rattle.std.proofs.lemmas.List.Folds.{list_any-append}
use Rattle.std.proofs.lemmas.List.Sums.{sum_by-cons}
use Rattle.std.proofs.Math.Seq.{drop-append_seam}
use Rattle.geda_defs.proofs.Bytes.{bytes_true}
use Rattle.geda_model.specs.Limits.{most_lines}
use Rattle.geda_model.specs.Ranges.{line_feeds}
use Rattle.attr_rules.specs.Attributes.{value_if}
use Rattle.attr_rules.specs.Splits.{ends_well, is_equals, split_of, starts_well}
use Rattle.edit_attr.specs.Attributes.{attr_line}
use Rattle.attr_table.specs.Cells.{is_cr}
use Rattle.attr_table.proofs.AgainCells.{split_line}

falsely : {P : Type 0} → true ≡ false → P
falsely e = absurd (let t : true ≡ false = e in cc)

falsely_too : {P : Type 0} → false ≡ true → P
falsely_too e = absurd (let t : false ≡ true = e in cc)

-- two tests of which each follows from the other
same_test : (a b : Bool) → (a ≡ true → b ≡ true) → (b ≡ true → a ≡ true) → a ≡ b
same_test true b f g = sym (f refl)
same_test false false f g = refl
same_test false true f g = g refl

-- nothing before the first `=` is one
none_before : (text : List ℕ) → list_any is_equals (before_first is_equals text) ≡ false
none_before [] = refl
none_before (b ∷ text) = by (is_equals b) refl (none_before text)
  where
    by : (e : Bool) → is_equals b ≡ e → list_any is_equals (before_first is_equals text) ≡ false
        → list_any is_equals (take (cond (not e) (1 + position_or_len is_equals text) 0) (b ∷ text)) ≡ false
    by true is h = refl
    by false is h =
        let more : 1 + position_or_len is_equals text ≡ suc (position_or_len is_equals text) = omega arith in
        ap (λ (n : ℕ). list_any is_equals (take n (b ∷ text))) more
        ∙ ap (λ (e : Bool). e || list_any is_equals (take (position_or_len is_equals text) text)) is
        ∙ h

-- the first `=` of a line stands behind the name
place_behind : (name value : List ℕ) → list_any is_equals name ≡ false → position_or_len is_equals (attr_line name value) ≡ length name
place_behind [] value h = refl
place_behind (b ∷ name) value h = by (is_equals b) refl h (place_behind name value)
  where
    by : (e : Bool) → is_equals b ≡ e → (e || list_any is_equals name) ≡ false → (list_any is_equals name ≡ false → position_or_len is_equals (attr_line name value) ≡ length name)
        → cond (not e) (1 + position_or_len is_equals (attr_line name value)) 0 ≡ suc (length name)
    by true is h f = falsely h
    by false is h f = omega (arith, f h)

-- what is needed for a line to be cut where it was joined
abbrev pub is_well_spelled : List ℕ → List ℕ → Bool
is_well_spelled name value = not (list_any is_equals name || not (ends_well name)) && starts_well value

front_of : Option (List ℕ × List ℕ) → List ℕ
front_of None = []
front_of (Some parts) = parts.0

back_of : Option (List ℕ × List ℕ) → List ℕ
back_of None = []
back_of (Some parts) = parts.1

-- a text that is cut at its first `=`
record IsCut (text : List ℕ) (name value : List ℕ) : Type 0 where
  pub front : before_first is_equals text ≡ name
  pub back : after_first is_equals text ≡ value
  pub ends : ends_well (before_first is_equals text) ≡ true
  pub starts : starts_well (after_first is_equals text) ≡ true

cut_parts : (text name value : List ℕ) → split_of text ≡ Some (name, value) → IsCut text name value
unfolding split_of front_of back_of
cut_parts text name value e =
    by (nat_lt (position_or_len is_equals text) (length text) && (ends_well (before_first is_equals text) && starts_well (after_first is_equals text))) refl e
  where
    by : (b : Bool)
        → (nat_lt (position_or_len is_equals text) (length text) && (ends_well (before_first is_equals text) && starts_well (after_first is_equals text))) ≡ b
        → cond {A = Option (List ℕ × List ℕ)} b (Some (before_first is_equals text, after_first is_equals text)) None ≡ Some (name, value) → IsCut text name value
    by false is h = absurd (let t : ◌≡◌ {A = Option (List ℕ × List ℕ)} None (Some (name, value)) = h in cc)
    by true is h =
        let parts = and_parts (nat_lt (position_or_len is_equals text) (length text)) (ends_well (before_first is_equals text) && starts_well (after_first is_equals text)) is in
        let good = and_parts (ends_well (before_first is_equals text)) (starts_well (after_first is_equals text)) parts.1 in
        record {
          front = ap front_of h;
          back = ap back_of h;
          ends = good.0;
          starts = good.1;
        }

is_good : (name value : List ℕ) → is_some (value_if name (split_of (attr_line name value))) ≡ true → is_well_spelled name value ≡ true
is_good name value e =
    let cut = cut_parts (attr_line name value) name value (split_line name value e) in
    let none : list_any is_equals name ≡ false = sym (ap (list_any is_equals) cut.front) ∙ none_before (attr_line name value) in
    let ends : ends_well name ≡ true = sym (ap ends_well cut.front) ∙ cut.ends in
    let starts : starts_well value ≡ true = sym (ap starts_well cut.back) ∙ cut.starts in
    rw (none, ends, starts) refl

take_name : (name value : List ℕ) → take (length name) (attr_line name value) ≡ name
take_name [] value = refl
take_name (b ∷ name) value = ap (λ (bs : List ℕ). b ∷ bs) (take_name name value)

true_below : (a b : ℕ) → a < b → nat_lt a b ≡ true
true_below a b h = grind (arith, nat_tests)

below : (a b : ℕ) → nat_lt a b ≡ true → a < b
below a b h = grind (arith, nat_tests)

all_three : (a b c : Bool) → a ≡ true → b ≡ true → c ≡ true → (a && (b && c)) ≡ true
all_three a b c e f g = rw (e, f, g) refl

neither : (a b : Bool) → not (a || not b) ≡ true → (a ≡ false) × (b ≡ true)
neither true b e = falsely_too e
neither false true e = (refl, refl)
neither false false e = falsely_too e

joined : (name value : List ℕ) → list_any is_equals name ≡ false → ends_well name ≡ true → starts_well value ≡ true → split_of (attr_line name value) ≡ Some (name, value)
unfolding split_of
joined name value none ends starts =
    let line = attr_line name value in
    let place = place_behind name value none in
    let one = length-append name (codes "=") in
    let all = length-append (name ++ codes "=") value in
    let behind : position_or_len is_equals line + 1 ≡ length (name ++ codes "=") = omega (arith, place, one) in
    let front : before_first is_equals line ≡ name = ap (λ (n : ℕ). take n line) place ∙ take_name name value in
    let back : after_first is_equals line ≡ value = ap (λ (n : ℕ). drop n line) behind ∙ drop-append_seam (name ++ codes "=") value in
    let within = true_below (position_or_len is_equals line) (length line) (omega (arith, place, one, all)) in
    let test = all_three (nat_lt (position_or_len is_equals line) (length line)) (ends_well (before_first is_equals line)) (starts_well (after_first is_equals line))
    within (ap ends_well front ∙ ends) (ap starts_well back ∙ starts) in
    ap (λ (b : Bool). cond {A = Option (List ℕ × List ℕ)} b (Some (before_first is_equals line, after_first is_equals line)) None) test
    ∙ (λ i. Some (front i, back i))

is_cut : (name value : List ℕ) → is_well_spelled name value ≡ true → is_some (value_if name (split_of (attr_line name value))) ≡ true
is_cut name value e =
    let parts = and_parts (not (list_any is_equals name || not (ends_well name))) (starts_well value) e in
    let good = neither (list_any is_equals name) (ends_well name) parts.0 in
    ap (λ (s : Option (List ℕ × List ℕ)). is_some (value_if name s)) (joined name value good.0 good.1 parts.1) ∙ rw (bytes_true name name refl) refl

-- a line is an attribute of its name where both are well spelled
pub well_spelled : (name value : List ℕ) → is_some (value_if name (split_of (attr_line name value))) ≡ is_well_spelled name value
well_spelled name value = same_test (is_some (value_if name (split_of (attr_line name value)))) (is_well_spelled name value) (is_good name value) (is_cut name value)

or_false : (b : Bool) → (b || false) ≡ b
or_false true = refl
or_false false = refl

-- the CRs and the lines of a line
pub cr_line : (name value : List ℕ) → list_any is_cr (attr_line name value) ≡ (list_any is_cr name || list_any is_cr value)
cr_line name value =
    list_any-append is_cr (name ++ codes "=") value
    ∙ ap (λ (b : Bool). b || list_any is_cr value) (list_any-append is_cr name (codes "=") ∙ or_false (list_any is_cr name))

is_feed : ℕ → ℕ
is_feed b = cond (b == 10) 1 0

feeds_cons : (b : ℕ) (bytes : List ℕ) → line_feeds (b ∷ bytes) ≡ is_feed b + line_feeds bytes
unfolding is_feed
feeds_cons b bytes = sum_by-cons (λ (c : ℕ). cond (c == 10) 1 0) b bytes

no_feed : is_feed 61 ≡ 0
unfolding is_feed
no_feed = refl

feeds_line : (name value : List ℕ) → line_feeds (attr_line name value) ≡ line_feeds name + line_feeds value
feeds_line [] value = let first = feeds_cons 61 value in let none = no_feed in omega (arith, first, none)
feeds_line (b ∷ name) value =
    let one = feeds_cons b name in
    let all = feeds_cons b (attr_line name value) in
    let rest = feeds_line name value in
    omega (arith, one, all, rest)

pub few_lines : (name value : List ℕ) → nat_lt (min (line_feeds name + line_feeds value) (2 ^ 64 - 1)) most_lines ≡ nat_lt (line_feeds (attr_line name value)) most_lines
few_lines name value =
    let feeds = feeds_line name value in
    same_test (nat_lt (min (line_feeds name + line_feeds value) (2 ^ 64 - 1)) most_lines) (nat_lt (line_feeds (attr_line name value)) most_lines)
    (λ e. let few = below (min (line_feeds name + line_feeds value) (2 ^ 64 - 1)) most_lines e in true_below (line_feeds (attr_line name value)) most_lines (omega (arith, feeds, few)))
    (λ e. let few = below (line_feeds (attr_line name value)) most_lines e in true_below (min (line_feeds name + line_feeds value) (2 ^ 64 - 1)) most_lines (omega (arith, feeds, few)))
