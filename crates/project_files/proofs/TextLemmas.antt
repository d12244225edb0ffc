-- Sums that stay at the end of their type, and limits of them.
use Rattle.std.proofs.Common.{◌≡◌, ℕ, ◌+◌, ◌-◌, ◌^◌, ◌<◌, ◌≤◌, ◌||◌, Bool, true, false, List, [], ◌∷◌, Some, None, length, min, drop, refl, sym, ap, ap₂, ◌∙◌, nat_lt, arith}
use Rattle.std.specs.List.{filter_map, flat_map, sum_by}
use Rattle.std.proofs.Math.Nat.{min-eq_left}
use Rattle.std.proofs.lemmas.Bool.{le-ltb, lt-ltb, ltb-false, ltb-true, ltb_from_iff}
use Rattle.std.proofs.lemmas.List.{drop_all}
use Rattle.std.proofs.lemmas.List.Concat.{length-flat_map}
use Rattle.std.proofs.lemmas.List.Sums.{sum_by-append, sum_by-cons}
use Rattle.geda_model.specs.Limits.{most_sheets, most_symbols}
use Rattle.geda_model.specs.Sheets.{SheetData}
use Rattle.project_files.specs.Gathering.{AskedSymbol, Gathered}
use Rattle.project_files.specs.Opening.{all_objects, found_symbol, is_over_full, found_library, object_bytes, project_text, symbol_bytes}
use Rattle.project_files.specs.steps.Counting.{asked_bytes, object_count, sheet_bytes}

zero_more : (n : ℕ) → n + 0 ≡ n
zero_more n = omega arith

zero_before : (n : ℕ) → 0 + n ≡ n
zero_before n = omega arith

-- where nothing is left, the sum is whole
pub whole_sum : {X : Type 0} (f : X → ℕ) (xs : List X) (i bytes all : ℕ) → length xs ≤ i → bytes ≤ 2 ^ 64 - 1 → min (bytes + sum_by f (drop i xs)) (2 ^ 64 - 1) ≡ all → bytes ≡ all
whole_sum {X = X} f xs i bytes all end fits e =
    let none : bytes + sum_by f (drop i xs) ≡ bytes = ap (λ (l : List X). bytes + sum_by f l) (drop_all i xs end) ∙ zero_more bytes in
    sym (ap (λ (n : ℕ). min n (2 ^ 64 - 1)) none ∙ min-eq_left fits) ∙ e

-- the bytes of the objects of all sheets, and of all symbols
pub sum_of_sheets : (sheets : List SheetData) → sum_by object_bytes (flat_map (λ (sheet : SheetData). sheet.objects) sheets) ≡ sum_by sheet_bytes sheets
sum_of_sheets [] = refl
sum_of_sheets (sheet ∷ sheets) =
    sum_by-append object_bytes sheet.objects (flat_map (λ (sheet : SheetData). sheet.objects) sheets) ∙ ap (λ (n : ℕ). sheet_bytes sheet + n) (sum_of_sheets sheets) ∙ sym (sum_by-cons sheet_bytes sheet sheets)

pub sum_of_symbols : (symbols : List AskedSymbol) → sum_by symbol_bytes (filter_map found_symbol symbols) ≡ sum_by asked_bytes symbols
sum_of_symbols [] = refl
sum_of_symbols ((name, None) ∷ symbols) = sum_of_symbols symbols ∙ sym (sum_by-cons asked_bytes (name, None) symbols ∙ zero_before (sum_by asked_bytes symbols))
sum_of_symbols ((name, Some symbol) ∷ symbols) =
    sum_by-cons symbol_bytes (name, symbol) (filter_map found_symbol symbols) ∙ ap (λ (n : ℕ). symbol_bytes (name, symbol) + n) (sum_of_symbols symbols) ∙ sym (sum_by-cons asked_bytes (name, Some symbol) symbols)

-- a limit within the type is passed by a sum where it is passed by what is kept of the sum
pub past_limit : (most kept all : ℕ) → most < 2 ^ 64 - 1 → kept ≡ min all (2 ^ 64 - 1) → nat_lt most kept ≡ nat_lt most all
past_limit most kept all within is =
    ltb_from_iff (λ e. let past = ltb-true most kept e in omega (arith, past, within, is), λ past. lt-ltb most kept (omega (arith, past, within, is)))

-- two sums that stay at the end of their type
pub both_sums : (one other kept first second : ℕ) → one ≡ min first (2 ^ 64 - 1) → other ≡ min second (2 ^ 64 - 1) → kept ≡ min (one + other) (2 ^ 64 - 1) → kept ≡ min (first + second) (2 ^ 64 - 1)
both_sums one other kept first second p q r = omega (arith, p, q, r)

-- the objects and the text of what is gathered
pub objects_of_sheets : (g : Gathered) (sheets : List SheetData) (count : ℕ) → sheets ≡ g.sheets → count ≡ min (sum_by object_count sheets) (2 ^ 64 - 1) → count ≡ min (length (all_objects g)) (2 ^ 64 - 1)
objects_of_sheets g sheets count same is =
    is ∙ ap (λ (l : List SheetData). min (sum_by object_count l) (2 ^ 64 - 1)) same ∙ ap (λ (n : ℕ). min n (2 ^ 64 - 1)) (sym (length-flat_map (λ (sheet : SheetData). sheet.objects) g.sheets))

pub text_of_parts : (g : Gathered) (sheets : List SheetData) (symbols : List AskedSymbol) (one other kept : ℕ) → sheets ≡ g.sheets → symbols ≡ g.symbols → one ≡ min (sum_by sheet_bytes sheets) (2 ^ 64 - 1) → other ≡ min (sum_by asked_bytes symbols) (2 ^ 64 - 1) → kept ≡ min (one + other) (2 ^ 64 - 1) → kept ≡ min (project_text g) (2 ^ 64 - 1)
text_of_parts g sheets symbols one other kept s t p q is =
    both_sums one other kept (sum_by object_bytes (all_objects g)) (sum_by symbol_bytes (found_library g))
    (p ∙ ap (λ (l : List SheetData). min (sum_by sheet_bytes l) (2 ^ 64 - 1)) s ∙ ap (λ (n : ℕ). min n (2 ^ 64 - 1)) (sym (sum_of_sheets g.sheets)))
    (q ∙ ap (λ (l : List AskedSymbol). min (sum_by asked_bytes l) (2 ^ 64 - 1)) t ∙ ap (λ (n : ℕ). min n (2 ^ 64 - 1)) (sym (sum_of_symbols g.symbols))) is

-- with no more sheets and symbols than there may be, the text decides
pub full_by_text : (g : Gathered) (kept : ℕ) → length g.sheets ≤ 1024 → length (found_library g) ≤ 8192 → kept ≡ min (project_text g) (2 ^ 64 - 1) → nat_lt 67108864 kept ≡ is_over_full g
full_by_text g kept sheets symbols is =
    past_limit 67108864 kept (project_text g) (omega arith) is
    ∙ sym (ap₂ (λ (a b : Bool). a || (b || nat_lt 67108864 (project_text g))) (le-ltb 1024 (length g.sheets) sheets) (le-ltb 8192 (length (found_library g)) symbols))

-- what is not over full has few sheets and symbols
pub few_parts : (g : Gathered) → is_over_full g ≡ false → (length g.sheets ≤ most_sheets) × (length (found_library g) ≤ most_symbols)
few_parts g e =
    let parts = or_false (nat_lt most_sheets (length g.sheets)) _ e in
    let more = or_false (nat_lt most_symbols (length (found_library g))) _ parts.1 in
    (ltb-false most_sheets (length g.sheets) parts.0, ltb-false most_symbols (length (found_library g)) more.0)
  where
    or_false : (a b : Bool) → (a || b) ≡ false → (a ≡ false) × (b ≡ false)
    or_false true b e = absurd cc
    or_false false b e = (refl, e)

-- where nothing is left, the bound is whole
pub whole_bound : {X : Type 0} (f : X → ℕ) (xs : List X) (i bytes all : ℕ) → length xs ≤ i → bytes ≤ 2 ^ 64 - 1 → all ≤ min (bytes + sum_by f (drop i xs)) (2 ^ 64 - 1) → all ≤ bytes
whole_bound f xs i bytes all end fits e =
    let whole = whole_sum f xs i bytes (min (bytes + sum_by f (drop i xs)) (2 ^ 64 - 1)) end fits refl in
    omega (arith, whole, e)

-- the text of what is gathered by the bounds of its parts
pub bound_of_parts : (g : Gathered) (sheets : List SheetData) (symbols : List AskedSymbol) (one other kept : ℕ) → sheets ≡ g.sheets → symbols ≡ g.symbols → min (sum_by sheet_bytes sheets) (2 ^ 64 - 1) ≤ one → other ≡ min (sum_by asked_bytes symbols) (2 ^ 64 - 1) → kept ≡ min (one + other) (2 ^ 64 - 1) → min (project_text g) (2 ^ 64 - 1) ≤ kept
bound_of_parts g sheets symbols one other kept s t p q is =
    let objects = ap (sum_by sheet_bytes) s ∙ sym (sum_of_sheets g.sheets) in
    let library = ap (sum_by asked_bytes) t ∙ sym (sum_of_symbols g.symbols) in
    omega (arith, p, q, is, objects, library)
