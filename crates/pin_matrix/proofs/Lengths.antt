-- Twelve rows of a lower triangle have 78 levels.
use Rattle.std.proofs.Common.{◌≡◌, ◌∙◌, ◌+◌, ◌==◌, ap, ap₂, refl, sym, ℕ, zero, suc, Bool, true, false, List, [], ◌∷◌, ◌++◌, Option, Some, None, arith, length, length-append, option_map, if◌then◌else◌}
use Rattle.std.specs.Prelude.{option_and_then}
use Rattle.std.proofs.lemmas.Bool.Decides.{nat_tests}
use Rattle.toml.specs.Data.{Data, Items, as_str, item, no_items}
use Rattle.pin_matrix.specs.Matrices.{level_of}
use Rattle.pin_matrix.specs.MatrixFiles.{levels_of, levels_row, rows_from}
use Rattle.pin_matrix.specs.declared.level.Level.{Level}

some_is : {X : Type 0} (a b : X) → Some a ≡ Some b → a ≡ b
some_is a b e = cc

none_some : {X : Type 0} (a : X) → None ≡ Some a → ⊥
none_some a e = cc

levels_length : (text : List ℕ) (ls : List Level) → levels_of text ≡ Some ls → length ls ≡ length text
levels_length [] ls e = ap length (sym (some_is [] ls e))
levels_length (b ∷ rest) ls e = go (levels_length rest) (level_of b) (levels_of rest) refl e
  where
    go : ((more : List Level) → levels_of rest ≡ Some more → length more ≡ length rest) → (first : Option Level) (q : Option (List Level)) → levels_of rest ≡ q → option_and_then (λ level. option_map (λ more. level ∷ more) q) first ≡ Some ls → length ls ≡ suc (length rest)
    go again None q is e = absurd (none_some ls e)
    go again (Some level) None is e = absurd (none_some ls e)
    go again (Some level) (Some more) is e = ap length (sym (some_is (level ∷ more) ls e)) ∙ ap suc (again more is)

row_length : (want : ℕ) (row : Data) (ls : List Level) → levels_row want row ≡ Some ls → length ls ≡ want
row_length want row ls e = go (as_str row) e
  where
    by_length : (text : List ℕ) (t : Bool) → (length text == want) ≡ t → (if t then levels_of text else None) ≡ Some ls → length ls ≡ want
    by_length text false is e = absurd (none_some ls e)
    by_length text true is e = levels_length text ls e ∙ grind (arith, nat_tests)

    go : (text : Option (List ℕ)) → option_and_then (λ text. if length text == want then levels_of text else None) text ≡ Some ls → length ls ≡ want
    go None e = absurd (none_some ls e)
    go (Some text) e = by_length text (length text == want) refl e

abbrev count : Items → ℕ
count no_items = 0
count (item row rest) = suc (count rest)

-- so many rows from the one with `want` levels on have these many levels
abbrev total : ℕ → ℕ → ℕ
total want zero = 0
total want (suc n) = want + total (want + 1) n

record Counts (want : ℕ) (rows : Items) (ls : List Level) : Type 0 where
  last : want + count rows ≡ 13
  all : length ls ≡ total want (count rows)

rows_length : (rows : Items) (want : ℕ) (ls : List Level) → rows_from want rows ≡ Some ls → Counts want rows ls
unfolding rows_from
rows_length no_items want ls e = go (want == 13) refl e
  where
    go : (t : Bool) → (want == 13) ≡ t → (if t then Some [] else None) ≡ Some ls → Counts want no_items ls
    go false is e = absurd (none_some ls e)
    go true is e = record { last = grind (arith, nat_tests); all = ap length (sym (some_is [] ls e)) }
rows_length (item row rest) want ls e = go (rows_length rest (want + 1)) (levels_row want row) refl (rows_from (want + 1) rest) refl e
  where
    go : ((more : List Level) → rows_from (want + 1) rest ≡ Some more → Counts (want + 1) rest more)
        → (first : Option (List Level)) → levels_row want row ≡ first → (q : Option (List Level)) → rows_from (want + 1) rest ≡ q
        → option_and_then (λ first. option_map (λ more. first ++ more) q) first ≡ Some ls → Counts want (item row rest) ls
    go again None is_first q is e = absurd (none_some ls e)
    go again (Some first) is_first None is e = absurd (none_some ls e)
    go again (Some first) is_first (Some more) is e =
        let rest_is = again more is in
        let own = row_length want row first is_first in
        let last = rest_is.last in
        record {
          last = omega arith;
          all = ap length (sym (some_is (first ++ more) ls e)) ∙ length-append first more ∙ ap₂ (λ (a b : ℕ). a + b) own rest_is.all;
        }

-- a whole matrix
pub whole : (rows : Items) (ls : List Level) → rows_from 1 rows ≡ Some ls → length ls ≡ 78
whole rows ls e =
    let counts = rows_length rows 1 ls e in
    let last = counts.last in
    let twelve : count rows ≡ 12 = omega arith in
    counts.all ∙ ap (total 1) twelve
