-- The row of a text, and its sum.
use Rattle.std.proofs.Common.{◌≡◌, ◌⊎◌, inl, inr, ◌∷◌, [], ◌-◌, ◌+◌, ◌/◌, ◌%◌, ◌==◌, ◌++◌, ℕ, Bool, true, false, List, length, take, drop, refl, sym, ap, subst, ◌∙◌, arith}
use Rattle.std.specs.Prelude.{if◌then◌else◌}
use Rattle.std.specs.List.{list_all, slice_index}
use Rattle.std.proofs.lemmas.Bool.{and_from}
use Rattle.std.proofs.lemmas.List.{length-append}
use Rattle.geda_text.specs.Lines.{is_blank}
use Rattle.file_keeper.specs.RowSums.{EndsInBlanks, IsRowPart, back, bit_blank, byte_blanks, digest_blanks, front, sum_of, summed}
use Rattle.md5.specs.Md5.{md5}

-- each blank is one
either : (set : Bool) → is_blank (if set then 9 else 32) ≡ true
either true = refl
either false = refl

pub bit_is : (byte weight : ℕ)
    → bit_blank byte weight ≡ (if byte / weight % 2 == 1 then 9 else 32)
unfolding bit_blank
bit_is byte weight = refl

one : (byte weight : ℕ) → is_blank (bit_blank byte weight) ≡ true
unfolding bit_blank
one byte weight = either (byte / weight % 2 == 1)

eight : (byte : ℕ) (rest : List ℕ) → list_all is_blank rest ≡ true
    → list_all is_blank (byte_blanks byte ++ rest) ≡ true
eight byte rest h =
    and_from _ _ (one byte 128) (and_from _ _ (one byte 64) (and_from _ _ (one byte 32)
    (and_from _ _ (one byte 16) (and_from _ _ (one byte 8) (and_from _ _ (one byte 4)
    (and_from _ _ (one byte 2) (and_from _ _ (one byte 1) h)))))))

pub sum_is : (row : List ℕ) → sum_of row ≡ digest_blanks (md5 row)
unfolding sum_of
sum_is row = refl

sum_length : (row : List ℕ) → length (sum_of row) ≡ 32
unfolding sum_of
sum_length row = refl

blanks : (row : List ℕ) → list_all is_blank (sum_of row) ≡ true
unfolding sum_of
blanks row =
    let digest = md5 row in
    let second = byte_blanks (slice_index digest 1) in
    let third = byte_blanks (slice_index digest 2) in
    let fourth = byte_blanks (slice_index digest 3) in
    eight (slice_index digest 0) (second ++ third ++ fourth)
    (eight (slice_index digest 1) (third ++ fourth)
    (eight (slice_index digest 2) fourth (eight (slice_index digest 3) [] refl)))

-- what stands before a list, and it
taken : (xs ys : List ℕ) → take (length xs) (xs ++ ys) ≡ xs
taken [] ys = refl
taken (x ∷ xs) ys = ap (λ zs. x ∷ zs) (taken xs ys)

dropped : (xs ys : List ℕ) → drop (length xs) (xs ++ ys) ≡ ys
dropped [] ys = refl
dropped (x ∷ xs) ys = dropped xs ys

module _ (row : List ℕ) where
  long : length (summed row) ≡ length row + 32
  long = length-append row (sum_of row) ∙ ap (λ n. length row + n) (sum_length row)

  start : length (summed row) - 32 ≡ length row
  start = let whole = long in omega (arith, whole)

  before : front (summed row) ≡ row
  before = ap (λ n. take n (summed row)) start ∙ taken row (sum_of row)

  behind : back (summed row) ≡ sum_of row
  behind = ap (λ n. drop n (summed row)) start ∙ dropped row (sum_of row)

  -- a row with its sum is that row
  pub own_part : IsRowPart (summed row) row
  own_part = inl (
    record {
      long = let whole = long in omega (arith, whole);
      blank = subst (λ text. list_all is_blank text ≡ true) (sym behind) (blanks row);
    },
    behind ∙ ap sum_of (sym before),
    sym before,
  )

-- a text has one row
pub one_part : (text first second : List ℕ) → IsRowPart text first → IsRowPart text second
    → first ≡ second
one_part text first second (inl a) (inl b) = a.2 ∙ sym b.2
one_part text first second (inl a) (inr b) = absurd (b.0 a.0)
one_part text first second (inr a) (inl b) = absurd (a.0 b.0)
one_part text first second (inr a) (inr b) = a.1 ∙ sym b.1
