-- A file has about as many lines as bytes, at most.
use Rattle.std.proofs.Common.{ℕ, ◌+◌, ◌≤◌, List, [], ◌∷◌, length, arith}
use Rattle.std.specs.List.{slice_split}
use Rattle.std.proofs.lemmas.List.{length-map}
use Rattle.std.proofs.lemmas.List.Sums.{count_by-le-length}
use Rattle.std.proofs.lemmas.List.Splits.{length-slice_split}
use Rattle.geda_defs.specs.Lines.{is_line_feed}
use Rattle.geda_text.specs.Lines.{lines_of, without_crs, without_empty_end}

without_end : (ls : List (List ℕ)) → length (without_empty_end ls) ≤ length ls
without_end [] = omega arith
without_end ([] ∷ []) = omega arith
without_end ((b ∷ bs) ∷ []) = omega arith
without_end (x ∷ y ∷ ys) = let few = without_end (y ∷ ys) in omega (arith, few)

pub few_lines : (bytes : List ℕ) → length (lines_of bytes) ≤ length bytes + 1
unfolding lines_of
few_lines bytes = omega (arith, length-map (without_empty_end (slice_split is_line_feed bytes)) without_crs, without_end (slice_split is_line_feed bytes), length-slice_split is_line_feed bytes, count_by-le-length is_line_feed bytes)
