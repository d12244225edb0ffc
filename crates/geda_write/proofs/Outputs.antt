-- Pieces that go out one after the other.
use Rattle.std.proofs.Common.{◌≡◌, ℕ, ◌+◌, ◌-◌, ◌^◌, ◌<◌, List, [], ◌∷◌, ◌++◌, length, take, get_or, min, sym, ap, ◌∙◌, append_assoc, arith}
use Rattle.std.specs.List.{flat_map}
use Rattle.std.proofs.lemmas.Grind.{flat_map-append}
use Rattle.std.proofs.lemmas.List.{append-nil, length-append, take_more}
use Rattle.geda_write.specs.steps.Output.{Got, Written, Spare, more}

pub more_nothing : (got : Got) → more got [] ≡ got
unfolding more
more_nothing (Written bytes) = ap Written (append-nil bytes)
more_nothing (Spare count) = ap Spare (omega arith)

pub more_more : (got : Got) (first second : List ℕ) → more (more got first) second ≡ more got (first ++ second)
unfolding more
more_more (Written bytes) first second = ap Written (append_assoc bytes first second)
more_more (Spare count) first second = ap Spare (omega (arith, length-append first second))

-- the piece of one more item
pub more_next : {X : Type 0} (piece : X → List ℕ) (items : List X) (i : ℕ) (d : X) (start now next : Got) → i < length items → now ≡ more start (flat_map piece (take i items)) → next ≡ more now (piece (get_or items i d)) → next ≡ more start (flat_map piece (take (i + 1) items))
more_next piece items i d start now next within so_far one =
    let front = flat_map piece (take i items) in
    let longer : flat_map piece (take (i + 1) items) ≡ front ++ piece (get_or items i d) =
    ap (flat_map piece) (take_more items i d within) ∙ flat_map-append piece (take i items) (get_or items i d ∷ []) ∙ ap (λ (bs : List ℕ). front ++ bs) (append-nil (piece (get_or items i d))) in
    one ∙ ap (λ (got : Got). more got (piece (get_or items i d))) so_far ∙ more_more start front (piece (get_or items i d)) ∙ ap (more start) (sym longer)

-- what stands in a text, and what a count is
bytes_of : Got → List ℕ
bytes_of (Written bytes) = bytes
bytes_of (Spare count) = []

spare_of : Got → ℕ
spare_of (Written bytes) = 0
spare_of (Spare count) = count

pub written : (old new piece : List ℕ) → Written new ≡ more (Written old) piece → new ≡ old ++ piece
unfolding more bytes_of
written old new piece h = ap bytes_of h

pub counted : (old new : ℕ) (piece whole : List ℕ) → old < 2 ^ 64 → new < 2 ^ 64 → length whole ≡ old + length piece → Spare (2 ^ 64 - 1 - new) ≡ more (Spare (2 ^ 64 - 1 - old)) piece → new ≡ min (length whole) (2 ^ 64 - 1)
unfolding more spare_of
counted old new piece whole few fits size h = let left = ap spare_of h in omega (arith, few, fits, size, left)
