-- The CRs at the end of a line.
use Rattle.std.proofs.Common.{◌≡◌, ◌≢◌, ℕ, Bool, true, false, cond, List, [], ◌∷◌, ◌++◌, eqb, refl, ap}
use Rattle.geda_text.specs.Lines.{unless_last_cr, without_crs, IsCutLine}
use Rattle.geda_text.specs.steps.Pieces.{HasNoLineFeed}

-- a CR at the end is dropped
pub without_crs-cr : (bs : List ℕ) → without_crs (bs ++ 13 ∷ []) ≡ without_crs bs
without_crs-cr [] = refl
without_crs-cr (b ∷ bs) = ap (unless_last_cr b) (without_crs-cr bs)

-- before any other byte at the end all is kept
pub without_crs-other : (bs : List ℕ) (last : ℕ) → eqb last 13 ≡ false → without_crs (bs ++ last ∷ []) ≡ bs ++ last ∷ []
without_crs-other [] last h = rw h refl
without_crs-other (b ∷ []) last h = ap (unless_last_cr b) (without_crs-other [] last h)
without_crs-other (b ∷ c ∷ cs) last h = ap (unless_last_cr b) (without_crs-other (c ∷ cs) last h)

-- what is left has no CR at its end
unless_again : (b : ℕ) (bs : List ℕ) → without_crs bs ≡ bs → without_crs (unless_last_cr b bs) ≡ unless_last_cr b bs
unless_again b [] h = go (eqb b 13) refl
  where
    go : (t : Bool) → eqb b 13 ≡ t → without_crs (cond t [] (b ∷ [])) ≡ cond t [] (b ∷ [])
    go true e = refl
    go false e = rw e refl
unless_again b (c ∷ cs) h = ap (unless_last_cr b) h

without_crs-again : (bs : List ℕ) → without_crs (without_crs bs) ≡ without_crs bs
without_crs-again [] = refl
without_crs-again (b ∷ bs) = unless_again b (without_crs bs) (without_crs-again bs)

-- nor has it a line feed
unless_one : (b : ℕ) (bs : List ℕ) → b ≢ 10 → HasNoLineFeed bs → HasNoLineFeed (unless_last_cr b bs)
unless_one b [] p h = go (eqb b 13)
  where
    go : (t : Bool) → HasNoLineFeed (cond t [] (b ∷ []))
    go true = tt
    go false = (p, tt)
unless_one b (c ∷ cs) p h = (p, h)

one_without_crs : (bs : List ℕ) → HasNoLineFeed bs → HasNoLineFeed (without_crs bs)
one_without_crs [] h = tt
one_without_crs (b ∷ bs) h = unless_one b (without_crs bs) h.0 (one_without_crs bs h.1)

-- so it can be a line of a file
pub cut_line : (bs : List ℕ) → HasNoLineFeed bs → IsCutLine (without_crs bs)
cut_line bs h = record { one = one_without_crs bs h; no_cr = without_crs-again bs }
