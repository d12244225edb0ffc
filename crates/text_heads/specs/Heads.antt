-- The first bytes of texts as numbers, by which most texts are told apart.
use Rattle.std.specs.Prelude.{◌≡◌, ℕ, zero, suc, ◌+◌, ◌*◌, ◌<◌, List, [], ◌∷◌, slice_index_or}

-- a number, and behind it so many first bytes of a text as digits in base 256; zeros where the text
-- ends
abbrev pub head_from : ℕ → ℕ → List ℕ → ℕ
head_from zero head bytes = head
head_from (suc n) head [] = head_from n (head * 256) []
head_from (suc n) head (b ∷ bytes) = head_from n (head * 256 + b) bytes

-- the head is that of so many bytes of a text
pub record IsTextHead (n head : ℕ) (text : List ℕ) : Type 0 where
  pub is : head ≡ head_from n 0 text
  pub bytes : (k : ℕ) → slice_index_or text k 0 < 256
