-- Steps of the code; no public clause cites them.
use Rattle.std.specs.Prelude.{◌≡◌, ◌<◌, ℕ, ℤ, pos, neg_ℤ, false, List, [], ◌∷◌, Some}
use Rattle.geda_text.specs.Lines.{fields_of, first_field, is_blank, whole_of}

-- nothing, or what does not begin with a blank
abbrev pub StartsWord : List ℕ → Type 0
StartsWord [] = Unit {0}
StartsWord (b ∷ bs) = is_blank b ≡ false

-- the first field of bytes spells this number, and behind it are the fields of others
pub record BeginsWith (bytes : List ℕ) (value : ℤ) (others : List ℕ) : Type 0 where
  pub number : whole_of (first_field (fields_of bytes)) ≡ Some value
  pub fields : fields_of bytes ≡ first_field (fields_of bytes) ∷ fields_of others

-- the first field of bytes is the digits of this number, so that it may have a minus sign as well
pub record BeginsWithDigits (bytes : List ℕ) (value : ℕ) (others : List ℕ) : Type 0 where
  pub small : value < 1000000000
  pub plain : BeginsWith bytes (pos value) others
  pub minus : BeginsWith (45 ∷ bytes) (neg_ℤ (pos value)) others
