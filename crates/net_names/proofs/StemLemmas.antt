-- The stem of a number: the prefix and all digits but the last.
use Rattle.std.proofs.Common.{◌≡◌, ℕ, ◌+◌, ◌/◌, ◌%◌, ◌^◌, ◌<◌, List, [], ◌∷◌, ◌++◌, decimal, refl, arith, inl, inr}
use Rattle.std.proofs.lemmas.Bool.{cases_lt, eq-eqb, ne_eqb}
use Rattle.std.proofs.lemmas.Fmt.{decimal_digit, decimal_step}
use Rattle.std.proofs.lemmas.List.{append_assoc}
use Rattle.net_names.specs.steps.Numbering.{IsStemBefore, stem_of}

-- with the last digit it is the text of the number
pub stem_last : (prefix : List ℕ) (n : ℕ) → n < 2 ^ 64 → stem_of prefix n ++ (48 + n % 10) ∷ [] ≡ prefix ++ decimal n
stem_last prefix n small = elim (cases_lt n 10) [
  | inl below ↦
      let none : n / 10 ≡ 0 = omega (arith, below) in
      let same : n % 10 ≡ n = omega (arith, below) in
      rw (eq-eqb (n / 10) 0 none, same, decimal_digit n below) refl
  | inr above ↦
      rw (ne_eqb (n / 10) 0 (λ e. omega (arith, e, above)), decimal_step n above small) (append_assoc prefix (decimal (n / 10)) ((48 + n % 10) ∷ []))
]

-- that of the first number is the prefix alone
pub stem_first : (prefix : List ℕ) → IsStemBefore prefix 1 prefix
stem_first prefix = record { from_one = omega arith; same = λ more. refl }
