-- Numbers in ten digits.
use Rattle.std.proofs.Common.{◌≡◌, ◌^◌, ◌-◌, ◌++◌, List, ℕ, [], false, Result, Ok, Err, IfOk, IfSome, Some, ap, append-nil, arith, length, replicate, ◌∙◌}
use Rattle.std.specs.Fmt.{char_count, decimal, format_spec, padded_integral}
use Rattle.etcd_text.specs.Keys.{ten_digits}

-- what `{:010}` writes
pub in_ten_digits : (n : ℕ) → padded_integral (format_spec 32 0 4 10 (2 ^ 64 - 1)) false [] (decimal n) ≡ ten_digits n
unfolding padded_integral char_count
in_ten_digits n =
    let none : 10 - length (decimal n) - 0 - 0 ≡ 10 - length (decimal n) = omega arith in
    rw (append-nil (decimal n)) (ap (λ k. replicate k 48 ++ decimal n) none)

-- a text that was written is these bytes
pub written : {S E : Type 0} (bytes_of : S → List ℕ) (r : Result S E) (a b : List ℕ) → a ≡ b
    → IfOk r (λ s. IfSome (Some a) (λ bs. bytes_of s ≡ bs)) → IfOk r (λ s. bytes_of s ≡ b)
written bytes_of (Ok s) a b is h = h ∙ is
written bytes_of (Err e) a b is h = tt
