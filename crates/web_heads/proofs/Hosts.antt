-- The host in a value of Host.
use Rattle.std.proofs.Common.{◌≡◌, ℕ, zero, suc, ◌+◌, ◌<◌, false, List, [], ◌∷◌, ◌++◌, length, take, drop, ap, arith, refl, subst}
use Rattle.web_heads.specs.Accesses.{host_of, is_port_end}

-- no port stands at a place: the next byte belongs to the host
host_more : (n : ℕ) (value : List ℕ) → n < length value → is_port_end (drop n value) ≡ false → take (suc n) value ++ host_of (drop (suc n) value) ≡ take n value ++ host_of (drop n value)
host_more n [] few other = absurd (omega (arith, few))
host_more zero (b ∷ bs) few other = rw other refl
host_more (suc n) (b ∷ bs) few other = ap (λ t. b ∷ t) (host_more n bs (omega (arith, few)) other)

pub host_next : (n : ℕ) (value : List ℕ) → n < length value → is_port_end (drop n value) ≡ false → take (n + 1) value ++ host_of (drop (n + 1) value) ≡ take n value ++ host_of (drop n value)
host_next n value few other = subst (λ k. take k value ++ host_of (drop k value) ≡ take n value ++ host_of (drop n value)) (one n) (host_more n value few other)
  where
    one : (n : ℕ) → suc n ≡ n + 1
    one n = omega arith
