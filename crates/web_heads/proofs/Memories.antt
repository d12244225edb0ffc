-- A read of a connection in memory.
use Rattle.std.proofs.Common.{◌≡◌, ℕ, ◌<◌, ◌≤◌, min, List, [], ◌++◌, length, take, drop, Some, sym, ap, ◌∙◌, arith}
use Rattle.std.proofs.lemmas.List.{take_at, length-take-le, take-append-drop, nil_from_length}

no_bytes : (a b n : ℕ) → n ≡ min a b → n ≡ 0 → 0 < a → b ≡ 0
no_bytes a b n e z s = omega (arith, e, z, s)

drop_none : (n : ℕ) (xs : List ℕ) → xs ≡ [] → n ≡ 0 → drop n xs ≡ []
drop_none n xs e z = ap (λ k. drop k xs) z ∙ e

pub read_input : (room new left rest : List ℕ) (count : ℕ) → count ≡ min (length room) (length left) → new ≡ take count left ++ drop count room → rest ≡ drop count left
    → (count ≤ length room) × (Some left ≡ Some (take count new ++ rest)) × (count ≡ 0 → 0 < length room → rest ≡ [])
read_input room new left rest count least copied gone =
    let fits : count ≤ length room = omega (arith, least) in
    let there : count ≤ length left = omega (arith, least) in
    let front : take count new ≡ take count left = ap (take count) copied ∙ take_at (take count left) (drop count room) count (length-take-le count left there) in (
      fits,
      ap Some (sym (ap (λ t. t ++ rest) front ∙ ap (λ t. take count left ++ t) gone ∙ take-append-drop count left)),
      λ zero some. gone ∙ drop_none count left (nil_from_length left (no_bytes (length room) (length left) count least zero some)) zero,
    )
