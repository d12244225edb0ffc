-- The version line.
use Rattle.std.proofs.Common.{◌≡◌, ◌⊎◌, inl, inr, ℕ, ◌-◌, ◌^◌, ◌<◌, ◌≤◌, false, List, [], ◌∷◌, ◌++◌, length, replicate, ap, arith}
use Rattle.std.specs.Fmt.{decimal, padded_integral, format_spec, char_count}
use Rattle.std.proofs.lemmas.Fmt.{decimal_digit, length-decimal-le}
use Rattle.std.proofs.lemmas.List.{append-nil, length-append, length-replicate}
use Rattle.geda_model.specs.Sheets.{HeadData, IsHead}
use Rattle.geda_grammar.specs.Canonical.{head_text}

-- zeros fill a number up to eight digits
pub padded_to_eight : (digits : List ℕ) → padded_integral (format_spec 32 0 4 8 (2 ^ 64 - 1)) false [] digits ≡ replicate (8 - length digits) 48 ++ digits
unfolding padded_integral char_count
padded_to_eight digits = let same : 8 - length digits - 0 - 0 ≡ 8 - length digits = omega arith in
    rw append-nil (ap (λ (n : ℕ). replicate n 48 ++ digits) same)

one_digit : (format : ℕ) → (format ≡ 1) ⊎ (format ≡ 2) → length (decimal format) ≡ 1
one_digit format known = ap length (decimal_digit format (small known))
  where
    small : (format ≡ 1) ⊎ (format ≡ 2) → format < 10
    small (inl e) = omega (arith, e)
    small (inr e) = omega (arith, e)

-- it has thirteen bytes
pub length_head : (h : HeadData) → IsHead h → length (head_text h) ≡ 13
length_head h head =
    let short : length (decimal h.date) ≤ 8 = length-decimal-le 8 h.date (omega arith) (omega (arith, head.date)) (omega (arith, head.date)) in
    let one = one_digit h.format head.format in
    let zeros : List ℕ = replicate (8 - length (decimal h.date)) 48 in
    let fields = length-append (zeros ++ decimal h.date) (32 ∷ decimal h.format) in
    let date = length-append zeros (decimal h.date) in
    let filled = length-replicate {A = ℕ} (8 - length (decimal h.date)) 48 in
    let line = length-append ((zeros ++ decimal h.date) ++ 32 ∷ decimal h.format) (10 ∷ []) in
    omega (arith, short, one, fields, date, filled, line)
