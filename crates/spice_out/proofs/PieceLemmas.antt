-- The name of a card by the pieces of its refdes.
use Rattle.std.proofs.Common.{◌≡◌, ◌∙◌, ℕ, ◌-◌, List, [], ◌∷◌, ◌++◌, Option, Some, length, map, take, sym, ap, refl, arith}
use Rattle.std.specs.Borrow.{Bor}
use Rattle.std.specs.List.{flat_map, slice_get}
use Rattle.std.specs.Option.{unwrap_or}
use Rattle.std.proofs.lemmas.List.{length-append, map-append}
use Rattle.std.proofs.Math.Seq.{take-append_seam}
use Rattle.spice_out.specs.Cards.{card_name, name_byte, pieces}
use Rattle.spice_out.specs.steps.CardNames.{seen}

-- the name by some pieces
abbrev name_by : List (List ℕ) → List ℕ
name_by ps = map name_byte (unwrap_or (slice_get ps (length ps - 1)) []) ++ flat_map (λ piece. 95 ∷ map name_byte piece) (take (length ps - 1) ps)

last_at : (xs : List (List ℕ)) (y : List ℕ) → slice_get (xs ++ y ∷ []) (length xs) ≡ Some y
last_at [] y = refl
last_at (x ∷ xs) y = last_at xs y

name_of_last : (xs : List (List ℕ)) (y : List ℕ) → name_by (xs ++ y ∷ []) ≡ map name_byte y ++ flat_map (λ piece. 95 ∷ map name_byte piece) xs
name_of_last xs y =
    let all = length-append xs (y ∷ []) in
    let before : length (xs ++ y ∷ []) - 1 ≡ length xs = omega (arith, all) in
    ap (λ (n : ℕ). map name_byte (unwrap_or (slice_get (xs ++ y ∷ []) n) []) ++ flat_map (λ piece. 95 ∷ map name_byte piece) (take n (xs ++ y ∷ []))) before
    ∙ ap (λ (last : Option (List ℕ)). map name_byte (unwrap_or last []) ++ flat_map (λ piece. 95 ∷ map name_byte piece) (take (length xs) (xs ++ y ∷ []))) (last_at xs y)
    ∙ ap (λ (earlier : List (List ℕ)). map name_byte y ++ flat_map (λ piece. 95 ∷ map name_byte piece) earlier) (take-append_seam xs (y ∷ []))

-- the name by lent pieces: the last one, and those before it
pub card_name_is : (refdes : List ℕ) (items earlier : List (Bor (List ℕ))) (last : Bor (List ℕ)) → seen items ≡ pieces refdes → items ≡ earlier ++ last ∷ []
    → map name_byte last.now ++ flat_map (λ piece. 95 ∷ map name_byte piece) (seen earlier) ≡ card_name refdes
card_name_is refdes items earlier last found is =
    sym (name_of_last (seen earlier) last.now)
    ∙ ap name_by (sym (map-append (λ piece. piece.now) earlier (last ∷ [])) ∙ ap seen (sym is) ∙ found)

-- without pieces there is none
pub no_name : (refdes : List ℕ) (items : List (Bor (List ℕ))) → seen items ≡ pieces refdes → length items ≡ 0 → ◌≡◌ {A = List ℕ} [] (card_name refdes)
no_name refdes [] found is = ap name_by found
no_name refdes (x ∷ xs) found is = absurd (omega (arith, is))
