-- The fields of a record, of which each is a text.
use Rattle.std.proofs.Common.{◌≡◌, ◌<◌, ◌≤◌, ◌+◌, ◌-◌, ◌∷◌, [], ℕ, zero, suc, true, false, List, Some, None, refl, arith, take, drop, get_or, get_or-drop, length}
use Rattle.std.specs.List.{list_all}
use Rattle.std.specs.Str.{IsAscii, is_utf8}
use Rattle.std.proofs.lemmas.Bool.{and_parts}
use Rattle.std.proofs.lemmas.List.{drop_all, drop_more}
use Rattle.std.proofs.lemmas.Str.{IsUtf8-from_ascii, is_utf8-from_IsUtf8}
use Rattle.csv.specs.Records.{cut_from, field_at}

-- there is no field at a place behind the last
pub no_field : (fields : List (List ℕ)) (i : ℕ) → field_at fields i ≡ None → get_or fields i [] ≡ []
unfolding field_at
no_field [] i e = refl
no_field (f ∷ fs) zero e = absurd (let t : Some f ≡ None = e in cc)
no_field (f ∷ fs) (suc i) e = no_field fs i e

-- each field is a text where all are
pub each_text : (fields : List (List ℕ)) (i : ℕ) (x : List ℕ) → list_all is_utf8 fields ≡ true → field_at fields i ≡ Some x → is_utf8 x ≡ true
unfolding field_at
each_text [] i x all e = absurd (let t : None ≡ Some x = e in cc)
each_text (f ∷ fs) zero x all e = let same : f ≡ x = (let t : Some f ≡ Some x = e in cc) in rw (← same) (and_parts (is_utf8 f) (list_all is_utf8 fs) all).0
each_text (f ∷ fs) (suc i) x all e = each_text fs i x (and_parts (is_utf8 f) (list_all is_utf8 fs) all).1 e

-- a field that is a text is passed over, and one that is none is found
pub text_next : (fields : List (List ℕ)) (i : ℕ) → i < length fields → is_utf8 (get_or fields i []) ≡ true
    → list_all is_utf8 (drop (i + 1) fields) ≡ list_all is_utf8 (drop i fields)
text_next fields i within good = rw (drop_more fields i [] within, good) refl

pub no_text : (fields : List (List ℕ)) (i : ℕ) → i < length fields → is_utf8 (get_or fields i []) ≡ false → list_all is_utf8 (drop i fields) ≡ false
no_text fields i within bad = rw (drop_more fields i [] within, bad) refl

pub no_more : (fields : List (List ℕ)) (i : ℕ) → length fields ≤ i → list_all is_utf8 (drop i fields) ≡ true
no_more fields i all = rw (drop_all i fields all) refl

ascii_take : (n : ℕ) (bytes : List ℕ) → IsAscii bytes → IsAscii (take n bytes)
ascii_take zero bytes h i = omega arith
ascii_take (suc n) [] h i = omega arith
ascii_take (suc n) (b ∷ bs) h zero = h 0
ascii_take (suc n) (b ∷ bs) h (suc i) = ascii_take n bs (λ j. h (suc j)) i

-- all fields are texts where all bytes are ASCII
pub all_ascii : (start : ℕ) (ends bytes : List ℕ) → IsAscii bytes → list_all is_utf8 (cut_from start ends bytes) ≡ true
unfolding cut_from
all_ascii start [] bytes h = refl
all_ascii start (end ∷ ends) bytes h =
    let rest : IsAscii (drop start bytes) = λ i. rw (get_or-drop start bytes i 0) (h (start + i)) in
    let one = is_utf8-from_IsUtf8 _ (IsUtf8-from_ascii _ (ascii_take (end - start) _ rest)) in
    rw (one, all_ascii end ends bytes h) refl
