-- The values of Content-Length, and of Connection.
use Rattle.std.proofs.Common.{◌≡◌, ℕ, ◌≤◌, inr, Bool, true, false, ◌&&◌, nat_le, List, [], ◌∷◌, length, Result, Ok, Err, take, refl, sym, ap, ◌∙◌, subst, arith, codes, length-take}
use Rattle.std.proofs.lemmas.List.{take_all, length-map}
use Rattle.std.specs.Bool.{if◌then◌else◌}
use Rattle.std.specs.List.{list_all, list_any}
use Rattle.std.specs.Str.{bytes_eq}
use Rattle.std.specs.Str.Parse.{digits_value}
use Rattle.httparse.specs.Grammar.{Field, NeverHasRequest}
use Rattle.httparse.specs.declared.spans.HeaderSpan.{HeaderSpan}
use Rattle.httparse.specs.Spans.{RequestExceeds, RequestOverflows, AreFieldsAt, header_bytes, name_and_value}
use Rattle.web_heads.specs.declared.cut_end.CutEnd.{CutEnd}
use Rattle.web_heads.specs.declared.cut_end.CutEnd.TheVariants.{Closed, CutShort, BadHead, LargeHead, LargeBody, Unsupported, Foreign, Spent}
use Rattle.web_heads.specs.Cuts.{judged, IsFinal, IsRefused, HasTooManyHeaders, EndsBy}
use Rattle.web_heads.specs.Accesses.{AccessData}
use Rattle.web_heads.specs.Digits.{is_short_number}
use Rattle.web_heads.specs.Heads.{Header, headers_of, is_named, values_named, is_close, is_foreign, length_of, length_said, length_by}

-- the same bytes once more say nothing new
pub said_again : (v w : List ℕ) (vs : List (List ℕ)) → bytes_eq v w ≡ true → length_said (v ∷ w ∷ vs) ≡ length_said (v ∷ vs)
said_again v w vs h = rw h refl

-- other bytes are refused
pub said_otherwise : (v w : List ℕ) (vs : List (List ℕ)) → bytes_eq v w ≡ false → length_said (v ∷ w ∷ vs) ≡ Err BadHead
said_otherwise v w vs h = rw h (go (is_short_number v))
  where
    go : (b : Bool) → (if b && false then length_of (digits_value 10 v) else Err BadHead) ≡ Err BadHead
    go true = refl
    go false = refl

-- the ends that a whole head may say
abbrev pub SaysEnd : Result ℕ CutEnd → Type 0
SaysEnd (Ok n) = Unit {0}
SaysEnd (Err Closed) = ⊥
SaysEnd (Err CutShort) = ⊥
SaysEnd (Err BadHead) = Unit {0}
SaysEnd (Err LargeHead) = ⊥
SaysEnd (Err LargeBody) = Unit {0}
SaysEnd (Err Unsupported) = Unit {0}
SaysEnd (Err Foreign) = Unit {0}
SaysEnd (Err Spent) = ⊥

either : (b : Bool) (x y : Result ℕ CutEnd) → SaysEnd x → SaysEnd y → SaysEnd (if b then x else y)
either true x y p q = p
either false x y p q = q

said_end : (values : List (List ℕ)) → SaysEnd (length_said values)
said_end [] = tt
said_end (value ∷ values) = either (is_short_number value && list_all (bytes_eq value) values) (length_of (digits_value 10 value)) (Err BadHead) (either (nat_le (digits_value 10 value) 4194304) (Ok (digits_value 10 value)) (Err LargeBody) tt tt) tt

pub body_end : (access : AccessData) (headers : List Header) → SaysEnd (length_by access headers)
body_end access headers = either (list_any (is_named (codes "transfer-encoding")) headers) (Err Unsupported) (if is_foreign access.hosts headers then Err Foreign else length_said (values_named (codes "content-length") headers)) tt
    (either (is_foreign access.hosts headers) (Err Foreign) (length_said (values_named (codes "content-length") headers)) tt (said_end (values_named (codes "content-length") headers)))

-- a whole head that is refused ends the connection, whatever follows
pub refused_ends : (access : AccessData) (bytes : List ℕ) (e : CutEnd) → IsRefused access bytes e → IsFinal e × EndsBy access bytes e
refused_ends access bytes e r = go e r (subst SaysEnd r.refused (body_end access (headers_of r.head)))
  where
    go : (e : CutEnd) → IsRefused access bytes e → SaysEnd (Err e) → IsFinal e × EndsBy access bytes e
    go BadHead r s = (tt, inr r)
    go LargeBody r s = (tt, r)
    go Unsupported r s = (tt, r)
    go Foreign r s = (tt, r)
    go Closed r s = absurd s
    go CutShort r s = absurd s
    go LargeHead r s = absurd s
    go Spent r s = absurd s

pub too_many : (bytes : List ℕ) → length bytes ≤ 8192 → RequestExceeds 32 bytes → RequestOverflows 32 bytes → HasTooManyHeaders bytes
too_many bytes few e o = record {
  come = subst (RequestExceeds 32) (sym (take_all 8192 bytes few)) e;
  only = subst (RequestOverflows 32) (sym (take_all 8192 bytes few)) o;
}

pub never_head : (bytes : List ℕ) → length bytes ≤ 8192 → NeverHasRequest bytes → NeverHasRequest (judged bytes)
never_head bytes few n = subst NeverHasRequest (sym (take_all 8192 bytes few)) n

-- the fields are as many as the spans
pub few_fields : (buf : List ℕ) (headers : List HeaderSpan) (count : ℕ) (fields : List Field) → AreFieldsAt buf headers count fields → length headers ≤ 32 → length fields ≤ 32
few_fields buf headers count fields same few =
    let size : length fields ≡ length (take count headers) = sym (length-map fields name_and_value) ∙ sym (ap length same) ∙ length-map (take count headers) (header_bytes buf) in
    let part = length-take count headers in
    omega (arith, size, part, few)

-- a header that says close, and one that does not
pub some_close : (name : List ℕ) (h : Header) (hs : List Header) → (is_named name h && is_close h.1) ≡ true → list_any is_close (values_named name (h ∷ hs)) ≡ true
some_close name h hs e = go (is_named name h) (is_close h.1) refl refl e
  where
    go : (a b : Bool) → is_named name h ≡ a → is_close h.1 ≡ b → (a && b) ≡ true → list_any is_close (values_named name (h ∷ hs)) ≡ true
    go true true p q f = rw p (rw q refl)
    go true false p q f = absurd (let k = f in cc)
    go false b p q f = absurd (let k = f in cc)

pub no_close : (name : List ℕ) (h : Header) (hs : List Header) → (is_named name h && is_close h.1) ≡ false → list_any is_close (values_named name (h ∷ hs)) ≡ list_any is_close (values_named name hs)
no_close name h hs e = go (is_named name h) (is_close h.1) refl refl e
  where
    go : (a b : Bool) → is_named name h ≡ a → is_close h.1 ≡ b → (a && b) ≡ false → list_any is_close (values_named name (h ∷ hs)) ≡ list_any is_close (values_named name hs)
    go true true p q f = absurd (let k = f in cc)
    go true false p q f = rw p (rw q refl)
    go false b p q f = rw p refl
