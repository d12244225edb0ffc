-- What stands at the front of bytes that have come stands there, whatever follows.
use Rattle.std.proofs.Common.{◌≡◌, ℕ, ◌+◌, ◌-◌, ◌<◌, ◌≤◌, ◌⊎◌, inl, inr, min, List, ◌++◌, length, take, drop, refl, sym, ap, ◌∙◌, subst, arith, Ok, None}
use Rattle.std.proofs.Math.Nat.{min-eq_left, min-eq_right}
use Rattle.std.proofs.lemmas.Bool.{cases_lt}
use Rattle.std.proofs.lemmas.List.{drop-drop, drop-append-le, take-append-drop, take_all, length-append, length-take-le, length-drop}
use Rattle.web_heads.specs.declared.sizes.MessageFront.{MessageFront}
use Rattle.web_heads.specs.declared.sizes.MessageFront.TheVariants as fronts
use Rattle.web_heads.specs.declared.sizes.MessageSize.{MessageSize}
use Rattle.web_heads.specs.Cuts.{MessageData, BeginsWith, IsMessage, Ends}
use Rattle.web_heads.specs.Heads.{headers_of, says_close}
use Rattle.web_heads.specs.MessageFronts.{IsSized, IsMessageFront}
use Rattle.web_heads.proofs.Cutting.{BeginsWith-append, Ends-append}

pub sized_more : (bytes more : List ℕ) (size : MessageSize) → IsSized bytes size → IsSized (bytes ++ more) size
sized_more bytes more size s = record {
  head = s.head;
  begins = subst (BeginsWith (bytes ++ more) s.head) (sym (drop-append-le size.head bytes more s.within)) (BeginsWith-append bytes s.head (drop size.head bytes) more s.begins);
  within = longer (length (bytes ++ more)) (length bytes) (length more) size.head (length-append bytes more) s.within;
  sized = s.sized;
  few = s.few;
}
  where
    longer : (n m k h : ℕ) → n ≡ m + k → h ≤ m → h ≤ n
    longer n m k h e l = omega (arith, e, l)

-- a message whose head and body have come
pub sized_message : (bytes : List ℕ) (size : MessageSize) → IsSized bytes size → size.head + size.body ≤ length bytes → (message : MessageData) × IsMessage bytes message (drop (size.head + size.body) bytes)
sized_message bytes size s l = (
  message,
  record {
    head = s.head;
    begins = subst (BeginsWith bytes s.head) parts s.begins;
    sized = s.sized ∙ ap Ok (sym long);
    method = refl;
    target = refl;
    closing = refl;
    user = refl;
  },
)
  where
    after : List ℕ
    after = drop size.head bytes

    message : MessageData
    message = record { method = s.head.method; target = s.head.target; body = take size.body after; closing = says_close s.head.minor (headers_of s.head); user = None }

    parts : after ≡ take size.body after ++ drop (size.head + size.body) bytes
    parts = sym (take-append-drop size.body after) ∙ ap (λ r. take size.body after ++ r) (drop-drop size.body size.head bytes)

    long : length (take size.body after) ≡ size.body
    long = length-take-le size.body after (fits (length after) (length bytes) size.head size.body (length-drop size.head bytes) l)
      where
        fits : (n m h b : ℕ) → n ≡ m - h → h + b ≤ m → b ≤ n
        fits n m h b e k = omega (arith, e, k)

-- what is said of the first 8,192 bytes is so of all
pub front_judged : (bytes : List ℕ) (front : MessageFront) → 8192 ≤ length bytes → IsMessageFront (take 8192 bytes) front → IsMessageFront bytes front
front_judged bytes fronts.Open long f = absurd (over (length (take 8192 bytes)) (length-take-le 8192 bytes long) f.0)
  where
    over : (n : ℕ) → n ≡ 8192 → n < 8192 → ⊥
    over n e l = omega (arith, e, l)
front_judged bytes (fronts.Sized size) long f = subst (λ b. IsSized b size) (take-append-drop 8192 bytes) (sized_more (take 8192 bytes) (drop 8192 bytes) size f)
front_judged bytes fronts.Refused long f = (f.0, f.1, subst (λ b. Ends b f.0) (take-append-drop 8192 bytes) (Ends-append (take 8192 bytes) (drop 8192 bytes) f.0 f.1 f.2))

pub front_first : (bytes : List ℕ) (count : ℕ) (front : MessageFront) → count ≡ min (length bytes) 8192 → IsMessageFront (take count bytes) front → IsMessageFront bytes front
front_first bytes count front e first = go (cases_lt (length bytes) 8192)
  where
    f : IsMessageFront (take (min (length bytes) 8192) bytes) front
    f = subst (λ n. IsMessageFront (take n bytes) front) e first

    go : (length bytes < 8192) ⊎ (8192 ≤ length bytes) → IsMessageFront bytes front
    go (inl few) = subst (λ b. IsMessageFront b front) (ap (λ n. take n bytes) (min-eq_left (omega (arith, few))) ∙ take_all (length bytes) bytes (omega arith)) f
    go (inr many) = front_judged bytes front many (subst (λ n. IsMessageFront (take n bytes) front) (min-eq_right many) f)
