-- Reading on until a message is whole.
use Rattle.std.proofs.Common.{◌≡◌, ◌≢◌, ℕ, ◌<◌, ◌≤◌, inl, inr, List, [], ◌∷◌, ◌++◌, length, drop, refl, sym, ap, ◌∙◌, subst, arith, append_assoc, append-nil, Option, Ok}
use Rattle.std.proofs.lemmas.List.{take_all}
use Rattle.httparse.specs.Grammar.{HasNoRequest, MayBecomeRequest}
use Rattle.web_heads.specs.declared.cut_end.CutEnd.TheVariants.{Closed, CutShort, LargeHead}
use Rattle.httparse.specs.Spans.{span_bytes}
use Rattle.web_heads.specs.declared.heads.Head.{Head}
use Rattle.web_heads.specs.Accesses.{AccessData}
use Rattle.web_heads.specs.Cuts.{MessageData, BeginsWith, IsMessageBy, StopsInBody, EndsBy}
use Rattle.web_heads.specs.Links.{with_front}
use Rattle.web_heads.specs.steps.Reading.{Takes, TakesSome, MovesSome, IsWhole, SameHead, user_at}
use Rattle.web_heads.specs.Messages.{Waits}
use Rattle.web_heads.proofs.Cutting.{BeginsWith-append}
use Rattle.web_heads.proofs.Fronts.{front_none, front_more}

-- 8,192 bytes with no end of the head
pub large_head : (access : AccessData) (bytes : List ℕ) → length bytes ≤ 8192 → 8192 ≤ length bytes → HasNoRequest bytes → MayBecomeRequest bytes → EndsBy access bytes LargeHead
large_head access bytes few many none may =
    let same = take_all 8192 bytes few in
    inr (record { long = many; nothing = subst HasNoRequest (sym same) none; unfinished = subst MayBecomeRequest (sym same) may })

pub takes_none : (told : Option (List ℕ)) (bytes : List ℕ) → TakesSome told told bytes bytes
takes_none told bytes = ([], (sym (front_none told), sym (append-nil bytes)))

pub takes_more : (before now after : Option (List ℕ)) (old mid new : List ℕ) → TakesSome before now old mid → (got : List ℕ) → Takes got now after mid new → TakesSome before after old new
takes_more before now after old mid new t got u =
    (t.0 ++ got, (t.1.0 ∙ ap (with_front t.0) u.0 ∙ front_more t.0 got after, u.1 ∙ ap (λ b. b ++ got) t.1.1 ∙ append_assoc old t.0 got))

pub takes_same : (before now after : Option (List ℕ)) (old mid new : List ℕ) → TakesSome before now old mid → after ≡ now → new ≡ mid → TakesSome before after old new
takes_same before now after old mid new t e f = (t.0, (t.1.0 ∙ ap (with_front t.0) (sym e), f ∙ t.1.1))

-- the bytes stop inside a head, if there are any
pub stops_in_head : (access : AccessData) (bytes : List ℕ) → bytes ≢ [] → length bytes < 8192 → HasNoRequest bytes → MayBecomeRequest bytes → EndsBy access bytes CutShort
stops_in_head access bytes some few none may = inl (record { some = some; short = few; nothing = none; unfinished = may })

pub waits_in_head : (access : AccessData) (bytes : List ℕ) → length bytes < 8192 → HasNoRequest bytes → MayBecomeRequest bytes → Waits access bytes
waits_in_head access [] few none may = (Closed, refl)
waits_in_head access (b ∷ bs) few none may = (CutShort, stops_in_head access (b ∷ bs) (λ e. absurd (cons_nil b bs e)) few none may)
  where
    cons_nil : (b : ℕ) (bs : List ℕ) → b ∷ bs ≡ [] → ⊥
    cons_nil b bs e = let h = ap length e in absurd (omega (arith, h))

pub moves_none : (told : Option (List ℕ)) (bytes body : List ℕ) → body ≡ [] → MovesSome told told bytes body bytes
moves_none told bytes body e = ([], (sym (front_none told), append-nil bytes ∙ ap (λ b. b ++ bytes) (sym e)))

-- more was read behind what is left
pub moves_read : (before now after : Option (List ℕ)) (old body mid new : List ℕ) → MovesSome before now old body mid → (got : List ℕ) → Takes got now after mid new → MovesSome before after old body new
moves_read before now after old body mid new m got u = (
  m.0 ++ got,
  (
    m.1.0 ∙ ap (with_front m.0) u.0 ∙ front_more m.0 got after,
    sym (append_assoc old m.0 got) ∙ ap (λ b. b ++ got) m.1.1 ∙ append_assoc body mid got ∙ ap (λ b. body ++ b) (sym u.1),
  ),
)

-- bytes went over to the body
pub moves_over : (before now : Option (List ℕ)) (old body mid next new : List ℕ) → MovesSome before now old body mid → body ++ mid ≡ next ++ new → MovesSome before now old next new
moves_over before now old body mid next new m e = (m.0, (m.1.0, m.1.1 ∙ e))

pub moves_same : (before now after : Option (List ℕ)) (old body mid new : List ℕ) → MovesSome before now old body mid → after ≡ now → new ≡ mid → MovesSome before after old body new
moves_same before now after old body mid new m e f = (m.0, (m.1.0 ∙ ap (with_front m.0) (sym e), m.1.1 ∙ ap (λ b. body ++ b) (sym f)))

-- the message that begin has begun
abbrev pub begun : List ℕ → Head → MessageData
begun bytes h = record { method = span_bytes bytes h.method; target = span_bytes bytes h.target; body = []; closing = h.closing; user = user_at bytes h.speaker }

-- a head, and then its body
pub is_message : (access : AccessData) (bytes got new : List ℕ) (h : Head) (m : MessageData) → IsWhole access bytes h → drop h.len bytes ++ got ≡ m.body ++ new → length m.body ≡ h.body → SameHead (begun bytes h) m → IsMessageBy access (bytes ++ got) m new
is_message access bytes got new h m w e l s = record {
  head = w.head;
  begins = subst (BeginsWith (bytes ++ got) w.head) e (BeginsWith-append bytes w.head (drop h.len bytes) got w.begins);
  sized = w.sized ∙ ap Ok (sym l);
  method = s.method ∙ w.method.1;
  target = s.target ∙ w.target.1;
  closing = s.closing ∙ w.closing;
  user = s.user ∙ w.user;
}

pub stops_in_body : (access : AccessData) (bytes got : List ℕ) (body : List ℕ) (h : Head) → IsWhole access bytes h → drop h.len bytes ++ got ≡ body ++ [] → length body < h.body → StopsInBody access (bytes ++ got)
stops_in_body access bytes got body h w e l = record {
  head = w.head;
  rest = body;
  size = h.body;
  begins = subst (BeginsWith (bytes ++ got) w.head) (e ∙ append-nil body) (BeginsWith-append bytes w.head (drop h.len bytes) got w.begins);
  sized = w.sized;
  short = l;
}

-- what the bytes of both parts tell of all of them
pub both : (P : List ℕ → Type 0) (before mid after : Option (List ℕ)) (old bytes left body new : List ℕ) (t : TakesSome before mid old bytes) (m : MovesSome mid after left body new) → P (bytes ++ m.0)
    → (got : List ℕ) × (before ≡ with_front got after) × P (old ++ got)
both P before mid after old bytes left body new t m p =
    (t.0 ++ m.0, t.1.0 ∙ ap (with_front t.0) m.1.0 ∙ front_more t.0 m.0 after, subst P (ap (λ b. b ++ m.0) t.1.1 ∙ append_assoc old t.0 m.0) p)

pub next_whole : (access : AccessData) (before mid after : Option (List ℕ)) (old bytes left new : List ℕ) (h : Head) (m0 m : MessageData) → TakesSome before mid old bytes → IsWhole access bytes h → left ≡ drop h.len bytes → m0 ≡ begun bytes h
    → MovesSome mid after left m.body new → length m.body ≡ h.body → SameHead m0 m → (got : List ℕ) × (before ≡ with_front got after) × IsMessageBy access (old ++ got) m new
next_whole access before mid after old bytes left new h m0 m t w l b v size s =
    both (λ all. IsMessageBy access all m new) before mid after old bytes left m.body new t v
    (is_message access bytes v.0 new h m w (ap (λ x. x ++ v.0) (sym l) ∙ v.1.1) size (subst (λ k. SameHead k m) b s))

pub next_stop : (access : AccessData) (before mid after : Option (List ℕ)) (old bytes left new body : List ℕ) (h : Head) → TakesSome before mid old bytes → IsWhole access bytes h → left ≡ drop h.len bytes
    → MovesSome mid after left body new → length body < h.body → new ≡ [] → (got : List ℕ) × (before ≡ with_front got after) × StopsInBody access (old ++ got)
next_stop access before mid after old bytes left new body h t w l v short none =
    both (StopsInBody access) before mid after old bytes left body new t v
    (stops_in_body access bytes v.0 body h w (ap (λ x. x ++ v.0) (sym l) ∙ v.1.1 ∙ ap (λ x. body ++ x) none) short)
