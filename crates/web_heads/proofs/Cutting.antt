-- What stands at the front of some bytes stands there, whatever follows: the laws of cutting.
use Rattle.std.proofs.Common.{◌≡◌, ℕ, zero, suc, ◌+◌, ◌-◌, ◌<◌, ◌≤◌, ◌⊎◌, inl, inr, true, false, List, [], ◌∷◌, ◌++◌, length, take, refl, sym, ap, ◌∙◌, subst, arith, append_assoc, append-nil, length-append}
use Rattle.std.proofs.lemmas.List.{take_all, take-append-le}
use Rattle.std.proofs.Math.Seq.{take-append-add}
use Rattle.std.proofs.lemmas.Bool.{cases_lt}
use Rattle.httparse.specs.Grammar.{RequestHead, ReadsRequest, HasNoRequest, NeverHasRequest, MayBecomeRequest}
use Rattle.httparse.specs.Spans.{RequestExceeds, RequestOverflows}
use Rattle.httparse.proofs.GrammarLemmas.{ReadsRequest-append}
use Rattle.web_heads.specs.declared.cut_end.CutEnd.{CutEnd}
use Rattle.web_heads.specs.declared.cut_end.CutEnd.TheVariants.{Closed, CutShort, BadHead, LargeHead, LargeBody, Unsupported, Foreign, Spent}
use Rattle.web_heads.specs.Accesses.{AccessData, open_access}
use Rattle.web_heads.specs.Cuts.{MessageData, BeginsWith, IsMessageBy, judged, HasNoEnd, HasTooManyHeaders, IsRefused, IsFinal, Ends, EndsBy, Cut, Begins}
use Rattle.web_heads.specs.steps.Fronts.{Front}

pub BeginsWith-append : (bytes : List ℕ) (head : RequestHead) (rest more : List ℕ) → BeginsWith bytes head rest → BeginsWith (bytes ++ more) head (rest ++ more)
BeginsWith-append bytes head rest more b = record {
  reads = ReadsRequest-append bytes head rest more b.reads;
  short = b.short;
  few = b.few;
}

pub IsMessageBy-append : (access : AccessData) (bytes : List ℕ) (m : MessageData) (rest more : List ℕ) → IsMessageBy access bytes m rest → IsMessageBy access (bytes ++ more) m (rest ++ more)
IsMessageBy-append access bytes m rest more i = record {
  head = i.head;
  begins = subst (BeginsWith (bytes ++ more) i.head) (append_assoc m.body rest more) (BeginsWith-append bytes i.head (m.body ++ rest) more i.begins);
  sized = i.sized;
  method = i.method;
  target = i.target;
  closing = i.closing;
  user = i.user;
}

parts : (n : ℕ) → n ≤ 8192 → 8192 ≡ n + (8192 - n)
parts n few = omega (arith, few)

-- more bytes are judged, behind the same ones
pub judged_more : (bytes more : List ℕ) → (next : List ℕ) × (judged (bytes ++ more) ≡ judged bytes ++ next)
judged_more bytes more = go (cases_lt (length bytes) 8192)
  where
    go : (length bytes < 8192) ⊎ (8192 ≤ length bytes) → (next : List ℕ) × (judged (bytes ++ more) ≡ judged bytes ++ next)
    go (inl few) = (take (8192 - length bytes) more, ap (λ n. take n (bytes ++ more)) (parts (length bytes) (omega (arith, few))) ∙ take-append-add bytes more (8192 - length bytes) ∙ ap (λ t. t ++ take (8192 - length bytes) more) (sym (take_all 8192 bytes (omega (arith, few)))))
    go (inr many) = ([], take-append-le 8192 bytes more many ∙ sym (append-nil (take 8192 bytes)))

pub Never-append : (bytes more : List ℕ) → NeverHasRequest bytes → NeverHasRequest (bytes ++ more)
Never-append bytes more never next = subst HasNoRequest (sym (append_assoc bytes more next)) (never (more ++ next))

pub Exceeds-append : (bytes more : List ℕ) → RequestExceeds 32 bytes → RequestExceeds 32 (bytes ++ more)
Exceeds-append bytes more e = (e.0, e.1 ++ more, ap (λ t. t ++ more) e.2 ∙ append_assoc e.0 e.1 more, e.3, e.4, e.5)

pub Overflows-append : (bytes more : List ℕ) → RequestOverflows 32 bytes → RequestOverflows 32 (bytes ++ more)
Overflows-append bytes more o next h rest r = o (more ++ next) h rest (subst (λ b. ReadsRequest b h rest) (append_assoc bytes more next) r)

pub IsRefused-append : (access : AccessData) (bytes more : List ℕ) (e : CutEnd) → IsRefused access bytes e → IsRefused access (bytes ++ more) e
IsRefused-append access bytes more e i = record {
  head = i.head;
  rest = i.rest ++ more;
  begins = BeginsWith-append bytes i.head i.rest more i.begins;
  refused = i.refused;
}

pub HasNoEnd-append : (bytes more : List ℕ) → HasNoEnd bytes → HasNoEnd (bytes ++ more)
HasNoEnd-append bytes more i =
    let same = take-append-le 8192 bytes more i.long in
    record {
      long = omega (arith, i.long, length-append bytes more);
      nothing = subst HasNoRequest (sym same) i.nothing;
      unfinished = subst MayBecomeRequest (sym same) i.unfinished;
    }

pub HasTooManyHeaders-append : (bytes more : List ℕ) → HasTooManyHeaders bytes → HasTooManyHeaders (bytes ++ more)
HasTooManyHeaders-append bytes more i =
    let j = judged_more bytes more in
    record {
      come = subst (RequestExceeds 32) (sym j.1) (Exceeds-append (judged bytes) j.0 i.come);
      only = subst (RequestOverflows 32) (sym j.1) (Overflows-append (judged bytes) j.0 i.only);
    }

-- a final end stays, whatever follows
pub EndsBy-append : (access : AccessData) (bytes more : List ℕ) (e : CutEnd) → IsFinal e → EndsBy access bytes e → EndsBy access (bytes ++ more) e
EndsBy-append access bytes more BadHead f (inl never) =
    let j = judged_more bytes more in inl (subst NeverHasRequest (sym j.1) (Never-append (judged bytes) j.0 never))
EndsBy-append access bytes more BadHead f (inr refused) = inr (IsRefused-append access bytes more BadHead refused)
EndsBy-append access bytes more LargeHead f (inl many) = inl (HasTooManyHeaders-append bytes more many)
EndsBy-append access bytes more LargeHead f (inr no_end) = inr (HasNoEnd-append bytes more no_end)
EndsBy-append access bytes more LargeBody f refused = IsRefused-append access bytes more LargeBody refused
EndsBy-append access bytes more Unsupported f refused = IsRefused-append access bytes more Unsupported refused
EndsBy-append access bytes more Foreign f refused = IsRefused-append access bytes more Foreign refused
EndsBy-append access bytes more Closed f e = absurd f
EndsBy-append access bytes more CutShort f e = absurd f
EndsBy-append access bytes more Spent f e = absurd f

pub Ends-append : (bytes more : List ℕ) (e : CutEnd) → IsFinal e → Ends bytes e → Ends (bytes ++ more) e
Ends-append = EndsBy-append open_access

-- the messages at the front stay, whatever follows
pub Front-append : (access : AccessData) (ms : List MessageData) (bytes rest more : List ℕ) → Front access bytes ms rest → Front access (bytes ++ more) ms (rest ++ more)
Front-append access [] bytes rest more f = ap (λ t. t ++ more) f
Front-append access (m ∷ ms) bytes rest more f =
    (f.0 ++ more, IsMessageBy-append access bytes m f.0 more f.1, f.2, Front-append access ms f.0 rest more f.3)

-- one message more
pub Front-push : (access : AccessData) (ms : List MessageData) (m : MessageData) (bytes rest next : List ℕ) → Front access bytes ms rest → IsMessageBy access rest m next → m.closing ≡ false → Front access bytes (ms ++ m ∷ []) next
Front-push access [] m bytes rest next f i e = (next, subst (λ b. IsMessageBy access b m next) (sym f) i, e, refl)
Front-push access (k ∷ ms) m bytes rest next f i e = (f.0, f.1, f.2, Front-push access ms m f.0 rest next f.3 i e)

nothing_more : (n : ℕ) → n ≡ 0 + n
nothing_more n = omega arith

one_more : (k n : ℕ) → suc (k + n) ≡ suc k + n
one_more k n = omega arith

-- what is cut behind the messages at the front is cut with them
pub Cut-front : (access : AccessData) (ms more : List MessageData) (room : ℕ) (bytes rest : List ℕ) (e : CutEnd) → Front access bytes ms rest → Cut access room rest more e → Cut access (length ms + room) bytes (ms ++ more) e
Cut-front access [] more room bytes rest e f k = subst (λ n. Cut access n bytes more e) (nothing_more room) (subst (λ b. Cut access room b more e) (sym f) k)
Cut-front access (m ∷ ms) more room bytes rest e f k = subst (λ n. Cut access n bytes (m ∷ (ms ++ more)) e) (one_more (length ms) room)
    (f.0, f.1, (λ y. absurd (let both = sym y ∙ f.2 in cc)), λ n. Cut-front access ms more room f.0 rest e f.3 k)

no_more : (access : AccessData) (room : ℕ) (bytes : List ℕ) → Begins access room bytes []
no_more access zero bytes = tt
no_more access (suc room) bytes = tt

-- the messages at the front are the first that are cut
pub Begins-front : (access : AccessData) (ms : List MessageData) (m : MessageData) (room : ℕ) (bytes rest next : List ℕ) → Front access bytes ms rest → IsMessageBy access rest m next → Begins access (length ms + suc room) bytes (ms ++ m ∷ [])
Begins-front access [] m room bytes rest next f i =
    subst (λ n. Begins access n bytes (m ∷ [])) (nothing_more (suc room)) (next, subst (λ b. IsMessageBy access b m next) (sym f) i, (λ y. refl), λ n. no_more access room next)
Begins-front access (k ∷ ms) m room bytes rest next f i =
    subst (λ n. Begins access n bytes (k ∷ (ms ++ m ∷ []))) (one_more (length ms) (suc room))
    (f.0, f.1, (λ y. absurd (let both = sym y ∙ f.2 in cc)), λ n. Begins-front access ms m room f.0 rest next f.3 i)

Begins-append : (access : AccessData) (room : ℕ) (ms : List MessageData) (bytes more : List ℕ) → Begins access room bytes ms → Begins access room (bytes ++ more) ms
Begins-append access zero [] bytes more b = tt
Begins-append access (suc room) [] bytes more b = tt
Begins-append access zero (m ∷ ms) bytes more b = b
Begins-append access (suc room) (m ∷ ms) bytes more b = (b.0 ++ more, IsMessageBy-append access bytes m b.0 more b.1, b.2, λ n. Begins-append access room ms b.0 more (b.3 n))

-- one message that says close, and nothing behind it
pub Cut-closing : (access : AccessData) (room : ℕ) (m : MessageData) (bytes rest : List ℕ) → IsMessageBy access bytes m rest → m.closing ≡ true → Cut access (suc room) bytes (m ∷ []) Closed
Cut-closing access room m bytes rest i closed = (rest, i, (λ y. (refl, refl)), λ n. absurd (let both = sym closed ∙ n in cc))
