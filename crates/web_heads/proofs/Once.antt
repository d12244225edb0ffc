-- An input is cut into one list of messages only, whichever way it may end.
use Rattle.std.proofs.Common.{◌≡◌, ℕ, zero, suc, ◌+◌, ◌-◌, ◌≤◌, inl, inr, Bool, true, false, List, [], ◌∷◌, ◌++◌, length, take, drop, refl, sym, ap, ◌∙◌, subst, arith, append-nil, length-append, Result, Ok, Err}
use Rattle.std.proofs.lemmas.List.{take_at, drop_at}
use Rattle.std.proofs.Math.Seq.{take-append-add}
use Rattle.httparse.specs.Grammar.{RequestHead, print_request, ReadsRequest}
use Rattle.httparse.proofs.GrammarLemmas.{request_unique}
use Rattle.web_heads.specs.declared.cut_end.CutEnd.{CutEnd}
use Rattle.web_heads.specs.declared.cut_end.CutEnd.TheVariants.{Closed, CutShort, BadHead, LargeHead, LargeBody, Unsupported, Foreign, Spent}
use Rattle.web_heads.specs.Accesses.{AccessData}
use Rattle.web_heads.specs.Heads.{headers_of, length_by, says_close, speaker}
use Rattle.web_heads.specs.Links.{IsPrefixOf}
use Rattle.web_heads.specs.Cuts.{MessageData, BeginsWith, IsMessageBy, judged, IsRefused, EndsBy, Cut, Begins}

-- one head
pub same_head : (bytes : List ℕ) (h k : RequestHead) (r q : List ℕ) → BeginsWith bytes h r → BeginsWith bytes k q → (h ≡ k) × (r ≡ q)
same_head bytes h k r q b d = request_unique bytes h k r q b.reads d.reads

of_ok : {A E : Type 0} (d : A) → Result A E → A
of_ok d (Ok x) = x
of_ok d (Err e) = d

same_ok : (x y : ℕ) (a b : Result ℕ CutEnd) → a ≡ Ok x → b ≡ Ok y → a ≡ b → x ≡ y
unfolding of_ok
same_ok x y a b p q e = ap (of_ok 0) (sym p ∙ e ∙ q)

ok_err : (x : ℕ) (e : CutEnd) → Ok x ≡ Err e → ⊥
ok_err x e p = absurd (let q = p in cc)

-- one message
pub same_message : (access : AccessData) (bytes : List ℕ) (m k : MessageData) (r q : List ℕ) → IsMessageBy access bytes m r → IsMessageBy access bytes k q → (m ≡ k) × (r ≡ q)
same_message access bytes m k r q i j =
    let one = same_head bytes i.head j.head (m.body ++ r) (k.body ++ q) i.begins j.begins in
    let size : length m.body ≡ length k.body = same_ok (length m.body) (length k.body) (length_by access (headers_of i.head)) (length_by access (headers_of j.head)) i.sized j.sized (ap (λ h. length_by access (headers_of h)) one.0) in
    let body : m.body ≡ k.body = sym (take_at m.body r (length k.body) size) ∙ ap (take (length k.body)) one.1 ∙ take_at k.body q (length k.body) refl in
    let rest : r ≡ q = sym (drop_at m.body r (length k.body) size) ∙ ap (drop (length k.body)) one.1 ∙ drop_at k.body q (length k.body) refl in
    let method : m.method ≡ k.method = i.method ∙ ap (λ h. h.method) one.0 ∙ sym j.method in
    let target : m.target ≡ k.target = i.target ∙ ap (λ h. h.target) one.0 ∙ sym j.target in
    let closing : m.closing ≡ k.closing = i.closing ∙ ap (λ h. says_close h.minor (headers_of h)) one.0 ∙ sym j.closing in
    let user : m.user ≡ k.user = i.user ∙ ap (λ h. speaker access (headers_of h)) one.0 ∙ sym j.user in
    ((λ x. record { method = method x; target = target x; body = body x; closing = closing x; user = user x }), rest)

parts : (n : ℕ) → n ≤ 8192 → 8192 ≡ n + (8192 - n)
parts n few = omega (arith, few)

-- of a head that fits, each byte is judged
pub judged_head : (bytes : List ℕ) (h : RequestHead) (rest : List ℕ) → BeginsWith bytes h rest → ReadsRequest (judged bytes) h (take (8192 - length (print_request h)) rest)
judged_head bytes h rest b =
    (b.reads.0, ap (take 8192) b.reads.1 ∙ ap (λ n. take n (print_request h ++ rest)) (parts (length (print_request h)) b.short) ∙ take-append-add (print_request h) rest (8192 - length (print_request h)))

-- a head has bytes
some_bytes : (h : RequestHead) (rest : List ℕ) → print_request h ++ rest ≡ [] → ⊥
unfolding print_request
some_bytes h rest e = let n = ap length e in absurd (let m = simp length-append at n in omega (arith, m))

not_refused : (access : AccessData) (bytes : List ℕ) (m : MessageData) (rest : List ℕ) (e : CutEnd) → IsMessageBy access bytes m rest → IsRefused access bytes e → ⊥
not_refused access bytes m rest e i r =
    let one = same_head bytes i.head r.head (m.body ++ rest) r.rest i.begins r.begins in
    ok_err (length m.body) e (sym i.sized ∙ ap (λ h. length_by access (headers_of h)) one.0 ∙ r.refused)

-- where a whole head stands that is not refused, no end but inside its body may come
pub no_end : (access : AccessData) (bytes : List ℕ) (m : MessageData) (rest : List ℕ) (e : CutEnd) → IsMessageBy access bytes m rest → EndsBy access bytes e → ⊥
no_end access bytes m rest Closed i n = some_bytes i.head (m.body ++ rest) (sym i.begins.reads.1 ∙ n)
no_end access bytes m rest CutShort i (inl stops) = stops.nothing i.head (m.body ++ rest) i.begins.reads
no_end access bytes m rest CutShort i (inr stops) =
    let one = same_head bytes i.head stops.head (m.body ++ rest) stops.rest i.begins stops.begins in
    let size : length m.body ≡ stops.size = same_ok (length m.body) stops.size (length_by access (headers_of i.head)) (length_by access (headers_of stops.head)) i.sized stops.sized (ap (λ h. length_by access (headers_of h)) one.0) in
    let long : length m.body + length rest ≡ length stops.rest = sym (length-append m.body rest) ∙ ap length one.1 in
    let short = stops.short in
    absurd (omega arith)
no_end access bytes m rest BadHead i (inl never) =
    never [] i.head (take (8192 - length (print_request i.head)) (m.body ++ rest)) (subst (λ b. ReadsRequest b i.head (take (8192 - length (print_request i.head)) (m.body ++ rest))) (sym (append-nil (judged bytes))) (judged_head bytes i.head (m.body ++ rest) i.begins))
no_end access bytes m rest BadHead i (inr refused) = not_refused access bytes m rest BadHead i refused
no_end access bytes m rest LargeHead i (inl many) =
    let over = many.only [] i.head (take (8192 - length (print_request i.head)) (m.body ++ rest)) (subst (λ b. ReadsRequest b i.head (take (8192 - length (print_request i.head)) (m.body ++ rest))) (sym (append-nil (judged bytes))) (judged_head bytes i.head (m.body ++ rest) i.begins)) in
    let few = i.begins.few in
    absurd (omega (arith, over, few))
no_end access bytes m rest LargeHead i (inr none) = none.nothing i.head (take (8192 - length (print_request i.head)) (m.body ++ rest)) (judged_head bytes i.head (m.body ++ rest) i.begins)
no_end access bytes m rest LargeBody i refused = not_refused access bytes m rest LargeBody i refused
no_end access bytes m rest Unsupported i refused = not_refused access bytes m rest Unsupported i refused
no_end access bytes m rest Foreign i refused = not_refused access bytes m rest Foreign i refused
no_end access bytes m rest Spent i n = n

-- what was answered is the beginning of what is cut
pub first_cut : (access : AccessData) (room : ℕ) (bytes : List ℕ) (ms all : List MessageData) (e : CutEnd) → Begins access room bytes ms → Cut access room bytes all e → IsPrefixOf ms all
first_cut access room bytes [] all e b k = (all, refl)
first_cut access zero bytes (m ∷ ms) all e b k = absurd b
first_cut access (suc room) bytes (m ∷ ms) [] e b k = absurd (no_end access bytes m b.0 e b.1 k)
first_cut access (suc room) bytes (m ∷ ms) (n ∷ all) e b k =
    let one = same_message access bytes m n b.0 k.0 b.1 k.1 in
    go m.closing refl one (λ x y. first_cut access room k.0 ms all e x y)
  where
    step : IsPrefixOf ms all → m ≡ n → IsPrefixOf (m ∷ ms) (n ∷ all)
    step p q = (p.0, ap (λ x. x ∷ all) (sym q) ∙ ap (λ x. m ∷ x) p.1)

    go : (closing : Bool) → m.closing ≡ closing → (m ≡ n) × (b.0 ≡ k.0) → (Begins access room k.0 ms → Cut access room k.0 all e → IsPrefixOf ms all) → IsPrefixOf (m ∷ ms) (n ∷ all)
    go true y one again = (all, ap (λ x. x ∷ all) (sym one.0) ∙ ap (λ x. m ∷ (x ++ all)) (sym (b.2 y)))
    go false y one again = step (again (subst (λ r. Begins access room r ms) one.1 (b.3 y)) (k.3 (sym (ap (λ x. x.closing) one.0) ∙ y))) one.0

-- an input has one list of messages
pub one_cut : (access : AccessData) (room : ℕ) (bytes : List ℕ) (ms ks : List MessageData) (d e : CutEnd) → Cut access room bytes ms d → Cut access room bytes ks e → ms ≡ ks
one_cut access zero bytes [] [] d e c k = refl
one_cut access zero bytes (m ∷ ms) ks d e c k = absurd c
one_cut access zero bytes [] (n ∷ ks) d e c k = absurd k
one_cut access (suc room) bytes [] [] d e c k = refl
one_cut access (suc room) bytes [] (n ∷ ks) d e c k = absurd (no_end access bytes n k.0 d k.1 c)
one_cut access (suc room) bytes (m ∷ ms) [] d e c k = absurd (no_end access bytes m c.0 e c.1 k)
one_cut access (suc room) bytes (m ∷ ms) (n ∷ ks) d e c k = go m.closing refl (same_message access bytes m n c.0 k.0 c.1 k.1) (λ x y. one_cut access room k.0 ms ks d e x y)
  where
    go : (closing : Bool) → m.closing ≡ closing → (m ≡ n) × (c.0 ≡ k.0) → (Cut access room k.0 ms d → Cut access room k.0 ks e → ms ≡ ks) → m ∷ ms ≡ n ∷ ks
    go true y one again = ap (λ x. m ∷ x) ((c.2 y).0 ∙ sym (k.2 (sym (ap (λ x. x.closing) one.0) ∙ y)).0) ∙ ap (λ x. x ∷ ks) one.0
    go false y one again =
        ap (λ x. m ∷ x) (again (subst (λ r. Cut access room r ms d) one.1 (c.3 y)) (k.3 (sym (ap (λ x. x.closing) one.0) ∙ y))) ∙ ap (λ x. x ∷ ks) one.0
