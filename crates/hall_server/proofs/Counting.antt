-- What was seen and counted, and one more reply.
use Rattle.std.proofs.Common.{◌≡◌, ℕ, suc, ◌+◌, ◌-◌, ◌^◌, ◌<◌, ◌≤◌, ◌⊎◌, inl, inr, min, Bool, true, false, List, [], ◌∷◌, ◌++◌, length, take, filter, refl, sym, ap, ◌∙◌, subst, arith, append_assoc, append-nil, length-append}
use Rattle.std.proofs.lemmas.Bool.{cases_lt}
use Rattle.std.proofs.lemmas.List.{take_all, length-take-le}
use Rattle.std.specs.Bool.{if◌then◌else◌}
use Rattle.edit_entries.specs.Entries.{EntryData}
use Rattle.web_heads.specs.Cuts.{MessageData}
use Rattle.hall_server.specs.declared.reply_kind.ReplyKind.{ReplyKind}
use Rattle.hall_server.specs.declared.reply_kind.ReplyKind.TheVariants as kinds
use Rattle.web_heads.specs.Links.{IsPrefixOf}
use Rattle.hall_server.specs.Services.{Stand, Grows, one_more_loss}
use Rattle.hall_server.specs.steps.Responding.{Loses, Refuses, RespondsTo, WroteTo}
use Rattle.hall_server.specs.Connections.{CountsAnswers, RoseBy, HasRisenBy, is_lost, is_refused, is_lost_kind, is_refused_kind, lost_count, refused_count}
use Rattle.hall_server.specs.Transcripts.{Answered, IsAnswerTo, IsLostAt, IsReply}

pub prefix_refl : {A : Type 0} (xs : List A) → IsPrefixOf xs xs
prefix_refl xs = ([], sym (append-nil xs))

pub prefix_more : {A : Type 0} (xs ys zs : List A) → IsPrefixOf xs ys → IsPrefixOf ys zs → IsPrefixOf xs zs
prefix_more xs ys zs p q = (p.0 ++ q.0, q.1 ∙ ap (λ t. t ++ q.0) p.1 ∙ append_assoc xs p.0 q.0)

pub prefix_length : {A : Type 0} (xs ys : List A) → IsPrefixOf xs ys → length xs ≤ length ys
prefix_length xs ys p = let e = ap length p.1 in let l = length-append xs p.0 in omega (arith, e, l)

abbrev one : Bool → ℕ
one true = 1
one false = 0

one_more : (n m k : ℕ) → n ≡ m + k → suc n ≡ suc m + k
one_more n m k e = omega (arith, e)

count_push : {A : Type 0} (p : A → Bool) (xs : List A) (a : A) → length (filter p (xs ++ a ∷ [])) ≡ length (filter p xs) + one (p a)
count_push p [] a = go (p a)
  where
    go : (b : Bool) → length (if b then a ∷ [] else []) ≡ 0 + one b
    go true = refl
    go false = refl
count_push p (x ∷ xs) a = go (p x) (count_push p xs a)
  where
    go : (b : Bool) → length (filter p (xs ++ a ∷ [])) ≡ length (filter p xs) + one (p a)
        → length (if b then x ∷ filter p (xs ++ a ∷ []) else filter p (xs ++ a ∷ [])) ≡ length (if b then x ∷ filter p xs else filter p xs) + one (p a)
    go true e = one_more (length (filter p (xs ++ a ∷ []))) (length (filter p xs)) (one (p a)) e
    go false e = e

rose_same : (n first mid now : ℕ) → RoseBy n first mid → now ≡ mid → RoseBy (n + 0) first now
rose_same n first mid now (inl e) s = inl (omega (arith, e, s))
rose_same n first mid now (inr e) s = inr (s ∙ e)

rose_more : (n first mid now : ℕ) → RoseBy n first mid → now ≡ one_more_loss mid → RoseBy (n + 1) first now
rose_more n first mid now (inl e) s = go (cases_lt mid 4294967295)
  where
    go : (mid < 4294967295) ⊎ (4294967295 ≤ mid) → RoseBy (n + 1) first now
    go (inl few) = inl (omega (arith, e, s, few))
    go (inr many) = inr (omega (arith, s, many))
rose_more n first mid now (inr e) s = inr (omega (arith, e, s))

risen_same : (m n first mid now : ℕ) → min (first + n) m ≤ mid → mid ≤ now → min (first + (n + 0)) m ≤ now
risen_same m n first mid now h l = omega (arith, h, l)

risen_more : (m n first mid now : ℕ) → min (first + n) m ≤ mid → min (mid + 1) m ≤ now → min (first + (n + 1)) m ≤ now
risen_more m n first mid now h l = omega (arith, h, l)

loses_next : (n first mid now : ℕ) (kind : ReplyKind) → RoseBy n first mid → Loses mid now kind → RoseBy (n + one (is_lost_kind kind)) first now
loses_next n first mid now kinds.Lost r l = rose_more n first mid now r l
loses_next n first mid now kinds.Answer r l = rose_same n first mid now r l
loses_next n first mid now kinds.NoEntry r l = rose_same n first mid now r l
loses_next n first mid now kinds.NoMemory r l = rose_same n first mid now r l

refuses_next : (n first mid now : ℕ) (kind : ReplyKind) → HasRisenBy n first mid → Refuses mid now kind → HasRisenBy (n + one (is_refused_kind kind)) first now
refuses_next n first mid now kinds.NoEntry r l = risen_more (2 ^ 64 - 1) n first mid now r l
refuses_next n first mid now kinds.Answer r l = risen_same (2 ^ 64 - 1) n first mid now r l
refuses_next n first mid now kinds.Lost r l = risen_same (2 ^ 64 - 1) n first mid now r l
refuses_next n first mid now kinds.NoMemory r l = risen_same (2 ^ 64 - 1) n first mid now r l

rose_none : (n : ℕ) → RoseBy 0 n n
rose_none n = inl (omega arith)

risen_none : (m n : ℕ) → min (n + 0) m ≤ n
risen_none m n = omega arith

pub grows_more : (a b c : List EntryData) → Grows a b → Grows b c → Grows a c
grows_more a b c g h = (prefix_more a b c g.0 h.0, λ l. h.1 (g.1 l))

pub counts_start : (s : Stand) → CountsAnswers s s []
counts_start s = record {
  grown = (prefix_refl s.seen, λ l. l);
  losses = rose_none s.losses;
  refusals = risen_none (2 ^ 64 - 1) s.refusals;
}

pub counts_next : (first now new : Stand) (answers : List Answered) (a : Answered) (m : MessageData) (closing : Bool) (text : List ℕ)
    → CountsAnswers first now answers → RespondsTo now new m closing text a.kind → CountsAnswers first new (answers ++ a ∷ [])
counts_next first now new answers a m closing text c r = record {
  grown = grows_more first.seen now.seen new.seen c.grown r.grown;
  losses = subst (λ n. RoseBy n first.losses new.losses) (sym (count_push is_lost answers a)) (loses_next (lost_count answers) first.losses now.losses new.losses a.kind c.losses r.loses);
  refusals = subst (λ n. HasRisenBy n first.refusals new.refusals) (sym (count_push is_refused answers a)) (refuses_next (refused_count answers) first.refusals now.refusals new.refusals a.kind c.refusals r.refuses);
}

-- the reply stands at a front from any that there was on
pub reply_at : (old new : Stand) (m : MessageData) (closing : Bool) (text : List ℕ) (kind : ReplyKind) → RespondsTo old new m closing text kind
    → (from : ℕ) → from ≤ length old.seen → (front : ℕ) × (from ≤ front) × (front ≤ length new.seen) × IsReply from (take front new.seen) m closing kind text
reply_at old new m closing text kind r from few = go kind r.wrote
  where
    grown : length old.seen ≤ length new.seen
    grown = prefix_length old.seen new.seen r.grown.0

    go : (k : ReplyKind) → WroteTo new.seen m closing text k → (front : ℕ) × (from ≤ front) × (front ≤ length new.seen) × IsReply from (take front new.seen) m closing k text
    go kinds.Answer w = (length new.seen, omega (arith, few, grown), omega arith, subst (λ h. IsAnswerTo h m closing text) (sym (take_all (length new.seen) new.seen (omega arith))) w)
    go kinds.Lost w = (length new.seen, omega (arith, few, grown), omega arith, subst (λ h. IsLostAt h m closing text) (sym (take_all (length new.seen) new.seen (omega arith))) w)
    go kinds.NoEntry w = (from, omega arith, omega (arith, few, grown), (length-take-le from new.seen (omega (arith, few, grown)), w.0, w.1))
    go kinds.NoMemory w = (from, omega arith, omega (arith, few, grown), (length-take-le from new.seen (omega (arith, few, grown)), w))
