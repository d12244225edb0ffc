-- Serving a connection, one message after the other.
use Rattle.std.proofs.Common.{◌≡◌, ℕ, suc, ◌+◌, ◌-◌, ◌<◌, ◌≤◌, ◌⊎◌, inl, inr, true, false, List, [], ◌∷◌, ◌++◌, length, take, length-append, refl, sym, ap, ◌∙◌, subst, arith, append_assoc, append-nil, Option, Some}
use Rattle.web_heads.specs.declared.cut_end.CutEnd.{CutEnd}
use Rattle.web_heads.specs.declared.cut_end.CutEnd.TheVariants as cuts
use Rattle.hall_server.specs.declared.link_end.LinkEnd.{LinkEnd}
use Rattle.hall_server.specs.declared.link_end.LinkEnd.TheVariants as ends
use Rattle.web_heads.specs.Accesses.{AccessData}
use Rattle.web_heads.specs.Cuts.{MessageData, IsMessageBy, IsFinal, EndsBy, Cut, Begins}
use Rattle.web_heads.specs.steps.Fronts.{Front}
use Rattle.web_heads.specs.Links.{with_front, with_end, IsAtEnd, IsPrefixOf}
use Rattle.edit_entries.specs.Entries.{EntryData}
use Rattle.hall_server.specs.declared.reply_kind.ReplyKind.{ReplyKind}
use Rattle.hall_server.specs.Services.{Stand}
use Rattle.hall_server.specs.steps.Responding.{EndWrites, RespondsTo, SoFar, last_front}
use Rattle.web_heads.specs.Messages.{Waits, EndsNow}
use Rattle.hall_server.specs.Connections.{InReply, InEnd, EndsSo, Serves}
use Rattle.hall_server.specs.Transcripts.{Answered, IsReply, Replies, Transcript, closes, end_reply, link_end}
use Rattle.hall_server.proofs.Counting.{counts_start, counts_next, reply_at}
use Rattle.web_heads.proofs.Fronts.{front_none, front_more, end_none, end_more}
use Rattle.web_heads.proofs.Cutting.{EndsBy-append, Front-append, Front-push, IsMessageBy-append, Cut-front, Cut-closing, Begins-front}
use Rattle.hall_server.proofs.Replying.{Replies-grow, Replies-push}

pub last_front-push : (from : ℕ) (answers : List Answered) (a : Answered) → last_front from (answers ++ a ∷ []) ≡ a.front
last_front-push from [] a = refl
last_front-push from (g ∷ answers) a = last_front-push g.front answers a

pub prefix_behind : (xs ys zs : List ℕ) → IsPrefixOf ys zs → IsPrefixOf (xs ++ ys) (xs ++ zs)
prefix_behind xs ys zs p = (p.0, ap (λ t. xs ++ t) p.1 ∙ sym (append_assoc xs ys p.0))

-- an end stays the end of all of the input that is told
pub ends_with : (access : AccessData) (after : Option (List ℕ)) (bytes : List ℕ) (e : CutEnd) → EndsNow access after bytes e → (left : List ℕ) → after ≡ Some left → EndsBy access (bytes ++ left) e
ends_with access after bytes e n left told = go n.1
  where
    go : IsFinal e ⊎ IsAtEnd after → EndsBy access (bytes ++ left) e
    go (inl final) = EndsBy-append access bytes left e final n.0
    go (inr end) = subst (λ b. EndsBy access b e) (sym (append-nil bytes) ∙ ap (λ t. bytes ++ t) (sym (subst IsAtEnd told end))) n.0

room_left : (n : ℕ) → n < 10000 → n + suc (9999 - n) ≡ 10000
room_left n few = omega (arith, few)

no_room : (n : ℕ) → n ≡ 10000 → n + 0 ≡ 10000
no_room n e = omega (arith, e)

pub so_far_start : (access : AccessData) (h : Stand) (input output : Option (List ℕ)) (left : List ℕ) → left ≡ [] → SoFar access h h input input output output left 0
so_far_start access h input output left e = record {
  read = [];
  written = [];
  messages = [];
  answers = [];
  input = sym (front_none input);
  output = sym (end_none output);
  front = sym e;
  counted = refl;
  counts = counts_start h;
  replies = refl;
  below = omega arith;
}

-- the replies with one more
pub replies_next : (now new : Stand) (count from : ℕ) (ms : List MessageData) (answers : List Answered) (written : List ℕ) (m : MessageData) (a : Answered) (text : List ℕ)
    → length ms ≡ count → IsPrefixOf now.seen new.seen → Replies now.seen 0 from ms answers written → last_front from answers ≤ a.front → a.front ≤ length new.seen
    → IsReply (last_front from answers) (take a.front new.seen) m (closes count m) a.kind text
    → Replies new.seen 0 from (ms ++ m ∷ []) (answers ++ a ∷ []) (written ++ text)
replies_next now new count from ms answers written m a text l p r q b t =
    Replies-push new.seen 0 from ms answers written m a text
    (subst (λ h. Replies h 0 from ms answers written) (sym p.1) (Replies-grow now.seen p.0 0 from ms answers written r)) q b
    (subst (λ n. IsReply (last_front from answers) (take a.front new.seen) m (closes n m) a.kind text) (sym l ∙ nothing_first (length ms)) t)
  where
    nothing_first : (n : ℕ) → n ≡ 0 + n
    nothing_first n = omega arith

pub so_far_next : (access : AccessData) (first now new : Stand) (in0 in1 in2 out0 out1 out2 : Option (List ℕ)) (left left2 : List ℕ) (count : ℕ) (m : MessageData) (kind : ReplyKind) (text : List ℕ)
    → SoFar access first now in0 in1 out0 out1 left count → (got : List ℕ) → in1 ≡ with_front got in2 → IsMessageBy access (left ++ got) m left2
    → RespondsTo now new m (closes count m) text kind → out2 ≡ with_end text out1 → m.closing ≡ false → SoFar access first new in0 in2 out0 out2 left2 (count + 1)
so_far_next access first now new in0 in1 in2 out0 out1 out2 left left2 count m kind text s got i is a o unclosed =
    let reply = reply_at now new m (closes count m) text kind a (last_front (length first.seen) s.answers) s.below in
    let answer : Answered = record { front = reply.0; kind = kind } in
    record {
      read = s.read ++ got;
      written = s.written ++ text;
      messages = s.messages ++ m ∷ [];
      answers = s.answers ++ answer ∷ [];
      input = s.input ∙ ap (with_front s.read) i ∙ front_more s.read got in2;
      output = o ∙ ap (with_end text) s.output ∙ end_more s.written text out0;
      front = Front-push access s.messages m (s.read ++ got) (left ++ got) left2 (Front-append access s.messages s.read left got s.front) is unclosed;
      counted = length-append s.messages (m ∷ []) ∙ ap (λ n. n + 1) s.counted;
      counts = counts_next first now new s.answers answer m (closes count m) text s.counts a;
      replies = replies_next now new count (length first.seen) s.messages s.answers s.written m answer text s.counted a.grown.0 s.replies reply.1 reply.2 reply.3;
      below = subst (λ n. n ≤ length new.seen) (sym (last_front-push (length first.seen) s.answers answer)) reply.2;
    }

-- the last one says close
pub served_closed : (access : AccessData) (first now new : Stand) (in0 in1 in2 out0 out1 out2 : Option (List ℕ)) (left left2 : List ℕ) (count : ℕ) (m : MessageData) (kind : ReplyKind) (text : List ℕ) → count < 10000
    → SoFar access first now in0 in1 out0 out1 left count → (got : List ℕ) → in1 ≡ with_front got in2 → IsMessageBy access (left ++ got) m left2
    → RespondsTo now new m (closes count m) text kind → out2 ≡ with_end text out1 → m.closing ≡ true → Serves access first new in0 in2 out0 out2 ends.Closed
served_closed access first now new in0 in1 in2 out0 out1 out2 left left2 count m kind text few s got i is a o closed =
    let reply = reply_at now new m (closes count m) text kind a (last_front (length first.seen) s.answers) s.below in
    let answer : Answered = record { front = reply.0; kind = kind } in
    record {
      read = s.read ++ got;
      written = s.written ++ text;
      messages = s.messages ++ m ∷ [];
      answers = s.answers ++ answer ∷ [];
      input = s.input ∙ ap (with_front s.read) i ∙ front_more s.read got in2;
      output = o ∙ ap (with_end text) s.output ∙ end_more s.written text out0;
      counts = counts_next first now new s.answers answer m (closes count m) text s.counts a;
      so = (
        cuts.Closed,
        refl,
        (s.written ++ text, replies_next now new count (length first.seen) s.messages s.answers s.written m answer text s.counted a.grown.0 s.replies reply.1 reply.2 reply.3, sym (append-nil (s.written ++ text))),
        λ rest told. subst (λ n. Cut access n ((s.read ++ got) ++ rest) (s.messages ++ m ∷ []) cuts.Closed) (room_left (length s.messages) (subst (λ n. n < 10000) (sym s.counted) few))
            (Cut-front access s.messages (m ∷ []) (suc (9999 - length s.messages)) ((s.read ++ got) ++ rest) ((left ++ got) ++ rest) cuts.Closed
            (Front-append access s.messages (s.read ++ got) (left ++ got) rest (Front-append access s.messages s.read left got s.front))
            (Cut-closing access (9999 - length s.messages) m ((left ++ got) ++ rest) (left2 ++ rest) (IsMessageBy-append access (left ++ got) m left2 rest is) closed)),
      );
    }

-- the write of a reply failed
pub served_write : (access : AccessData) (first now new : Stand) (in0 in1 in2 out0 out1 out2 : Option (List ℕ)) (left left2 : List ℕ) (count : ℕ) (m : MessageData) (kind : ReplyKind) (text : List ℕ) → count < 10000
    → SoFar access first now in0 in1 out0 out1 left count → (got : List ℕ) → in1 ≡ with_front got in2 → IsMessageBy access (left ++ got) m left2
    → RespondsTo now new m (closes count m) text kind → (front : List ℕ) → IsPrefixOf front text → out2 ≡ with_end front out1 → Serves access first new in0 in2 out0 out2 ends.WriteFault
served_write access first now new in0 in1 in2 out0 out1 out2 left left2 count m kind text few s got i is a front p o =
    let reply = reply_at now new m (closes count m) text kind a (last_front (length first.seen) s.answers) s.below in
    let answer : Answered = record { front = reply.0; kind = kind } in
    record {
      read = s.read ++ got;
      written = s.written ++ front;
      messages = s.messages ++ m ∷ [];
      answers = s.answers ++ answer ∷ [];
      input = s.input ∙ ap (with_front s.read) i ∙ front_more s.read got in2;
      output = o ∙ ap (with_end front) s.output ∙ end_more s.written front out0;
      counts = counts_next first now new s.answers answer m (closes count m) text s.counts a;
      so = InReply (s.written ++ text) (prefix_behind s.written front text p)
          (subst (λ n. Begins access n (s.read ++ got) (s.messages ++ m ∷ [])) (room_left (length s.messages) (subst (λ n. n < 10000) (sym s.counted) few))
          (Begins-front access s.messages m (9999 - length s.messages) (s.read ++ got) (left ++ got) left2 (Front-append access s.messages s.read left got s.front) is))
          (replies_next now new count (length first.seen) s.messages s.answers s.written m answer text s.counted a.grown.0 s.replies reply.1 reply.2 reply.3);
    }

-- what is cut behind the messages so far
pub cut_here : (access : AccessData) (ms : List MessageData) (count : ℕ) (read left : List ℕ) (e : CutEnd) → length ms ≡ count → count < 10000 → Front access read ms left → EndsBy access left e → Cut access 10000 read ms e
cut_here access ms count read left e l few f n =
    subst (λ ks. Cut access 10000 read ks e) (append-nil ms)
    (subst (λ k. Cut access k read (ms ++ []) e) (room_left (length ms) (subst (λ k. k < 10000) (sym l) few))
    (Cut-front access ms [] (suc (9999 - length ms)) read left e f n))

pub served_fault : (access : AccessData) (first now : Stand) (in0 in1 in2 out0 out1 : Option (List ℕ)) (left : List ℕ) (count : ℕ) → count < 10000
    → SoFar access first now in0 in1 out0 out1 left count → (got : List ℕ) → in1 ≡ with_front got in2 → Waits access (left ++ got) → Serves access first now in0 in2 out0 out1 ends.ReadFault
served_fault access first now in0 in1 in2 out0 out1 left count few s got i w = record {
  read = s.read ++ got;
  written = s.written;
  messages = s.messages;
  answers = s.answers;
  input = s.input ∙ ap (with_front s.read) i ∙ front_more s.read got in2;
  output = s.output;
  counts = s.counts;
  so = (w.0, cut_here access s.messages count (s.read ++ got) (left ++ got) w.0 s.counted few (Front-append access s.messages s.read left got s.front) w.1, s.replies);
}

-- all 10,000 are answered
pub served_spent : (access : AccessData) (first now : Stand) (in0 in1 out0 out1 : Option (List ℕ)) (left : List ℕ) → SoFar access first now in0 in1 out0 out1 left 10000 → Serves access first now in0 in1 out0 out1 ends.Spent
served_spent access first now in0 in1 out0 out1 left s = record {
  read = s.read;
  written = s.written;
  messages = s.messages;
  answers = s.answers;
  input = s.input;
  output = s.output;
  counts = s.counts;
  so = (
    cuts.Spent,
    refl,
    (s.written, s.replies, sym (append-nil s.written)),
    λ rest told. subst (λ ks. Cut access 10000 (s.read ++ rest) ks cuts.Spent) (append-nil s.messages)
        (subst (λ n. Cut access n (s.read ++ rest) (s.messages ++ []) cuts.Spent) (no_room (length s.messages) s.counted)
        (Cut-front access s.messages [] 0 (s.read ++ rest) (left ++ rest) cuts.Spent (Front-append access s.messages s.read left rest s.front) refl)),
  );
}

so_of : (access : AccessData) (h : List EntryData) (from : ℕ) (read : List ℕ) (in_now : Option (List ℕ)) (ms : List MessageData) (fs : List Answered) (written : List ℕ) (at : CutEnd)
    → Transcript ms at written h from fs → ((left : List ℕ) → in_now ≡ Some left → Cut access 10000 (read ++ left) ms at) → EndsSo access h from read in_now ms fs written (link_end at)
so_of access h from read in_now ms fs written cuts.Closed t k = (cuts.Closed, refl, t, k)
so_of access h from read in_now ms fs written cuts.CutShort t k = (cuts.CutShort, refl, t, k)
so_of access h from read in_now ms fs written cuts.BadHead t k = (cuts.BadHead, refl, t, k)
so_of access h from read in_now ms fs written cuts.LargeHead t k = (cuts.LargeHead, refl, t, k)
so_of access h from read in_now ms fs written cuts.LargeBody t k = (cuts.LargeBody, refl, t, k)
so_of access h from read in_now ms fs written cuts.Unsupported t k = (cuts.Unsupported, refl, t, k)
so_of access h from read in_now ms fs written cuts.Foreign t k = (cuts.Foreign, refl, t, k)
so_of access h from read in_now ms fs written cuts.Spent t k = (cuts.Spent, refl, t, k)

-- an end, and what was written at it
pub served_end : (access : AccessData) (first now : Stand) (in0 in1 in2 in3 out0 out1 out2 : Option (List ℕ)) (left : List ℕ) (count : ℕ) (e : CutEnd) (result : LinkEnd) → count < 10000
    → SoFar access first now in0 in1 out0 out1 left count → (got : List ℕ) → in1 ≡ with_front got in2 → EndsNow access in2 (left ++ got) e → in3 ≡ in2 → EndWrites out1 out2 e result
    → Serves access first now in0 in3 out0 out2 result
served_end access first now in0 in1 in2 in3 out0 out1 out2 left count e result few s got i n same (inl w) = record {
  read = s.read ++ got;
  written = s.written ++ end_reply e;
  messages = s.messages;
  answers = s.answers;
  input = s.input ∙ ap (with_front s.read) (i ∙ ap (with_front got) (sym same)) ∙ front_more s.read got in3;
  output = w.1 ∙ ap (with_end (end_reply e)) s.output ∙ end_more s.written (end_reply e) out0;
  counts = s.counts;
  so = subst (EndsSo access now.seen (length first.seen) (s.read ++ got) in3 s.messages s.answers (s.written ++ end_reply e)) (sym w.0)
      (so_of access now.seen (length first.seen) (s.read ++ got) in3 s.messages s.answers (s.written ++ end_reply e) e (s.written, s.replies, refl)
      (λ rest told. cut_here access s.messages count ((s.read ++ got) ++ rest) ((left ++ got) ++ rest) e s.counted few
      (Front-append access s.messages (s.read ++ got) (left ++ got) rest (Front-append access s.messages s.read left got s.front))
      (ends_with access in2 (left ++ got) e n rest (sym same ∙ told))));
}
served_end access first now in0 in1 in2 in3 out0 out1 out2 left count e result few s got i n same (inr w) = record {
  read = s.read ++ got;
  written = s.written ++ w.1;
  messages = s.messages;
  answers = s.answers;
  input = s.input ∙ ap (with_front s.read) (i ∙ ap (with_front got) (sym same)) ∙ front_more s.read got in3;
  output = w.3 ∙ ap (with_end w.1) s.output ∙ end_more s.written w.1 out0;
  counts = s.counts;
  so = subst (EndsSo access now.seen (length first.seen) (s.read ++ got) in3 s.messages s.answers (s.written ++ w.1)) (sym w.0)
      (InEnd (s.written ++ end_reply e) e (prefix_behind s.written w.1 (end_reply e) w.2) (subst (λ o. IsFinal e ⊎ IsAtEnd o) (sym same) n.1)
      (cut_here access s.messages count (s.read ++ got) (left ++ got) e s.counted few (Front-append access s.messages s.read left got s.front) n.0)
      (s.written, s.replies, refl));
}

pub served_without : (access : AccessData) (h : Stand) (input output : Option (List ℕ)) → Serves access h h input input output output ends.NoMemory
served_without access h input output = record {
  read = [];
  written = [];
  messages = [];
  answers = [];
  input = sym (front_none input);
  output = sym (end_none output);
  counts = counts_start h;
  so = (refl, refl, refl, refl);
}
