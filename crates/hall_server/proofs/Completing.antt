-- A connection on which nothing failed.
use Rattle.std.proofs.Common.{◌≡◌, ℕ, zero, suc, ◌+◌, ◌-◌, ◌^◌, ◌≤◌, ◌⊎◌, inl, inr, min, List, [], ◌∷◌, ◌++◌, length, filter, All, refl, sym, ap, ◌∙◌, subst, arith, Option, Some, None}
use Rattle.std.proofs.lemmas.List.Elements.{All-nil, All-cons}
use Rattle.std.specs.Bool.{if◌then◌else◌}
use Rattle.web_heads.specs.declared.cut_end.CutEnd.{CutEnd}
use Rattle.hall_server.specs.declared.link_end.LinkEnd.{LinkEnd}
use Rattle.hall_server.specs.declared.link_end.LinkEnd.TheVariants as ends
use Rattle.hall_server.specs.declared.reply_kind.ReplyKind.{ReplyKind}
use Rattle.hall_server.specs.declared.reply_kind.ReplyKind.TheVariants as kinds
use Rattle.geda_defs.specs.Causes.{HasRisen}
use Rattle.hall_server.specs.Completeness.{IsServed, IsServedKind, ServesAll, HasLost, CompletesConnection}
use Rattle.web_heads.specs.Accesses.{AccessData}
use Rattle.web_heads.specs.Cuts.{Cut}
use Rattle.web_heads.specs.Links.{with_front}
use Rattle.hall_server.specs.Services.{Stand}
use Rattle.hall_server.specs.Connections.{RoseBy, EndsSo, Serves, is_lost, is_refused, is_lost_kind, is_refused_kind, lost_count, refused_count}
use Rattle.hall_server.specs.Transcripts.{Answered, Transcript, link_end}

no_loss : (n first now : ℕ) → RoseBy n first now → ¬ (HasLost first now) → n ≡ 0
no_loss n first now (inl e) h = absurd_or n (λ some. h (omega (arith, e, some)))
  where
    absurd_or : (n : ℕ) → (1 ≤ n → ⊥) → n ≡ 0
    absurd_or zero f = refl
    absurd_or (suc n) f = absurd (f (omega arith))
no_loss n first now (inr e) h = absurd (h (omega (arith, e)))

no_refusal : (m n first now : ℕ) → min (first + n) m ≤ now → ¬ (min (first + 1) m ≤ now) → n ≡ 0
no_refusal m zero first now r h = refl
no_refusal m (suc n) first now r h = absurd (h (omega (arith, r)))

suc_zero : (n : ℕ) → suc n ≡ 0 → ⊥
suc_zero n e = omega (arith, e)

-- none of the kinds that are counted
all_served : (answers : List Answered) → lost_count answers ≡ 0 → refused_count answers ≡ 0 → All IsServed answers
all_served [] l r = All-nil IsServed
all_served (a ∷ answers) l r = go a.kind refl l r (all_served answers)
  where
    go : (k : ReplyKind) → a.kind ≡ k → length (if is_lost_kind k then a ∷ filter is_lost answers else filter is_lost answers) ≡ 0
        → length (if is_refused_kind k then a ∷ filter is_refused answers else filter is_refused answers) ≡ 0
        → (lost_count answers ≡ 0 → refused_count answers ≡ 0 → All IsServed answers) → All IsServed (a ∷ answers)
    go kinds.Answer e l r more = All-cons IsServed a answers (subst IsServedKind (sym e) tt) (more l r)
    go kinds.NoMemory e l r more = All-cons IsServed a answers (subst IsServedKind (sym e) tt) (more l r)
    go kinds.Lost e l r more = absurd (suc_zero (length (filter is_lost answers)) l)
    go kinds.NoEntry e l r more = absurd (suc_zero (length (filter is_refused answers)) r)

bytes_left : (read input : List ℕ) (in_now : Option (List ℕ)) → Some input ≡ with_front read in_now → (left : List ℕ) × (in_now ≡ Some left) × (input ≡ read ++ left)
bytes_left read input None e = absurd (some_none input e)
  where
    some_none : (input : List ℕ) → Some input ≡ None → ⊥
    some_none input e = absurd (let k = e in cc)
bytes_left read input (Some left) e = (left, refl, some_same input (read ++ left) e)
  where
    some_same : (x y : List ℕ) → Some x ≡ Some y → x ≡ y
    some_same x y e = ap value e
      where
        value : Option (List ℕ) → List ℕ
        value None = x
        value (Some z) = z

module _ (access : AccessData) (first now : Stand) (in_first in_now out_first out_now : Option (List ℕ)) where
  pub completes : (reads_first reads_now writes_first writes_now : ℕ) (result : LinkEnd) → Serves access first now in_first in_now out_first out_now result
      → (result ≡ ends.ReadFault → HasRisen reads_first reads_now) → (result ≡ ends.WriteFault → HasRisen writes_first writes_now)
      → CompletesConnection access first now reads_first reads_now writes_first writes_now in_first out_first out_now result
  completes reads_first reads_now writes_first writes_now result s read_cause write_cause input told no_read no_write kept opened = go result s.so read_cause write_cause
    where
      served : All IsServed s.answers
      served = all_served s.answers (no_loss (lost_count s.answers) first.losses now.losses s.counts.losses kept) (no_refusal (2 ^ 64 - 1) (refused_count s.answers) first.refusals now.refusals s.counts.refusals opened)

      left : (left : List ℕ) × (in_now ≡ Some left) × (input ≡ s.read ++ left)
      left = bytes_left s.read input in_now (sym told ∙ s.input)

      whole : (end : LinkEnd) → (at : CutEnd) × (link_end at ≡ end) × Transcript s.messages at s.written now.seen (length first.seen) s.answers
          × ((left : List ℕ) → in_now ≡ Some left → Cut access 10000 (s.read ++ left) s.messages at) → ServesAll access first now input out_first out_now end
      whole end w = record {
        messages = s.messages;
        end = w.0;
        answers = s.answers;
        written = s.written;
        cut = subst (λ b. Cut access 10000 b s.messages w.0) (sym left.2) (w.3 left.0 left.1);
        ends = w.1;
        output = s.output;
        transcript = w.2;
        served = served;
      }

      go : (end : LinkEnd) → EndsSo access now.seen (length first.seen) s.read in_now s.messages s.answers s.written end
          → (end ≡ ends.ReadFault → HasRisen reads_first reads_now) → (end ≡ ends.WriteFault → HasRisen writes_first writes_now)
          → (end ≡ ends.NoMemory) ⊎ ServesAll access first now input out_first out_now end
      go ends.ReadFault so r w = absurd (no_read (r refl))
      go ends.WriteFault so r w = absurd (no_write (w refl))
      go ends.NoMemory so r w = inl refl
      go ends.Closed so r w = inr (whole ends.Closed so)
      go ends.CutShort so r w = inr (whole ends.CutShort so)
      go ends.BadHead so r w = inr (whole ends.BadHead so)
      go ends.TooLarge so r w = inr (whole ends.TooLarge so)
      go ends.Unsupported so r w = inr (whole ends.Unsupported so)
      go ends.Foreign so r w = inr (whole ends.Foreign so)
      go ends.Spent so r w = inr (whole ends.Spent so)
