-- A connection on which nothing failed: all that was asked was answered (own).
use Rattle.std.specs.Prelude.{◌≡◌, ⊤, ℕ, ◌≤◌, ◌⊎◌, List, length, All, Option, Some}
use Rattle.geda_defs.specs.Causes.{HasRisen}
use Rattle.web_heads.specs.declared.cut_end.CutEnd.{CutEnd}
use Rattle.web_heads.specs.Accesses.{AccessData}
use Rattle.web_heads.specs.Cuts.{MessageData, Cut}
use Rattle.web_heads.specs.Links.{with_end}
use Rattle.hall_server.specs.declared.link_end.LinkEnd.{LinkEnd}
use Rattle.hall_server.specs.declared.link_end.LinkEnd.TheVariants as ends
use Rattle.hall_server.specs.declared.reply_kind.ReplyKind.{ReplyKind}
use Rattle.hall_server.specs.declared.reply_kind.ReplyKind.TheVariants as kinds
use Rattle.hall_server.specs.Services.{Stand, one_more_loss}
use Rattle.hall_server.specs.Transcripts.{Answered, Transcript, link_end}

-- an answer on a prefix, or want of memory
abbrev pub IsServedKind : ReplyKind → Type 0
IsServedKind kinds.Answer = ⊤
IsServedKind kinds.NoMemory = ⊤
IsServedKind kinds.Lost = ⊥
IsServedKind kinds.NoEntry = ⊥

-- the message was answered so
abbrev pub IsServed : Answered → Type 0
IsServed answered = IsServedKind answered.kind

-- every message of the input is answered, and the connection ends as the input does
pub record ServesAll (access : AccessData) (first now : Stand) (input : List ℕ)
    (out_first out_now : Option (List ℕ)) (result : LinkEnd) : Type 0 where
  pub messages : List MessageData
  pub end : CutEnd
  pub answers : List Answered
  pub written : List ℕ
  pub cut : Cut access 10000 input messages end
  pub ends : link_end end ≡ result
  pub output : out_now ≡ with_end written out_first
  pub transcript : Transcript messages end written now.seen (length first.seen) answers
  pub served : All IsServed answers

-- the losses rose, or stand at their last value
abbrev pub HasLost : ℕ → ℕ → Type 0
HasLost before now = one_more_loss before ≤ now

-- Where the input is told and no count rose, all of it is served, or there was no memory for the
-- connection.
abbrev pub CompletesConnection :
    AccessData → Stand → Stand → ℕ → ℕ → ℕ → ℕ → Option (List ℕ) → Option (List ℕ)
    → Option (List ℕ) → LinkEnd → Type 0
CompletesConnection access first now reads_first reads_now writes_first writes_now in_first
    out_first out_now result =
    (input : List ℕ) → in_first ≡ Some input
    → ¬ (HasRisen reads_first reads_now) → ¬ (HasRisen writes_first writes_now)
    → ¬ (HasLost first.losses now.losses) → ¬ (HasRisen first.refusals now.refusals)
    → (result ≡ ends.NoMemory) ⊎ ServesAll access first now input out_first out_now result
