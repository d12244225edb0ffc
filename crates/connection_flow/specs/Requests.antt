-- The bytes of a client that have come, and how they are handed out (own).
use Rattle.std.specs.Prelude.{◌≡◌, ℕ, ◌+◌, ◌-◌, ◌≤◌, ◌⊎◌, List, [], ◌++◌, length, take, drop}
use Rattle.connection_flow.specs.declared.gathered.Known.{Known}
use Rattle.connection_flow.specs.declared.gathered.Known.TheVariants as knowns
use Rattle.connection_flow.specs.declared.gathered.Progress.{Progress}
use Rattle.connection_flow.specs.declared.gathered.Progress.TheVariants as parts
use Rattle.web_heads.specs.declared.cut_end.CutEnd.{CutEnd}
use Rattle.web_heads.specs.Cuts.{MessageData, IsMessage, IsFinal, Ends}
use Rattle.web_heads.specs.MessageFronts.{IsSized}

-- the bytes that were not handed out yet, and how many of them belong to the request that is being
-- handed out
pub record GatheredData : Type 0 where
  pub bytes : List ℕ
  pub left : ℕ

-- so many bytes at the front are a whole message
pub record IsWholeMessage (bytes : List ℕ) (count : ℕ) : Type 0 where
  pub message : MessageData
  pub is : IsMessage bytes message (drop count bytes)
  pub come : count ≤ length bytes

-- no message can come of the bytes, whatever follows
pub record IsHopeless (bytes : List ℕ) : Type 0 where
  pub end : CutEnd
  pub final : IsFinal end
  pub ends : Ends bytes end

-- what is known of the bytes at the front is so
abbrev pub IsKnown : Known → List ℕ → Type 0
IsKnown knowns.Nothing bytes = Unit {0}
IsKnown (knowns.Size size) bytes = IsSized bytes size
IsKnown knowns.Refused bytes = IsHopeless bytes

-- so many bytes are handed out as one request: a whole message and nothing behind it; or all, since
-- no message can come of them; or none
abbrev pub IsHandedOut : List ℕ → ℕ → Type 0
IsHandedOut bytes count =
    IsWholeMessage bytes count ⊎ ((count ≡ length bytes) × IsHopeless bytes) ⊎ (count ≡ 0)

-- how far the first request has come
abbrev pub HasCome : List ℕ → Progress → Type 0
HasCome bytes parts.Nothing = bytes ≡ []
HasCome bytes parts.Head = Unit {0}
HasCome bytes parts.Body = Unit {0}
HasCome bytes parts.Whole = ((count : ℕ) × IsWholeMessage bytes count) ⊎ IsHopeless bytes

-- the first so many bytes were handed out into the room, in order; they belong to the request
pub record HandsOut (old new : GatheredData) (room room_new : List ℕ) (count : ℕ) : Type 0 where
  pub own : count ≤ old.left
  pub fits : count ≤ length room
  pub handed : room_new ≡ take count old.bytes ++ drop count room
  pub rest : new.bytes ≡ drop count old.bytes
  pub left : new.left ≡ old.left - count
