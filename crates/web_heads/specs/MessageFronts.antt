-- What stands at the front of bytes that have come (own).
use Rattle.std.specs.Prelude.{◌≡◌, ℕ, ◌<◌, ◌≤◌, List, length, drop, Ok}
use Rattle.httparse.specs.Grammar.{RequestHead, HasNoRequest, MayBecomeRequest}
use Rattle.web_heads.specs.declared.cut_end.CutEnd.{CutEnd}
use Rattle.web_heads.specs.declared.sizes.MessageFront.{MessageFront}
use Rattle.web_heads.specs.declared.sizes.MessageFront.TheVariants as fronts
use Rattle.web_heads.specs.declared.sizes.MessageSize.{MessageSize}
use Rattle.web_heads.specs.Cuts.{BeginsWith, IsFinal, Ends}
use Rattle.web_heads.specs.Heads.{headers_of, body_length}

-- the bytes begin with a head that says so
pub record IsSized (bytes : List ℕ) (size : MessageSize) : Type 0 where
  pub head : RequestHead
  pub begins : BeginsWith bytes head (drop size.head bytes)
  pub within : size.head ≤ length bytes
  pub sized : body_length (headers_of head) ≡ Ok size.body
  pub few : size.body ≤ 4194304

-- what is said of the bytes
abbrev pub IsMessageFront : List ℕ → MessageFront → Type 0
IsMessageFront bytes fronts.Open =
    (length bytes < 8192) × HasNoRequest bytes × MayBecomeRequest bytes
IsMessageFront bytes (fronts.Sized size) = IsSized bytes size
IsMessageFront bytes fronts.Refused = (end : CutEnd) × IsFinal end × Ends bytes end
