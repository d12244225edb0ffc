-- What the parts of reading a message do.
use Rattle.std.specs.Prelude.{◌≡◌, ℕ, ◌<◌, ◌≤◌, Bool, true, false, List, [], ◌∷◌, ◌++◌, length, drop, Option, Some, None, ⊤, Result, Ok}
use Rattle.httparse.specs.Grammar.{RequestHead, HasNoRequest, MayBecomeRequest}
use Rattle.httparse.specs.Spans.{IsWithin, span_bytes}
use Rattle.httparse.specs.declared.spans.Span.{Span}
use Rattle.web_heads.specs.declared.buffer.Filled.{Filled}
use Rattle.web_heads.specs.declared.buffer.Filled.TheVariants as filled
use Rattle.web_heads.specs.declared.cut_end.CutEnd.{CutEnd}
use Rattle.web_heads.specs.declared.heads.Head.{Head}
use Rattle.web_heads.specs.declared.heads.Judged.{Judged}
use Rattle.web_heads.specs.declared.heads.Speaker.{Speaker}
use Rattle.web_heads.specs.declared.heads.Speaker.TheVariants as speakers
use Rattle.web_heads.specs.declared.heads.Named.{Named}
use Rattle.web_heads.specs.declared.heads.Named.TheVariants as named
use Rattle.web_heads.specs.declared.heads.Judged.TheVariants as judges
use Rattle.web_heads.specs.declared.next.HeadNext.{HeadNext}
use Rattle.web_heads.specs.declared.next.HeadNext.TheVariants as heads
use Rattle.web_heads.specs.declared.next.BodyNext.{BodyNext}
use Rattle.web_heads.specs.declared.next.BodyNext.TheVariants as bodies
use Rattle.web_heads.specs.Accesses.{AccessData}
use Rattle.web_heads.specs.Cuts.{MessageData, BeginsWith, IsFinal, EndsBy}
use Rattle.web_heads.specs.Heads.{headers_of, length_by, length_said, says_close, speaker}
use Rattle.web_heads.specs.Links.{with_front, IsAtEnd}
use Rattle.web_heads.specs.Messages.{EndsNow, Waits}

-- what the values of Content-Length say behind a first one, if there was one
abbrev pub said : Option (List ℕ) → List (List ℕ) → Result ℕ CutEnd
said None values = length_said values
said (Some value) values = length_said (value ∷ values)

-- what the values of a name are: none, one at a place, or several
abbrev pub AreNamed : List ℕ → Named → List (List ℕ) → Type 0
AreNamed bytes named.Nowhere values = values ≡ []
AreNamed bytes (named.Once place) values =
    IsWithin (length bytes) place × (values ≡ span_bytes bytes place ∷ [])
AreNamed bytes named.Often values = 1 < length values

-- the value at a place, if one was found, before others
abbrev pub found_before : List ℕ → Option Span → List (List ℕ) → List (List ℕ)
found_before bytes None values = values
found_before bytes (Some place) values = span_bytes bytes place ∷ values

-- these bytes were read, and stand behind the old ones
abbrev pub Takes : List ℕ → Option (List ℕ) → Option (List ℕ) → List ℕ → List ℕ → Type 0
Takes got before after old new = (before ≡ with_front got after) × (new ≡ old ++ got)

-- after a read behind these bytes
abbrev pub Fills : Option (List ℕ) → Option (List ℕ) → List ℕ → List ℕ → Filled → Type 0
Fills before after old new filled.More =
    (got : List ℕ) × Takes got before after old new × (0 < length got)
Fills before after old new filled.End = (after ≡ before) × (new ≡ old) × IsAtEnd after
Fills before after old new filled.Fault = (after ≡ before) × (new ≡ old)

-- after such a read where no bytes were there, and none where some were
abbrev pub FillsEmpty : Option (List ℕ) → Option (List ℕ) → List ℕ → List ℕ → Filled → Type 0
FillsEmpty before after [] new result = Fills before after [] new result
FillsEmpty before after (byte ∷ bytes) new result =
    (after ≡ before) × (new ≡ byte ∷ bytes) × (result ≡ filled.More)

-- some bytes were read, and stand behind the old ones
abbrev pub TakesSome : Option (List ℕ) → Option (List ℕ) → List ℕ → List ℕ → Type 0
TakesSome before after old new = (got : List ℕ) × Takes got before after old new

-- the user as whom a head speaks, whose name lies there in the bytes
abbrev pub user_at : List ℕ → Speaker → Option (Option (List ℕ))
user_at bytes speakers.Anyone = None
user_at bytes speakers.Nobody = Some None
user_at bytes (speakers.User place) = Some (Some (span_bytes bytes place))

-- the user whom memory holds, where one is asked for and named
abbrev pub user_in : Bool → Bool → List ℕ → Option (Option (List ℕ))
user_in false named user = None
user_in true false user = Some None
user_in true true user = Some (Some user)

-- the name, if there is one, lies in so many bytes
abbrev pub IsUserWithin : ℕ → Speaker → Type 0
IsUserWithin count speakers.Anyone = ⊤
IsUserWithin count speakers.Nobody = ⊤
IsUserWithin count (speakers.User place) = IsWithin count place

-- the bytes begin with this head
pub record IsWhole (access : AccessData) (bytes : List ℕ) (whole : Head) : Type 0 where
  pub head : RequestHead
  pub begins : BeginsWith bytes head (drop whole.len bytes)
  pub within : whole.len ≤ length bytes
  pub method : IsWithin (length bytes) whole.method
      × (span_bytes bytes whole.method ≡ head.method)
  pub target : IsWithin (length bytes) whole.target
      × (span_bytes bytes whole.target ≡ head.target)
  pub sized : length_by access (headers_of head) ≡ Ok whole.body
  pub few : whole.body ≤ 4194304
  pub closing : whole.closing ≡ says_close head.minor (headers_of head)
  pub user_within : IsUserWithin (length bytes) whole.speaker
  pub user : user_at bytes whole.speaker ≡ speaker access (headers_of head)

-- what is said of at most 8,192 bytes
abbrev pub Judges : AccessData → List ℕ → Judged → Type 0
Judges access bytes (judges.Whole head) = IsWhole access bytes head
Judges access bytes judges.Open = HasNoRequest bytes × MayBecomeRequest bytes
Judges access bytes (judges.Refused end) = IsFinal end × EndsBy access bytes end

-- what is known of the bytes in the end
abbrev pub IsHeadNext : AccessData → Option (List ℕ) → List ℕ → HeadNext → Type 0
IsHeadNext access after bytes (heads.Whole head) = IsWhole access bytes head
IsHeadNext access after bytes (heads.End end) = EndsNow access after bytes end
IsHeadNext access after bytes heads.Fault = Waits access bytes

-- some bytes were read, and this is what they are
abbrev pub NextHead :
    AccessData → Option (List ℕ) → Option (List ℕ) → List ℕ → List ℕ → HeadNext → Type 0
NextHead access before after old new result =
    TakesSome before after old new × IsHeadNext access after new result

-- the bytes that were there and those that were read have become the body and what is behind it
abbrev pub Moves :
    List ℕ → Option (List ℕ) → Option (List ℕ) → List ℕ → List ℕ → List ℕ → Type 0
Moves got before after old body new =
    (before ≡ with_front got after) × (old ++ got ≡ body ++ new)

-- the same, whatever was read
abbrev pub MovesSome :
    Option (List ℕ) → Option (List ℕ) → List ℕ → List ℕ → List ℕ → Type 0
MovesSome before after old body new = (got : List ℕ) × Moves got before after old body new

-- the body is whole, or why it is not
abbrev pub IsBodyNext : Option (List ℕ) → List ℕ → List ℕ → ℕ → BodyNext → Type 0
IsBodyNext after body new size bodies.Whole = length body ≡ size
IsBodyNext after body new size bodies.End =
    (length body < size) × (new ≡ []) × IsAtEnd after
IsBodyNext after body new size bodies.Fault = (length body < size) × (new ≡ [])

-- the same message but for its body
pub record SameHead (old new : MessageData) : Type 0 where
  pub method : new.method ≡ old.method
  pub target : new.target ≡ old.target
  pub closing : new.closing ≡ old.closing
  pub user : new.user ≡ old.user
