-- The messages of an input, and where they end (own). A head is what `httparse` reads in its
-- default form; of a head only the first 8,192 bytes are judged.
use Rattle.std.specs.Prelude.{◌≡◌, ◌≢◌, ℕ, zero, suc, ◌<◌, ◌≤◌, ◌⊎◌, Bool, true, false, List, [], ◌∷◌, ◌++◌, length, take, Option, Ok, Err}
use Rattle.httparse.specs.Grammar.{RequestHead, print_request, ReadsRequest, HasNoRequest, NeverHasRequest, MayBecomeRequest}
use Rattle.httparse.specs.Spans.{RequestExceeds, RequestOverflows}
use Rattle.web_heads.specs.declared.cut_end.CutEnd.{CutEnd}
use Rattle.web_heads.specs.declared.cut_end.CutEnd.TheVariants.{Closed, CutShort, BadHead, LargeHead, LargeBody, Unsupported, Foreign, Spent}
use Rattle.web_heads.specs.Accesses.{AccessData, open_access}
use Rattle.web_heads.specs.Heads.{headers_of, length_by, says_close, speaker}

-- a message without where it lies in memory; `closing` where it says that the connection closes
-- after it; `user` says as whom it speaks
pub record MessageData : Type 0 where
  pub method : List ℕ
  pub target : List ℕ
  pub body : List ℕ
  pub closing : Bool
  pub user : Option (Option (List ℕ))

-- the bytes are this head and then the rest; it has at most 8,192 bytes and 32 headers
pub record BeginsWith (bytes : List ℕ) (head : RequestHead) (rest : List ℕ) : Type 0 where
  pub reads : ReadsRequest bytes head rest
  pub short : length (print_request head) ≤ 8192
  pub few : length head.fields ≤ 32

-- the bytes are this message and then the rest, by the options of a server
pub record IsMessageBy (access : AccessData) (bytes : List ℕ) (message : MessageData)
    (rest : List ℕ) : Type 0 where
  pub head : RequestHead
  pub begins : BeginsWith bytes head (message.body ++ rest)
  pub sized : length_by access (headers_of head) ≡ Ok (length message.body)
  pub method : message.method ≡ head.method
  pub target : message.target ≡ head.target
  pub closing : message.closing ≡ says_close head.minor (headers_of head)
  pub user : message.user ≡ speaker access (headers_of head)

-- the same without options
abbrev pub IsMessage : List ℕ → MessageData → List ℕ → Type 0
IsMessage = IsMessageBy open_access

-- the bytes of which a head is judged
abbrev pub judged : List ℕ → List ℕ
judged bytes = take 8192 bytes

-- the bytes stop inside a head
pub record StopsInHead (bytes : List ℕ) : Type 0 where
  pub some : bytes ≢ []
  pub short : length bytes < 8192
  pub nothing : HasNoRequest bytes
  pub unfinished : MayBecomeRequest bytes

-- the head has not ended where it is judged no more
pub record HasNoEnd (bytes : List ℕ) : Type 0 where
  pub long : 8192 ≤ length bytes
  pub nothing : HasNoRequest (judged bytes)
  pub unfinished : MayBecomeRequest (judged bytes)

-- more than 32 headers have come, and no head with fewer can
pub record HasTooManyHeaders (bytes : List ℕ) : Type 0 where
  pub come : RequestExceeds 32 (judged bytes)
  pub only : RequestOverflows 32 (judged bytes)

-- the bytes begin with a whole head of which no message comes
pub record IsRefused (access : AccessData) (bytes : List ℕ) (end : CutEnd) : Type 0 where
  pub head : RequestHead
  pub rest : List ℕ
  pub begins : BeginsWith bytes head rest
  pub refused : length_by access (headers_of head) ≡ Err end

-- the bytes stop inside a body
pub record StopsInBody (access : AccessData) (bytes : List ℕ) : Type 0 where
  pub head : RequestHead
  pub rest : List ℕ
  pub size : ℕ
  pub begins : BeginsWith bytes head rest
  pub sized : length_by access (headers_of head) ≡ Ok size
  pub short : length rest < size

-- why no message stands at the front of these bytes, by the options of a server; where several of
-- these hold, each is an answer
abbrev pub EndsBy : AccessData → List ℕ → CutEnd → Type 0
EndsBy access bytes Closed = bytes ≡ []
EndsBy access bytes CutShort = StopsInHead bytes ⊎ StopsInBody access bytes
EndsBy access bytes BadHead = NeverHasRequest (judged bytes) ⊎ IsRefused access bytes BadHead
EndsBy access bytes LargeHead = HasTooManyHeaders bytes ⊎ HasNoEnd bytes
EndsBy access bytes LargeBody = IsRefused access bytes LargeBody
EndsBy access bytes Unsupported = IsRefused access bytes Unsupported
EndsBy access bytes Foreign = IsRefused access bytes Foreign
EndsBy access bytes Spent = ⊥

-- the same without options
abbrev pub Ends : List ℕ → CutEnd → Type 0
Ends = EndsBy open_access

-- the ends that no further bytes change
abbrev pub IsFinal : CutEnd → Type 0
IsFinal Closed = ⊥
IsFinal CutShort = ⊥
IsFinal BadHead = Unit {0}
IsFinal LargeHead = Unit {0}
IsFinal LargeBody = Unit {0}
IsFinal Unsupported = Unit {0}
IsFinal Foreign = Unit {0}
IsFinal Spent = ⊥

-- The messages at the front of the bytes, at most so many, and how they end, by the options of a
-- server. After one that says close the end is Closed, and after the last that there may be it is
-- Spent.
abbrev pub Cut : AccessData → ℕ → List ℕ → List MessageData → CutEnd → Type 0
Cut access zero bytes [] end = end ≡ Spent
Cut access zero bytes (message ∷ messages) end = ⊥
Cut access (suc room) bytes [] end = EndsBy access bytes end
Cut access (suc room) bytes (message ∷ messages) end =
    (rest : List ℕ) × IsMessageBy access bytes message rest
    × (message.closing ≡ true → (messages ≡ []) × (end ≡ Closed))
    × (message.closing ≡ false → Cut access room rest messages end)

-- the first messages of the bytes, of at most so many, are these
abbrev pub Begins : AccessData → ℕ → List ℕ → List MessageData → Type 0
Begins access zero bytes [] = Unit {0}
Begins access (suc room) bytes [] = Unit {0}
Begins access zero bytes (message ∷ messages) = ⊥
Begins access (suc room) bytes (message ∷ messages) =
    (rest : List ℕ) × IsMessageBy access bytes message rest
    × (message.closing ≡ true → messages ≡ [])
    × (message.closing ≡ false → Begins access room rest messages)
