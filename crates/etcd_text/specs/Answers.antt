-- What etcd's JSON gateway answers (etcd 3.4, api/v3 rpc.proto): a member that is false, 0 or empty
-- is left out, so each answer that counts has the revision of its header.
use Rattle.std.specs.Prelude.{◌≡◌, ◌^◌, ℕ, Bool, false, nat_lt, if◌then◌else◌, List, Option, Some, None, Result, Ok, Err, codes, is_some, option_and_then, unwrap_or}
use Rattle.std.specs.Option.{option_map}
use Rattle.std.specs.Str.{bytes_eq, is_utf8}
use Rattle.base64.specs.Engines.{standard}
use Rattle.base64.specs.GeneralPurpose.{decoded_of}
use Rattle.serde_json.specs.Data.{Data}
use Rattle.serde_json.specs.Find.{as_bool, as_str, get, pointer}
use Rattle.serde_json.specs.Read.{read}
use Rattle.engine_core.specs.declared.engine.EngineFault.{EngineFault}
use Rattle.engine_core.specs.declared.engine.EngineFault.TheVariants as faults
use Rattle.engine_core.specs.declared.engine.Owner.{Owner}
use Rattle.engine_core.specs.declared.engine.Taken.{Taken}
use Rattle.etcd_text.specs.Numbers.{string_number}

-- the JSON value that an answer is, if it is UTF-8 that serde_json reads
abbrev pub answer_value : List ℕ → Option Data
answer_value body = if is_utf8 body then read body else None

-- the string under a pointer
abbrev pub string_under : List ℕ → Data → Option (List ℕ)
string_under path d = option_and_then as_str (pointer path d)

-- the number under a pointer, which is a string
abbrev pub number_under : List ℕ → Data → Option ℕ
number_under path d = option_and_then string_number (string_under path d)

-- the revision of the header
abbrev pub revision_of : Data → Option ℕ
revision_of d = number_under (codes "/header/revision") d

-- the transaction's comparison held: its `success` was done
abbrev pub has_succeeded : Data → Bool
has_succeeded d = unwrap_or (option_and_then as_bool (get (codes "succeeded") d)) false

-- whether a row was put
abbrev pub put_in : Data → Option Bool
put_in d = option_map (λ _. has_succeeded d) (revision_of d)

-- a number of rows is one of 32 bits
abbrev pub row_number : ℕ → Option ℕ
row_number n = if nat_lt n (2 ^ 32) then Some n else None

-- how many rows a range has; where the range is there and has no count there are none
abbrev pub range_rows : Data → Option ℕ
range_rows d =
    if is_some (pointer (codes "/responses/1/response_range/count") d)
    then option_and_then row_number (number_under (codes "/responses/1/response_range/count") d)
    else option_map (λ _. 0) (pointer (codes "/responses/1/response_range") d)

-- the owner's key was put at this revision, when there were so many rows
abbrev pub taken_at : Option ℕ → Option ℕ → Option Taken
taken_at revision rows =
    option_and_then (λ f. option_map (λ n. record { fence = f; count = n }) rows) revision

-- what a taking tells
abbrev pub taking_in : Data → Option (Option Taken)
taking_in d =
    if has_succeeded d
    then option_map Some (taken_at (revision_of d) (range_rows d))
    else option_map (λ _. None) (revision_of d)

-- the owner's key was put by this token
abbrev pub is_token : List ℕ → Data → Bool
is_token token d =
    unwrap_or (option_map (λ t. bytes_eq t token) (string_under (codes "/kvs/0/value") d)) false

-- the owner's key that is there
abbrev pub found_owner : List ℕ → Data → Option Owner
found_owner token d =
    option_map (λ f. record { fence = f; ours = is_token token d })
    (number_under (codes "/kvs/0/mod_revision") d)

-- no key is there
abbrev pub no_owner : Owner
no_owner = record { fence = 0; ours = false }

-- what the answer says of the owner's key
abbrev pub owner_in : List ℕ → Data → Option Owner
owner_in token d =
    option_and_then (λ _. if is_some (pointer (codes "/kvs") d) then found_owner token d
    else Some no_owner) (revision_of d)

-- the bytes of the row that is there, which are in base64
abbrev pub found_row : Data → Option (List ℕ)
found_row d = option_and_then (decoded_of standard) (string_under (codes "/kvs/0/value") d)

-- what the answer says of a row
abbrev pub row_in : Data → Option (Option (List ℕ))
row_in d =
    option_and_then (λ _. if is_some (pointer (codes "/kvs") d) then option_map Some (found_row d)
    else Some None) (revision_of d)

-- an answer is taken exactly where it says this; anything else is no answer
abbrev pub TakesAnswer : {X : Type 0} → Result X EngineFault → Option X → Type 0
TakesAnswer (Ok x) said = said ≡ Some x
TakesAnswer (Err faults.NoAnswer) said = said ≡ None
TakesAnswer (Err faults.NoMemory) said = Unit {0}
