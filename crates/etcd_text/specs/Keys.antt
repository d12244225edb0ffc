-- The keys of a board, which begin with its name (own); the gateway wants them in base64 (RFC 4648).
use Rattle.std.specs.Prelude.{ℕ, ◌-◌, List, ◌++◌, codes, length, replicate}
use Rattle.std.specs.Fmt.{decimal}
use Rattle.base64.specs.Engines.{standard}
use Rattle.base64.specs.GeneralPurpose.{encode_of}

-- bytes in base64
abbrev pub in_base64 : List ℕ → List ℕ
in_base64 bytes = encode_of standard bytes

-- the key of who may write
abbrev pub owner_key : List ℕ → List ℕ
owner_key board = board ++ codes "/owner"

-- a number of 32 bits in ten digits
abbrev pub ten_digits : ℕ → List ℕ
ten_digits number = replicate (10 - length (decimal number)) 48 ++ decimal number

-- the key of a row
abbrev pub row_key : List ℕ → ℕ → List ℕ
row_key board serial = board ++ codes "/row/" ++ ten_digits serial

-- the key behind those of all rows: the colon comes after the digits
abbrev pub rows_end : List ℕ → List ℕ
rows_end board = board ++ codes "/row/:"
