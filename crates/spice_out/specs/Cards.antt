-- What a package's printed refdes says of its card (own): letter, pins and name.
use Rattle.std.specs.Prelude.{ℕ, ◌==◌, ◌-◌, if◌then◌else◌, Bool, List, [], ◌∷◌, ◌++◌, Option, Some, None, codes, length, map, take}
use Rattle.std.specs.Char.{is_ascii_alphanumeric, to_ascii_lowercase, to_ascii_uppercase}
use Rattle.std.specs.List.{flat_map, list_any, slice_get, slice_split}
use Rattle.std.specs.Option.{is_some, option_and_then, option_map, unwrap_or}

-- the byte `/`
abbrev pub is_slash : ℕ → Bool
is_slash b = b == 47

-- the pieces of a refdes, parted by `/`
abbrev pub pieces : List ℕ → List (List ℕ)
pieces refdes = slice_split is_slash refdes

-- the last one, and the earlier ones
abbrev pub last_piece : List ℕ → List ℕ
last_piece refdes = unwrap_or (slice_get (pieces refdes) (length (pieces refdes) - 1)) []

abbrev pub earlier_pieces : List ℕ → List (List ℕ)
earlier_pieces refdes = take (length (pieces refdes) - 1) (pieces refdes)

-- the letter: the first byte of the last piece, in upper case
abbrev pub card_letter : List ℕ → Option ℕ
card_letter refdes = option_map to_ascii_uppercase (slice_get (last_piece refdes) 0)

-- how many pins the card of a letter has, where the package has so many; none is no card
abbrev pub pins_of_letter : ℕ → ℕ → Option ℕ
pins_of_letter many letter =
    if list_any (λ c. c == letter) (codes "RCLVID") then Some 2
    else if letter == 81 then Some 3
    else if letter == 77 then Some 4
    else if letter == 88 then Some many
    else None

-- the same of a refdes
abbrev pub pin_count : List ℕ → ℕ → Option ℕ
pin_count refdes many = option_and_then (pins_of_letter many) (card_letter refdes)

-- a package of this refdes has a card; another one is skipped
abbrev pub has_card : List ℕ → Bool
has_card refdes = is_some (pin_count refdes 0)

-- every byte but ASCII letters, digits and `_` becomes `_`
abbrev pub name_byte : ℕ → ℕ
name_byte b = if is_ascii_alphanumeric b then b else 95

-- the name of the card: the last piece, then for each earlier one in order `_` and the piece
abbrev pub card_name : List ℕ → List ℕ
card_name refdes =
    map name_byte (last_piece refdes)
    ++ flat_map (λ piece. 95 ∷ map name_byte piece) (earlier_pieces refdes)

-- a name without regard to ASCII case
abbrev pub folded : List ℕ → List ℕ
folded name = map to_ascii_lowercase name
