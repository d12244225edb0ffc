-- Steps of the code; no public clause cites them.
-- The date of a version line.
use Rattle.std.specs.Prelude.{ℕ, ◌==◌, ◌&&◌, if◌then◌else◌, List, length, Option, Some, None}
use Rattle.std.specs.List.{list_all}
use Rattle.std.specs.Char.{is_ascii_digit}
use Rattle.std.specs.Str.Parse.{digits_value}

-- eight digits
unfoldable pub date_of : List ℕ → Option ℕ
date_of field =
    if (length field == 8) && list_all is_ascii_digit field
    then Some (digits_value 10 field)
    else None
