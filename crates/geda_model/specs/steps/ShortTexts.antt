-- What a text is whose bytes stand in its value, or in memory.
use Rattle.std.specs.Prelude.{◌≡◌, ℕ, ◌≤◌, List, take, true}
use Rattle.std.specs.Str.{is_utf8}
use Rattle.std.specs.String.{string_bytes}
use Rattle.geda_model.specs.declared.short_text.Place.{Place}
use Rattle.geda_model.specs.declared.short_text.Place.TheVariants.{Here, There}

-- the bytes of the text
abbrev pub bytes_at : Place → List ℕ
bytes_at (Here len room) = take len room.bytes
bytes_at (There text) = string_bytes text

-- what stands in the value is UTF-8
abbrev pub IsPlace : Place → Type 0
IsPlace (Here len room) = (len ≤ 24) × (is_utf8 (take len room.bytes) ≡ true)
IsPlace (There text) = Unit {0}
