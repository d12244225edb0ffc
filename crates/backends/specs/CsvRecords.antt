-- Records of CSV (RFC 4180, but that a record ends with LF alone).
use Rattle.std.specs.Prelude.{ℕ, Bool, ◌==◌, ◌||◌, if◌then◌else◌, List, [], ◌∷◌, ◌++◌}
use Rattle.std.specs.List.{flat_map, list_any}

-- a comma, a quotation mark, a CR and an LF call for quotes
abbrev pub is_special : ℕ → Bool
is_special b = (b == 44) || ((b == 34) || ((b == 13) || (b == 10)))

-- a quotation mark inside quotes is doubled
abbrev pub doubled : List ℕ → List ℕ
doubled text = flat_map (λ b. if b == 34 then 34 ∷ b ∷ [] else b ∷ []) text

-- a field: between quotes where something calls for them
abbrev pub csv_field : List ℕ → List ℕ
csv_field text = if list_any is_special text then 34 ∷ (doubled text ++ 34 ∷ []) else text

-- a record: its fields, parted by commas
abbrev pub record_text : List (List ℕ) → List ℕ
record_text [] = []
record_text (field ∷ rest) = csv_field field ++ (flat_map (λ f. 44 ∷ csv_field f) rest ++ 10 ∷ [])
