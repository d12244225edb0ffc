-- What a query says of `min` (WHATWG URL Standard, application/x-www-form-urlencoded; `min` is
-- own).
use Rattle.std.specs.Prelude.{ℕ, Bool, if◌then◌else◌, List, [], ◌∷◌, map, filter, codes}
use Rattle.std.specs.Str.{bytes_eq}
use Rattle.std.specs.Str.Lossy.{utf8_lossy}
use Rattle.std.specs.Str.Parse.{digits_value}
use Rattle.form_urlencoded.specs.Form.{raw_pairs, decode}
use Rattle.web_heads.specs.Digits.{is_short_number}
use Rattle.web_requests.specs.declared.query.Least.{Least}
use Rattle.web_requests.specs.declared.query.Least.TheVariants.{Absent, At, Bad}

-- the text that a name or a value stands for
abbrev pub form_text : List ℕ → List ℕ
form_text bytes = utf8_lossy (decode bytes)

-- the name of the pair is `min`
abbrev pub is_min : List ℕ × List ℕ → Bool
is_min pair = bytes_eq (form_text pair.0) (codes "min")

-- the values of `min`, in order
abbrev pub min_values : List (List ℕ × List ℕ) → List (List ℕ)
min_values pairs = map (λ pair. form_text pair.1) (filter is_min pairs)

-- what one value says: 1 to 10 digits are a number
abbrev pub number_said : List ℕ → Least
number_said value = if is_short_number value then At (digits_value 10 value) else Bad

-- what the values say: nothing, one number, or what is refused
abbrev pub least_said : List (List ℕ) → Least
least_said [] = Absent
least_said (value ∷ []) = number_said value
least_said (value ∷ other ∷ values) = Bad

-- what a query says
abbrev pub least_in_query : List ℕ → Least
least_in_query query = least_said (min_values (raw_pairs query))
