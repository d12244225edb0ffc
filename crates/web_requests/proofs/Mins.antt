-- What a query says of `min`, one pair after the other.
use Rattle.std.proofs.Common.{◌≡◌, ℕ, Bool, true, false, List, [], ◌∷◌, map, filter, codes, refl}
use Rattle.std.specs.Bool.{if◌then◌else◌}
use Rattle.std.specs.Str.{bytes_eq}
use Rattle.std.specs.Str.Parse.{digits_value}
use Rattle.web_requests.specs.declared.query.Least.{Least}
use Rattle.web_requests.specs.declared.query.Least.TheVariants.{Absent, At, Bad}
use Rattle.web_requests.specs.Queries.{form_text, is_min, min_values, number_said, least_said}
use Rattle.web_requests.specs.steps.Reading.{said_on, said_next, said_with}
use Rattle.web_heads.specs.Digits.{is_short_number}

said_once : (value : List ℕ) (values : List (List ℕ)) → said_on (number_said value) values ≡ least_said (value ∷ values)
said_once value [] = go (is_short_number value)
  where
    go : (b : Bool) → said_on (if b then At (digits_value 10 value) else Bad) [] ≡ (if b then At (digits_value 10 value) else Bad)
    go true = refl
    go false = refl
said_once value (other ∷ values) = go (is_short_number value)
  where
    go : (b : Bool) → said_on (if b then At (digits_value 10 value) else Bad) (other ∷ values) ≡ Bad
    go true = refl
    go false = refl

said_more : (least : Least) (value : List ℕ) (values : List (List ℕ)) → said_on (said_next least value) values ≡ said_on least (value ∷ values)
said_more Absent value values = said_once value values
said_more (At n) value values = refl
said_more Bad value values = refl

pub said_pair : (least : Least) (name value : List ℕ) (pairs : List (List ℕ × List ℕ))
    → said_on (said_with least (form_text name) (form_text value)) (min_values pairs) ≡ said_on least (min_values ((name, value) ∷ pairs))
said_pair least name value pairs = go (bytes_eq (form_text name) (codes "min"))
  where
    go : (b : Bool) → said_on (if b then said_next least (form_text value) else least) (min_values pairs)
        ≡ said_on least (map (λ pair. form_text pair.1) (if b then (name, value) ∷ filter is_min pairs else filter is_min pairs))
    go true = said_more least (form_text value) (min_values pairs)
    go false = refl
