-- The refdes that two components have, and one that is whole, by the set of those that two have.
use Rattle.std.proofs.Common.{◌≡◌, ◌∙◌, ℕ, Bool, true, false, ◌&&◌, List, [], ◌∷◌, Option, Some, None, cond, ap, refl, sym}
use Rattle.std.specs.BTreeSet.{BTreeSet}
use Rattle.std.specs.List.{filter_map, list_any}
use Rattle.std.specs.Str.{bytes_eq}
use Rattle.geda_defs.proofs.Bytes.{bytes_same}
use Rattle.text_tallies.specs.NameSets.{set_has_name}
use Rattle.text_tallies.proofs.PairLemmas.{and_false, any_filter, any_same, passes}
use Rattle.component_checks.specs.CheckedComponents.{CheckedData}
use Rattle.component_checks.specs.steps.Repeats.{clashing_name, passing_name, whole_name}

-- a name that passes a test is this one exactly where this one passes it and is the name
name_passes : (test : List ℕ → Bool) (q : List ℕ) (name : Option (List ℕ))
    → passes (bytes_eq q) (passing_name test name) ≡ (test q && passes (bytes_eq q) name)
name_passes test q None = sym (and_false (test q))
name_passes test q (Some name) = by (bytes_eq q name) refl (test name) refl
  where
    by : (same : Bool) → bytes_eq q name ≡ same → (passed : Bool) → test name ≡ passed
        → passes (bytes_eq q) (cond passed (Some name) None) ≡ (test q && bytes_eq q name)
    by true e true f = rw (e, ap test (bytes_same q name e) ∙ f) refl
    by true e false f = rw (ap test (bytes_same q name e) ∙ f) refl
    by false e true f = rw (e) (sym (and_false (test q)))
    by false e false f = rw (e) (sym (and_false (test q)))

-- what does not hang on the member stands before the list
any_and : (b : Bool) (p : CheckedData → Bool) (cs : List CheckedData)
    → list_any (λ c. b && p c) cs ≡ (b && list_any p cs)
any_and true p cs = refl
any_and false p [] = refl
any_and false p (c ∷ cs) = any_and false p cs

pub any_clashing : (q : List ℕ) (names : BTreeSet (List ℕ)) (cs : List CheckedData)
    → list_any (bytes_eq q) (filter_map (clashing_name names) cs)
    ≡ (set_has_name names q && list_any (bytes_eq q) (filter_map whole_name cs))
any_clashing q names cs =
    any_filter (clashing_name names) (bytes_eq q) cs
    ∙ any_same (λ c. passes (bytes_eq q) (clashing_name names c)) (λ c. set_has_name names q && passes (bytes_eq q) (whole_name c)) (λ c. name_passes (set_has_name names) q (whole_name c)) cs
    ∙ any_and (set_has_name names q) (λ c. passes (bytes_eq q) (whole_name c)) cs
    ∙ rw (any_filter whole_name (bytes_eq q) cs) refl
