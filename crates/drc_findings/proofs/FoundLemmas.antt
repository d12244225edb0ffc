-- Findings on names that print alike.
use Rattle.std.proofs.Common.{◌≡◌, ◌∙◌, ℕ, List, [], ◌∷◌, ◌++◌, false, refl, sym, arith, length, append-nil}
use Rattle.std.specs.BTreeSet.{BTreeSet}
use Rattle.printed_texts.specs.PrintedTexts.{word}
use Rattle.text_tallies.specs.LookAlike.{look_alike}
use Rattle.text_tallies.specs.NameSets.{HasNames}
use Rattle.text_tallies.proofs.AlikeLemmas.{none_has}
use Rattle.drc_findings.specs.declared.finding.Finding.{Finding}
use Rattle.drc_findings.specs.Findings.{same_text}

no_keys : {A : Type 0} (xs : List A) → length xs ≡ 0 → xs ≡ []
no_keys [] e = refl
no_keys (x ∷ xs) e = absurd (omega (arith, e))

-- where no names print alike, nothing is found on a name
pub none_alike : (found : List Finding) (alike : BTreeSet (List ℕ)) (names : List (List ℕ)) (name : List ℕ)
    → length alike.keys ≡ 0 → HasNames (look_alike names) alike → found ≡ found ++ same_text names name
none_alike found alike names name empty has =
    let none : look_alike names (word name) ≡ false = sym (has (word name)) ∙ none_has alike (word name) (no_keys alike.keys empty) in
    rw none (sym (append-nil found))
