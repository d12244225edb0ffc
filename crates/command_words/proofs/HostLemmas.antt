-- A word that has not a prefix.
use Rattle.std.proofs.Common.{◌≡◌, ◌≢◌, ℕ, false, List, ◌++◌, drop, length, nat_eq, refl}
use Rattle.std.specs.List.{starts_with}
use Rattle.std.proofs.lemmas.Bool.{false_from_ne_true}
use Rattle.std.proofs.lemmas.Bool.Decides.{Decides-eqb}
use Rattle.std.proofs.lemmas.Slice.Eq.{starts_is}

pub not_begun : (word prefix : List ℕ) → ((rest : List ℕ) → word ≢ prefix ++ rest)
    → starts_with nat_eq word prefix ≡ false
not_begun word prefix lacks =
    false_from_ne_true _ (λ yes. lacks (drop (length prefix) word)
    ((starts_is Decides-eqb word prefix _ refl).0 yes))
