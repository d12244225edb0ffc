-- What is behind a prefix.
use Rattle.std.proofs.Common.{◌≡◌, ◌≢◌, ℕ, true, false, List, [], ◌++◌, length, take, drop, refl, sym, ap, ◌∙◌}
use Rattle.std.proofs.lemmas.List.{take_at, take-append-drop}
use Rattle.std.proofs.lemmas.Bool.{false_from_ne_true}
use Rattle.std.proofs.lemmas.Slice.Eq.{bytes_eq-Decides}
use Rattle.std.specs.Str.{bytes_eq}
use Rattle.web_requests.specs.Paths.{behind}

pub behind_here : (prefix path : List ℕ) (k : ℕ) → k ≡ length prefix → path ≡ prefix ++ drop k path → drop k path ≡ behind prefix path
behind_here prefix path k n e =
    let same : take (length prefix) path ≡ prefix = ap (take (length prefix)) e ∙ take_at prefix (drop k path) (length prefix) refl in
    let yes : bytes_eq (take (length prefix) path) prefix ≡ true = (bytes_eq-Decides (take (length prefix) path) prefix).1 same in
    rw yes (ap (λ i. drop i path) n)

pub behind_not : (prefix path : List ℕ) → ((rest : List ℕ) → path ≢ prefix ++ rest) → [] ≡ behind prefix path
behind_not prefix path lacks =
    let no : bytes_eq (take (length prefix) path) prefix ≡ false = false_from_ne_true _ (λ yes. lacks (drop (length prefix) path) (sym (take-append-drop (length prefix) path) ∙ ap (λ t. t ++ drop (length prefix) path) ((bytes_eq-Decides (take (length prefix) path) prefix).0 yes))) in
    rw no refl
