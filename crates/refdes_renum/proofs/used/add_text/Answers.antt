use Rattle.std.proofs.Common.{◌≡◌, ℕ, List, true, subst}
use Rattle.std.specs.Prelude.{cond}
use Rattle.std.specs.HashSet.{contains_text}
use Rattle.std.specs.Str.{bytes_eq}
use Rattle.std.specs.String.{string_bytes}
use Rattle.std.proofs.lemmas.Map.Text.{hash_set_updates_text}
use Rattle.refdes_renum.proofs.used.add_text.Goals as goal

pub returns : goal.returns
returns c =
    let old = c.args.used.now in
    let new = c.insert.new.self in
    subst (λ (text : List ℕ). (q : List ℕ) → contains_text new q ≡ cond (bytes_eq text q) true (contains_text old q)) c.in_ok-text.ensures.ok
    (hash_set_updates_text (string_bytes c.in_ok-text.text) old new true c.in_ok-insert.ensures.updates)
