use Rattle.std.proofs.Common.{◌≡◌, ℕ, List, Some, subst}
use Rattle.std.specs.Prelude.{cond}
use Rattle.std.specs.HashMap.{get_by_text}
use Rattle.std.specs.Str.{bytes_eq}
use Rattle.std.specs.String.{string_bytes}
use Rattle.std.proofs.lemmas.Map.Text.{hash_map_updates_text}
use Rattle.refdes_renum.proofs.used.set_next.Goals as goal

pub returns : goal.returns
returns c =
    let old = c.args.next.now in
    let new = c.insert.new.self in
    subst (λ (stem : List ℕ). (q : List ℕ) → get_by_text new q ≡ cond (bytes_eq stem q) (Some c.args.number) (get_by_text old q)) c.in_ok-stem.ensures.ok
    (hash_map_updates_text (string_bytes c.in_ok-stem.stem) old new (Some c.args.number) c.in_ok-insert.ensures.updates)
