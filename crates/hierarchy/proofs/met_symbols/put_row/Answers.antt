use Rattle.std.proofs.Common.{◌≡◌, ℕ, List, Some, subst}
use Rattle.std.specs.Prelude.{cond}
use Rattle.std.specs.HashMap.{get_by_text}
use Rattle.std.specs.Str.{bytes_eq}
use Rattle.std.specs.String.{string_bytes}
use Rattle.std.proofs.lemmas.Map.Text.{hash_map_updates_text}
use Rattle.hierarchy.proofs.met_symbols.put_row.Goals as goal

pub returns-clause-put : goal.returns-clause-put
returns-clause-put c =
    let old = c.args.rows.now in
    let new = c.insert.new.self in
    subst (λ (name : List ℕ). (q : List ℕ) → get_by_text new q ≡ cond (bytes_eq name q) (Some c.args.met) (get_by_text old q)) c.in_ok-basename.ensures.ok
    (hash_map_updates_text (string_bytes c.in_ok-basename.basename) old new (Some c.args.met) c.in_ok-insert.ensures.updates)
