use Rattle.std.proofs.Common.{◌≡◌, List, ℕ, Some, subst, rules, ◌∙◌}
use Rattle.std.specs.HashMap.{get_by_text}
use Rattle.std.specs.Map.{update}
use Rattle.std.specs.Str.{bytes_eq}
use Rattle.std.specs.String.{string_bytes}
use Rattle.std.proofs.lemmas.Map.Text.{hash_map_updates_text}
use Rattle.std.proofs.lemmas.Slice.Eq.{bytes_eq-Decides}
use Rattle.link_classes.proofs.FirstPlaceLemmas.{AddsKey-from_update}
use Rattle.link_classes.proofs.names.tie_name.Goals as goal

pub returns-in_ok-insert-in-None-clause-first : goal.returns-in_ok-insert-in-None-clause-first
returns-in_ok-insert-in-None-clause-first c =
    let key = c.in_ok-key-in-None.key in
    let old = c.args.first.now in
    let new = c.insert.new.self in
    AddsKey-from_update bytes_eq bytes_eq-Decides c.args.name.now c.args.place (get_by_text old) (get_by_text new) (search rules)
    (subst (λ (name : List ℕ). (q : List ℕ) → get_by_text new q ≡ update bytes_eq (get_by_text old) name (Some c.args.place) q)
    (c.in_ok-key-in-None.ensures.ok ∙ c.as_str-in-None.ensures)
    (hash_map_updates_text (string_bytes key) old new (Some c.args.place) c.in_ok-insert-in-None.ensures.updates))
