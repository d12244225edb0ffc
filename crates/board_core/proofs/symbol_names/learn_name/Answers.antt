use Rattle.std.proofs.Common.{◌≡◌, ℕ, List, true, subst}
use Rattle.std.specs.Prelude.{cond}
use Rattle.std.specs.HashSet.{contains_text}
use Rattle.std.specs.Str.{bytes_eq}
use Rattle.std.specs.String.{string_bytes}
use Rattle.std.proofs.lemmas.Map.Text.{hash_set_updates_text}
use Rattle.board_core.proofs.NameLemmas.{learned_more, learned_one}
use Rattle.board_core.proofs.symbol_names.learn_name.Goals as goal

pub returns-clause-more : goal.returns-clause-more
returns-clause-more c =
    let old = c.args.names.now in
    let new = c.insert.new.self in
    learned_more c.args.name.now (contains_text old) (contains_text new)
    (subst (λ (text : List ℕ). (q : List ℕ) → contains_text new q ≡ cond (bytes_eq text q) true (contains_text old q)) c.in_ok-from_str.ensures.ok
    (hash_set_updates_text (string_bytes c.in_ok-from_str.field-0) old new true c.in_ok-insert.ensures.updates))

pub returns-clause-known : goal.returns-clause-known
returns-clause-known c =
    let old = c.args.names.now in
    let new = c.insert.new.self in
    learned_one c.args.name.now (contains_text old) (contains_text new)
    (subst (λ (text : List ℕ). (q : List ℕ) → contains_text new q ≡ cond (bytes_eq text q) true (contains_text old q)) c.in_ok-from_str.ensures.ok
    (hash_set_updates_text (string_bytes c.in_ok-from_str.field-0) old new true c.in_ok-insert.ensures.updates))
