use Rattle.std.proofs.Common.{◌≡◌, ℕ, List, true, subst, ◌∙◌}
use Rattle.std.specs.Prelude.{cond}
use Rattle.std.specs.HashSet.{contains_text}
use Rattle.std.specs.Str.{bytes_eq}
use Rattle.std.specs.String.{string_bytes}
use Rattle.std.proofs.lemmas.Map.Text.{hash_set_updates_text}
use Rattle.board_core.proofs.changed.add_thing.Goals as goal

pub returns-in_ok-insert-in-SymbolName-clause-symbols : goal.returns-in_ok-insert-in-SymbolName-clause-symbols
returns-in_ok-insert-in-SymbolName-clause-symbols c =
    let old = c.args.symbols.now in
    let new = c.insert-in-SymbolName.new.self in
    rw c.in-SymbolName.is
    (subst (λ (text : List ℕ). (q : List ℕ) → contains_text new q ≡ cond (bytes_eq text q) true (contains_text old q)) (c.in_ok-from_str-in-SymbolName.ensures.ok ∙ c.as_str.ensures.text)
    (hash_set_updates_text (string_bytes c.in_ok-from_str-in-SymbolName.field-0) old new true c.in_ok-insert-in-SymbolName.ensures.updates))
