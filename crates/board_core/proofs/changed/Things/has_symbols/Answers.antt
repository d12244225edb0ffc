use Rattle.std.proofs.Common.{List, sym, ap, ◌∙◌}
use Rattle.std.specs.Str.{bytes_eq}
use Rattle.std.specs.String.{string_bytes}
use Rattle.project_model.specs.Items.{Item}
use Rattle.board_core.specs.Changed.{has_thing, is_symbol}
use Rattle.board_core.proofs.ThingLemmas.{none_in_empty, not_false}
use Rattle.board_core.proofs.changed.Things.has_symbols.Goals as goal

pub returns : goal.returns
returns c = λ some name.
    let empty = c.is_empty.ensures.0 (not_false c.is_empty.result some) in
    ap (λ (items : List Item). has_thing (is_symbol name) items) (sym c.self.view_is)
    ∙ sym (c.self.invariant.names name)
    ∙ none_in_empty (λ k. bytes_eq name (string_bytes k)) c.self.inside.symbols.keys empty
