use Rattle.std.proofs.Common.{ℕ, List, ◌∷◌, take, sym, ap, ◌∙◌}
use Rattle.std.proofs.lemmas.List.{take_rest}
use Rattle.sheet_lines.proofs.FirstFields.{letter_first}
use Rattle.sheet_lines.proofs.line.cut_first.Goals as goal

pub returns-then-second-eq32 : goal.returns-then-second-eq32
returns-then-second-eq32 c =
    let first = letter_first c.args.line.now c.in-len2-up.len_at_least c.if-first-gt32.true c.if-second-eq32.true in
    let others = rw take_rest at c.fields.ensures.given in
    first ∙ ap (λ (ws : List (List ℕ)). take 1 c.args.line.now ∷ ws) (sym others)
