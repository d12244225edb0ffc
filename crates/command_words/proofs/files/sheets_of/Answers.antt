use Rattle.std.proofs.Common.{rules, Some, ◌==◌, ◌≢◌, AllPairs, ap, length, map, subst, sym, ◌∙◌, ◌≡◌}
use Rattle.std.proofs.lemmas.List.{length-map}
use Rattle.std.proofs.lemmas.Map.Made.{AllPairs-from_IsDistinct}
use Rattle.std.proofs.lemmas.Slice.Eq.{bytes_eq-Decides}
use Rattle.geda_defs.specs.Lists.{each_once}
use Rattle.command_words.proofs.NameLemmas.{all_sheets, once_all}
use Rattle.command_words.proofs.files.sheets_of.Goals as goal

pub returns-clause-apart : goal.returns-clause-apart
returns-clause-apart c =
    let all : c.in_ok-names.names.keys ≡ c.in_ok-collect.field-0.items = search rules in
    subst (AllPairs ◌≢◌) all (AllPairs-from_IsDistinct bytes_eq-Decides c.in_ok-names.names.keys c.into_iter.ensures.into_iter_gives.3)

pub returns-clause-sheets : goal.returns-clause-sheets
returns-clause-sheets c =
    let words = map (λ w. w.now) c.args.words.now in
    let once = c.in_ok-names.ensures.once in
    let count = length-map c.args.words.now (λ w. w.now) in
    let as_many : length (each_once words) ≡ length words = ap length (sym once) ∙ sym c.len.ensures.len ∙ c.if-len-words.false ∙ sym count in
    all_sheets words (ap (λ n. n == 0) count ∙ sym c.if-is_empty.ensures) (c.in_ok-names.ensures.named (search rules)) as_many
    ∙ ap Some (sym ((search rules) ∙ once ∙ once_all words as_many))
