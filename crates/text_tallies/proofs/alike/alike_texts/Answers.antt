use Rattle.std.proofs.Common.{◌≡◌, ◌∙◌, map, rules, sym, true}
use Rattle.std.specs.List.{list_all}
use Rattle.text_tallies.specs.steps.PlainNames.{is_plain}
use Rattle.text_tallies.proofs.AlikeLemmas.{none_has}
use Rattle.text_tallies.proofs.PlainLemmas.{plain_none_alike}
use Rattle.text_tallies.proofs.alike.alike_texts.Goals as goal

pub returns-then-are_plain : goal.returns-then-are_plain
returns-then-are_plain c = λ q.
    let plain : list_all is_plain (map (λ n. n.now) c.args.names.now) ≡ true = search rules in
    none_has c.new.result q c.new.ensures.empty ∙ sym (plain_none_alike q (map (λ n. n.now) c.args.names.now) plain)
