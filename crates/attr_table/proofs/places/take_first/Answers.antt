use Rattle.std.proofs.Common.{◌≡◌, ◌∙◌, ℕ, List, None, true, false, Bor, option_map, is_some, rules, sym, ap, subst}
use Rattle.attr_rules.specs.Splits.{split_of}
use Rattle.attr_table.specs.steps.Places.{firsts_at}
use Rattle.attr_table.proofs.PlaceLemmas.{Puts, more_places, named_cut, plain_places, still_places}
use Rattle.attr_table.proofs.places.take_first.Goals as goal

pub returns-in_default : goal.returns-in_default
returns-in_default c = λ before place are.
    let none : split_of c.args.text.now.content ≡ None = search rules in
    plain_places before c.args.text.now c.args.firsts.now are none

pub returns-in_ok-insert : goal.returns-in_ok-insert
returns-in_ok-insert c = λ before place are.
    let name = c.in-Some.name.now in
    let text : c.as_str.result.now ≡ c.args.text.now.content = search rules in
    let split = ap split_of (sym text) ∙ sym c.split_attr.ensures ∙ ap (option_map (λ (r : Bor (List ℕ) × Bor (List ℕ)). (r.0.now, r.1.now))) c.in-Some.is in
    let none : is_some (firsts_at c.args.firsts.now name) ≡ false = search rules in
    let put : Puts c.args.firsts.now c.insert.new.self name c.args.place = search rules in
    more_places before c.args.text.now name c.args.firsts.now c.insert.new.self are (λ q. named_cut q c.args.text.now _ split) none
    (subst (Puts c.args.firsts.now c.insert.new.self name) place put)

pub returns-else-not-contains_key : goal.returns-else-not-contains_key
returns-else-not-contains_key c = λ before place are.
    let name = c.in-Some.name.now in
    let text : c.as_str.result.now ≡ c.args.text.now.content = search rules in
    let split = ap split_of (sym text) ∙ sym c.split_attr.ensures ∙ ap (option_map (λ (r : Bor (List ℕ) × Bor (List ℕ)). (r.0.now, r.1.now))) c.in-Some.is in
    let there : is_some (firsts_at c.args.firsts.now name) ≡ true = search rules in
    still_places before c.args.text.now _ c.args.firsts.now are split there
