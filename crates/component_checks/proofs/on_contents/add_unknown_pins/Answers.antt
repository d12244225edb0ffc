use Rattle.std.proofs.Common.{rules, ◌≡◌, ◌∙◌, ◌++◌, OnOk, List, map, ap, subst, sym}
use Rattle.std.specs.List.{filter_map}
use Rattle.drc_findings.specs.declared.finding.Finding.{Finding}
use Rattle.component_checks.specs.CheckedComponents.{CheckedData}
use Rattle.component_checks.specs.OnComponents.{unknown_pins}
use Rattle.component_checks.specs.steps.FoundBy.{unknown_at}
use Rattle.component_checks.specs.steps.ToldPins.{unknown_number}
use Rattle.component_checks.proofs.UnknownLemmas.{unknown_listed, unknown_other}
use Rattle.component_checks.proofs.on_contents.add_unknown_pins.Goals as goal

pub returns-then-not-is_listed : goal.returns-then-not-is_listed
returns-then-not-is_listed c =
    let component = c.args.component.now in
    rw (unknown_other component (sym c.if-not-is_listed.ensures) component.pins) (search rules)

pub returns : goal.returns
returns c =
    let component = c.args.component.now in
    let pins = ap (λ (d : CheckedData). d.pins) c.component.view_is in
    let all : map (unknown_at component) c.unknown.result.now ≡ unknown_pins component = ap (map (unknown_at component)) (c.unknown.ensures ∙ ap (filter_map unknown_number) pins)
    ∙ unknown_listed component (sym c.if-not-is_listed.ensures) component.pins in
    subst (λ (more : List Finding). OnOk c.add_unknown_among.result (c.add_unknown_among.new.found.items ≡ c.args.found.now.items ++ more)) all c.add_unknown_among.ensures
