use Rattle.std.proofs.Common.{◌∙◌, ap, sym, option_copied}
use Rattle.attr_rules.specs.FirstValues.{ValuesData}
use Rattle.component_checks.proofs.ValueLemmas.{net_is}
use Rattle.component_checks.proofs.value_faults.value_faults.Goals as goal

pub returns-then-is_sound : goal.returns-then-is_sound
returns-then-is_sound c = λ known. sym (known (let h = c.if-is_sound.true in cc))

pub has_bad_net-requires : goal.has_bad_net-requires
has_bad_net-requires c =
    ap (λ (v : ValuesData). v.net) c.values.view_is
    ∙ net_is c.args.object.now (option_copied c.args.library) c.args.values.now c.requires
