use Rattle.std.proofs.Common.{◌++◌, ◌∷◌, [], List, ap, ◌∙◌}
use Rattle.net_list.specs.declared.package.Package.{Package}
use Rattle.flat_rows.specs.PartLists.{parts_in}
use Rattle.flat_rows.proofs.PartLemmas.{parts_stand, parts_tell}
use Rattle.flat_rows.proofs.parts.PartRows.push.Goals as goal

pub invariant_of-self-in_default : goal.invariant_of-self-in_default
invariant_of-self-in_default c =
    let old = c.self.inside.lists in
    parts_stand c.push.new.self (parts_in old ++ c.args.part ∷ []) (c.in_default.ensures (parts_in old) c.self.invariant)

pub returns : goal.returns
returns c =
    let old = c.self.inside.lists in
    parts_tell c.push.new.self (parts_in old ++ c.args.part ∷ []) (c.in_default.ensures (parts_in old) c.self.invariant)
    ∙ ap (λ (parts : List Package). parts ++ c.args.part ∷ []) c.self.view_is
