use Rattle.std.proofs.Common.{refl}
use Rattle.drc_findings.proofs.FoundLemmas.{none_alike}
use Rattle.drc_findings.proofs.found.add_same_text.Goals as goal

pub returns-then-is_empty : goal.returns-then-is_empty
returns-then-is_empty c = λ names has.
    none_alike c.args.found.now.items c.args.alike.now names c.args.name.now (c.if-is_empty.ensures.0 refl) has
