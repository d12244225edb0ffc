use Rattle.std.proofs.Common.{◌∙◌, ap, sym, option_copied}
use Rattle.component_checks.proofs.ValueLemmas.{no_bad_net}
use Rattle.component_checks.proofs.attributes.has_bad_net.Goals as goal

pub returns-in-None : goal.returns-in-None
returns-in-None c = sym (no_bad_net c.args.object.now (option_copied c.args.library) (sym c.requires ∙ ap option_copied c.in-None.is))
