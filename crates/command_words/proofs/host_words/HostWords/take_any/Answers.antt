use Rattle.std.proofs.Common.{rules, ◌≡◌, false, codes, nat_eq}
use Rattle.std.specs.List.{starts_with}
use Rattle.command_words.proofs.HostLemmas.{not_begun}
use Rattle.command_words.proofs.host_words.HostWords.take_any.Goals as goal

pub returns-in-None : goal.returns-in-None
returns-in-None c =
    let none : starts_with nat_eq c.args.word.now (codes "--host=") ≡ false =
    not_begun c.args.word.now (codes "--host=") c.in-None.ensures.cases in
    search rules
