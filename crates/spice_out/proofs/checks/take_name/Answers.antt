use Rattle.std.proofs.Common.{◌≡◌, rules}
use Rattle.spice_out.specs.Cards.{card_name, folded}
use Rattle.spice_out.proofs.NameLemmas.{names_more}
use Rattle.spice_out.proofs.checks.take_name.Goals as goal

pub returns-clause-names : goal.returns-clause-names
returns-clause-names c = λ earlier card has.
    let is : c.in_ok-folded.field-0.items ≡ folded (card_name c.args.part.now.refdes) = search rules in
    names_more earlier c.args.part.now c.args.names.now c.insert.new.self c.in_ok-folded.field-0 has card is c.in_ok-is_new.ensures.updates
