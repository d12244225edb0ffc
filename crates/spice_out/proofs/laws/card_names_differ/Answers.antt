use Rattle.spice_out.proofs.LawLemmas.{cards_differ}
use Rattle.spice_out.proofs.laws.card_names_differ.Goals as goal

pub returns : goal.returns
returns c = cards_differ
