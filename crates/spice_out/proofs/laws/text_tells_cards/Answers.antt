use Rattle.spice_out.proofs.TextLemmas.{cards_are_cut}
use Rattle.spice_out.proofs.laws.text_tells_cards.Goals as goal

pub returns : goal.returns
returns c = cards_are_cut
