use Rattle.geda_write.proofs.shapes.put_place.Goals as goal

pub returns-in-Text : goal.returns-in-Text
returns-in-Text g c = rw c.in-Text.is c.put_text_numbers.ensures
