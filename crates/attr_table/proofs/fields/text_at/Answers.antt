use Rattle.std.proofs.Common.{◌∙◌, sym}
use Rattle.csv.specs.Records.{fields_of}
use Rattle.csv.proofs.RecordFacts.{field-get}
use Rattle.attr_table.proofs.TextLemmas.{each_text, no_field}
use Rattle.attr_table.proofs.fields.text_at.Goals as goal

pub text_in-requires : goal.text_in-requires
text_in-requires c = each_text (fields_of c.args.source.now) c.args.place c.in-Some.field.now c.requires.texts (sym c.in-Some.ensures.value)

pub returns-in-Some : goal.returns-in-Some
returns-in-Some c = c.text_in.ensures ∙ sym (field-get (fields_of c.args.source.now) c.args.place c.in-Some.field.now (sym c.in-Some.ensures.value))

pub returns-in-None : goal.returns-in-None
returns-in-None c = sym (no_field (fields_of c.args.source.now) c.args.place (sym c.in-None.ensures.value))
