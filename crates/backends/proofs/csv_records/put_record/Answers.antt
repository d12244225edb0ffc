use Rattle.std.proofs.Common.{rules, ap, subst, sym, ◌≤◌, ◌∙◌, ◌≡◌, ◌≢◌, List, ℕ, ◌++◌, map, false}
use Rattle.std.proofs.lemmas.List.{length-map}
use Rattle.csv.specs.Writing.{fields_written, has_written, row_text, writer_setup}
use Rattle.csv.specs.declared.writer.QuoteStyle.TheVariants as style
use Rattle.csv.specs.declared.writer.WriterBuilder.{WriterBuilder}
use Rattle.backends.specs.steps.CsvWriters.{written}
use Rattle.backends.proofs.Records.{same_record}
use Rattle.backends.proofs.csv_records.put_record.Goals as goal

pub returns-clause-text : goal.returns-clause-text
returns-clause-text c =
    let ready = c.requires.ready in
    let plain : (writer_setup c.args.writer.now).style ≢ style.NonNumeric = rw ready.setup (λ e. cc e) in
    let fields = map (λ f. f.now) c.args.fields.now in
    let wrote : fields_written c.args.writer.now ≡ 0 → has_written c.args.writer.now ≡ false → (writer_setup c.args.writer.now).style ≢ style.NonNumeric
    → written c.write_fields.new.self ≡ written c.args.writer.now ++ row_text (writer_setup c.args.writer.now) fields = search rules in
    wrote ready.fields ready.clean plain ∙ ap (λ (setup : WriterBuilder). written c.args.writer.now ++ row_text setup fields) ready.setup
    ∙ ap (λ (text : List ℕ). written c.args.writer.now ++ text) (same_record fields (subst (λ (n : ℕ). 2 ≤ n) (sym (length-map c.args.fields.now (λ f. f.now))) c.requires.several))
