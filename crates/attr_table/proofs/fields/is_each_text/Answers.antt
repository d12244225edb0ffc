use Rattle.std.proofs.Common.{◌≡◌, ◌∙◌, ◌<◌, ◌≤◌, [], true, false, get_or, length, arith, rules, sym}
use Rattle.std.specs.Str.{is_utf8}
use Rattle.csv.specs.Records.{fields_of}
use Rattle.attr_table.proofs.TextLemmas.{no_more, no_text, text_next}
use Rattle.attr_table.proofs.fields.is_each_text.Goals as goal

pub loop-place-preserved : goal.loop-place-preserved
loop-place-preserved c =
    let i = c.loop-place.place in
    let fields = fields_of c.args.source.now in
    let within : i < length fields = (let test = c.loop-place-test.true in let count = c.len-place-end.ensures in omega (arith, test, count)) in
    let good : is_utf8 (get_or fields i []) ≡ true = search rules in
    text_next fields i within good ∙ c.loop-place.invariant

pub returns-then-not-is_text_at : goal.returns-then-not-is_text_at
returns-then-not-is_text_at c =
    let i = c.loop-place.place in
    let fields = fields_of c.args.source.now in
    let within : i < length fields = (let test = c.loop-place-test.true in let count = c.len-place-end.ensures in omega (arith, test, count)) in
    let bad : is_utf8 (get_or fields i []) ≡ false = search rules in
    sym (no_text fields i within bad) ∙ c.loop-place.invariant

pub returns : goal.returns
returns c =
    let i = c.loop-place.place in
    let fields = fields_of c.args.source.now in
    let all : length fields ≤ i = (let test = c.loop-place-test.false in let count = c.len-place-end.ensures in omega (arith, test, count)) in
    sym (no_more fields i all) ∙ c.loop-place.invariant
