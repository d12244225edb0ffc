use Rattle.std.proofs.Common.{List, ℕ, ◌++◌, append_assoc, ap, ◌∙◌, sym, map}
use Rattle.geda_defs.specs.Lines.{spaced}
use Rattle.printed_texts.specs.PrintedTexts.{word}
use Rattle.net_list.specs.declared.package.Package.{Package}
use Rattle.backends.proofs.Spaces.{spaced_from_first}
use Rattle.backends.proofs.bill_text.put_refdes.Goals as goal

pub returns-in_ok-put_others : goal.returns-in_ok-put_others
returns-in_ok-put_others c =
    let refdes : Package → List ℕ = λ p. word p.refdes in
    let others = map (λ m. m.now) c.in-Some.others.now in
    c.in_ok-put_others.ensures
    ∙ (rw (c.in_ok-put_word.ensures, c.as_bytes.ensures.value, c.as_str.ensures.text) (simp append_assoc)
    ∙ ap (λ (text : List ℕ). c.args.out.now.items ++ text) (sym (spaced_from_first refdes c.in-Some.first.now.now others))
    ∙ ap (λ (members : List Package). c.args.out.now.items ++ spaced (map refdes members)) (ap (map (λ m. m.now)) (sym c.in-Some.ensures.cases.0)))
