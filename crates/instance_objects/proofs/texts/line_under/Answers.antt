use Rattle.std.proofs.Common.{◌∙◌, sym, subst}
use Rattle.std.specs.Prelude.{All}
use Rattle.geda_model.specs.Names.{IsLineByte}
use Rattle.instance_objects.proofs.LineLemmas.{under_line}
use Rattle.instance_objects.proofs.texts.line_under.Goals as goal

pub line_of-requires : goal.line_of-requires
line_of-requires c =
    let same = rw c.as_str.ensures.text at c.in_ok-made.ensures in
    subst (All IsLineByte) (sym (c.as_str-2.ensures.value ∙ same)) (under_line c.args.path.now c.args.text.now c.as_str.ensures.line c.requires)
