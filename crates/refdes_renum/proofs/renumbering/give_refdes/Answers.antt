use Rattle.std.proofs.Common.{subst, sym}
use Rattle.std.specs.String.{string_bytes}
use Rattle.refdes_renum.specs.steps.UsedTexts.{IsFeedless}
use Rattle.refdes_renum.proofs.ContentLemmas.{refdes_content, stem_feedless}
use Rattle.refdes_renum.proofs.renumbering.give_refdes.Goals as goal

pub returns-clause-content : goal.returns-clause-content
returns-clause-content c =
    refdes_content string_bytes c.give.result c.stem_of.result.now _ c.give.ensures.text c.give.ensures.small c.stem_of.utf8
    (subst IsFeedless (sym c.stem_of.ensures) (stem_feedless c.args.refdes.now c.requires.line))
