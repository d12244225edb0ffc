use Rattle.std.proofs.Common.{◌++◌, ◌∷◌, [], get_or, take, append_assoc, subst, sym, ap, ◌∙◌, arith}
use Rattle.std.proofs.lemmas.List.{take_all, take_more}
use Rattle.pair_classes.specs.steps.Unions.{AreUnionsOf}
use Rattle.pair_classes.proofs.UnionLemmas.{unions_more}
use Rattle.pair_classes.proofs.unions.unite_pairs.Goals as goal

pub loop-at-preserved : goal.loop-at-preserved
loop-at-preserved c =
    let h = c.loop-at.invariant in
    let pairs = c.args.pairs.now in
    let at = c.loop-at.at in
    let p = get_or pairs at (0, 0) in
    let new = c.unite.new.parents in
    record {
      len = omega arith;
      forest = c.unite.ensures.forest;
      adds = λ before unions.
          let more = unions_more (before ++ take at pairs) c.loop-at.parents new p.0 p.1 c.unite.ensures.joined c.unite.ensures.same c.unite.ensures.tied (h.adds before unions) in
          subst (λ ps. AreUnionsOf ps new) (append_assoc before (take at pairs) (p ∷ []) ∙ ap (λ ps. before ++ ps) (sym (take_more pairs at (0, 0) (omega arith)))) more;
    }

pub returns-clause-adds : goal.returns-clause-adds
returns-clause-adds c = λ before unions.
    subst (λ ps. AreUnionsOf (before ++ ps) c.loop-at.parents) (take_all c.loop-at.at c.args.pairs.now (omega arith)) (c.loop-at.invariant.adds before unions)
