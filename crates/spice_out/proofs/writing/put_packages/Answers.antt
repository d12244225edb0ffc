use Rattle.std.proofs.Common.{◌≡◌, ◌∙◌, ◌∷◌, ◌++◌, ◌+◌, [], List, None, drop, take, subst, sym, ap}
use Rattle.std.proofs.lemmas.List.{drop_more, take_more}
use Rattle.std.proofs.lemmas.Result.{err_from_is_err_and}
use Rattle.geda_defs.specs.Lines.{ended}
use Rattle.net_list.specs.declared.package.Package.{Package}
use Rattle.spice_out.specs.Faults.{first_spice_fault, package_fault}
use Rattle.spice_out.specs.SpiceText.{package_card}
use Rattle.spice_out.specs.steps.CardNames.{HasNames}
use Rattle.spice_out.proofs.CardLemmas.{fails_in, passes_on, text_next}
use Rattle.spice_out.proofs.writing.put_packages.Goals as goal

pub returns-in_err-put_package-clause-fault : goal.returns-in_err-put_package-clause-fault
returns-in_err-put_package-clause-fault c =
    let nets = c.args.nets.now in
    let ps = c.args.packages.now in
    let i = c.loop-part.part-index in
    let p = c.part-item.result in
    let is : drop i ps ≡ p ∷ drop (i + 1) ps = drop_more ps i p c.loop-part-test.true ∙ ap (λ (x : Package). x ∷ drop (i + 1) ps) (sym c.part-item.is) in
    let failed = c.in_err-put_package.ensures.fault (take i ps) c.loop-part.invariant.names in
    let err = err_from_is_err_and c.from_residual.result c.from_residual.ensures.1 in
    rw (err.1, err.2) (fails_in nets (take i ps) (drop i ps) p (drop (i + 1) ps) is _ (first_spice_fault nets [] ps) c.loop-part.invariant.fault failed)

pub loop-part-preserved : goal.loop-part-preserved
loop-part-preserved c =
    let nets = c.args.nets.now in
    let ps = c.args.packages.now in
    let i = c.loop-part.part-index in
    let p = c.part-item.result in
    let is : drop i ps ≡ p ∷ drop (i + 1) ps = drop_more ps i p c.loop-part-test.true ∙ ap (λ (x : Package). x ∷ drop (i + 1) ps) (sym c.part-item.is) in
    let more : take (i + 1) ps ≡ take i ps ++ p ∷ [] = take_more ps i p c.loop-part-test.true ∙ ap (λ (x : Package). take i ps ++ x ∷ []) (sym c.part-item.is) in
    let told = c.in_ok-put_package.ensures in
    let none : package_fault nets (take i ps) p ≡ None = told.fault (take i ps) c.loop-part.invariant.names in
    record {
      text = rw told.text (text_next nets (take i ps) (drop i ps) p (drop (i + 1) ps) is (λ q. ended (package_card nets q)) c.loop-part.out.items _ c.loop-part.invariant.text);
      names = subst (λ (qs : List Package). HasNames qs c.put_package.new.names) (sym more) (told.names (take i ps) c.loop-part.invariant.names);
      fault = subst (λ (qs : List Package). first_spice_fault nets qs (drop (i + 1) ps) ≡ first_spice_fault nets [] ps) (sym more)
          (passes_on nets (take i ps) (drop i ps) p (drop (i + 1) ps) is (first_spice_fault nets [] ps) c.loop-part.invariant.fault none);
    }
