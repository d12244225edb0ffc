use Rattle.std.proofs.Common.{◌≡◌, ℕ, ◌<◌, ◌+◌, suc, List, [], ◌∷◌, Ok, Err, drop, drop-cons, length, sym, ap, subst, ◌∙◌, arith}
use Rattle.std.proofs.lemmas.Result.{err_from_is_err_and}
use Rattle.project_files.specs.steps.Progress.{AskedData, Asks}
use Rattle.project_files.specs.steps.Asking.{AsksValues, LeavesValues}
use Rattle.project_files.proofs.Passing.{fault_later}
use Rattle.project_files.proofs.AskingLemmas.{asks_then, kept_on, more_values}
use Rattle.project_files.proofs.asking.Asked.ask_values.Goals as goal

pub returns-in_err-ask_value-clause-read : goal.returns-in_err-ask_value-clause-read
returns-in_err-ask_value-clause-read g c =
    let p = err_from_is_err_and c.from_residual.result c.from_residual.ensures.1 in
    let old : AskedData = c.args.self.now in
    let mid : AskedData = c.loop-value.self in
    let files = g.F.Folder.files c.args.folder.now in
    let now = g.F.Folder.files c.loop-value.folder in
    let values = c.args.values.now in
    let value = c.as_str.result.now in
    let fault = c.in_err-ask_value.field-0.0 in
    rw (p.1, p.2) (fault_later (g.F.Folder.faults c.args.folder.now) (g.F.Folder.faults c.loop-value.folder) _ (Asks now mid (AsksValues mid (value ∷ []))) (Asks files old (AsksValues old values)) fault c.loop-value.invariant.later
    (asks_then files now old mid (LeavesValues old values mid (drop c.loop-value.value-index values)) (AsksValues mid (value ∷ [])) (AsksValues old values) (Err fault) c.loop-value.invariant.read c.loop-value.invariant.kept (λ known first none. absurd none))
    c.in_err-ask_value.ensures.read)

pub loop-value-preserved : goal.loop-value-preserved
loop-value-preserved g c =
    let old : AskedData = c.args.self.now in
    let mid : AskedData = c.loop-value.self in
    let new : AskedData = c.ask_value.new.self in
    let files = g.F.Folder.files c.args.folder.now in
    let now = g.F.Folder.files c.loop-value.folder in
    let values = c.args.values.now in
    let i = c.loop-value.value-index in
    let value = c.value-item.result in
    let h : i < length values = omega arith in
    let next : suc i ≡ i + 1 = omega arith in
    let left : drop i values ≡ value ∷ drop (i + 1) values = drop-cons values i value h ∙ ap (λ (v : List ℕ). v ∷ drop (suc i) values) (sym c.value-item.is) ∙ ap (λ (k : ℕ). value ∷ drop k values) next in
    record {
      read = asks_then files now old mid (LeavesValues old values mid (drop i values)) (AsksValues mid (value ∷ [])) (λ known r. LeavesValues old values new (drop (i + 1) values) known) (Ok new) c.loop-value.invariant.read c.loop-value.invariant.kept
          (λ known first last. more_values old mid new values (drop (i + 1) values) value known (subst (λ (l : List (List ℕ)). LeavesValues old values mid l known) left first) last)
          (subst (λ (v : List ℕ). Asks now mid (AsksValues mid (v ∷ [])) (Ok new)) c.as_str.ensures c.in_ok-ask_value.ensures.read);
      kept = kept_on files now (g.F.Folder.files c.ask_value.new.folder) c.loop-value.invariant.kept c.in_ok-ask_value.ensures.files;
      later = omega arith;
    }
