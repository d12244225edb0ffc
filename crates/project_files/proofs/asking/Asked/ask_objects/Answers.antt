use Rattle.std.proofs.Common.{◌≡◌, ℕ, ◌<◌, ◌+◌, suc, List, ◌∷◌, Ok, Err, drop, drop-cons, length, sym, ap, subst, ◌∙◌, arith}
use Rattle.std.proofs.lemmas.Result.{err_from_is_err_and}
use Rattle.geda_model.specs.Sheets.{ObjectData}
use Rattle.project_files.specs.steps.Progress.{AskedData, Asks}
use Rattle.project_files.specs.steps.Asking.{AsksObject, AsksObjects, LeavesObjects}
use Rattle.project_files.proofs.Passing.{fault_later}
use Rattle.project_files.proofs.AskingLemmas.{asks_then, kept_on, more_objects, objects_fault}
use Rattle.project_files.proofs.asking.Asked.ask_objects.Goals as goal

pub returns-in_err-ask_object-clause-read : goal.returns-in_err-ask_object-clause-read
returns-in_err-ask_object-clause-read g c =
    let p = err_from_is_err_and c.from_residual.result c.from_residual.ensures.1 in
    let old : AskedData = c.args.self.now in
    let mid : AskedData = c.loop-object.self in
    let files = g.F.Folder.files c.args.folder.now in
    let now = g.F.Folder.files c.loop-object.folder in
    let objects : List ObjectData = c.args.objects.now in
    let i = c.loop-object.object-index in
    let object : ObjectData = c.object-item.result in
    let h : i < length objects = omega arith in
    let left : drop i objects ≡ object ∷ drop (suc i) objects = drop-cons objects i object h ∙ ap (λ (o : ObjectData). o ∷ drop (suc i) objects) (sym c.object-item.is) in
    let fault = c.in_err-ask_object.field-0.0 in
    rw (p.1, p.2) (fault_later (g.F.Folder.faults c.args.folder.now) (g.F.Folder.faults c.loop-object.folder) _ (Asks now mid (AsksObject mid object)) (Asks files old (AsksObjects old objects)) fault c.loop-object.invariant.later
    (asks_then files now old mid (LeavesObjects old objects mid (drop i objects)) (AsksObject mid object) (AsksObjects old objects) (Err fault) c.loop-object.invariant.read c.loop-object.invariant.kept
    (λ known first last. objects_fault old mid objects (drop (suc i) objects) object known fault (subst (λ (l : List ObjectData). LeavesObjects old objects mid l known) left first) last))
    c.in_err-ask_object.ensures.read)

pub loop-object-preserved : goal.loop-object-preserved
loop-object-preserved g c =
    let old : AskedData = c.args.self.now in
    let mid : AskedData = c.loop-object.self in
    let new : AskedData = c.ask_object.new.self in
    let files = g.F.Folder.files c.args.folder.now in
    let now = g.F.Folder.files c.loop-object.folder in
    let objects : List ObjectData = c.args.objects.now in
    let i = c.loop-object.object-index in
    let object : ObjectData = c.object-item.result in
    let h : i < length objects = omega arith in
    let next : suc i ≡ i + 1 = omega arith in
    let left : drop i objects ≡ object ∷ drop (i + 1) objects = drop-cons objects i object h ∙ ap (λ (o : ObjectData). o ∷ drop (suc i) objects) (sym c.object-item.is) ∙ ap (λ (k : ℕ). object ∷ drop k objects) next in
    record {
      read = asks_then files now old mid (LeavesObjects old objects mid (drop i objects)) (AsksObject mid object) (λ known r. LeavesObjects old objects new (drop (i + 1) objects) known) (Ok new) c.loop-object.invariant.read c.loop-object.invariant.kept
          (λ known first last. more_objects old mid new objects (drop (i + 1) objects) object known (subst (λ (l : List ObjectData). LeavesObjects old objects mid l known) left first) last)
          c.in_ok-ask_object.ensures.read;
      kept = kept_on files now (g.F.Folder.files c.ask_object.new.folder) c.loop-object.invariant.kept c.in_ok-ask_object.ensures.files;
      later = omega arith;
    }
