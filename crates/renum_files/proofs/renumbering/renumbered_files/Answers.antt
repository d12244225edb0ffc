use Rattle.std.proofs.Common.{ℕ, ◌-◌, ◌^◌, List, min, sym, ap, subst, ◌∙◌}
use Rattle.project_files.specs.Measures.{symbols_text}
use Rattle.project_model.specs.Changes.{CanApply, put}
use Rattle.project_model.specs.Items.{Item}
use Rattle.refdes_renum.proofs.LawLemmas.{can_apply}
use Rattle.renum_files.proofs.ChangeLemmas.{symbols_kept}
use Rattle.renum_files.proofs.renumbering.renumbered_files.Goals as goal

pub files_after-requires-clause-symbols : goal.files_after-requires-clause-symbols
files_after-requires-clause-symbols c =
    let p = c.args.measured.project.contents in
    let same = ap (λ (items : List Item). symbols_text (put p items)) c.in_ok-change.ensures ∙ symbols_kept p in
    c.requires.symbols ∙ ap (λ (n : ℕ). min n (2 ^ 64 - 1)) (sym same)

pub files_after-requires-clause-can_apply : goal.files_after-requires-clause-can_apply
files_after-requires-clause-can_apply c = subst CanApply (sym c.in_ok-change.ensures) (can_apply c.args.measured.project.contents c.requires.ids)
