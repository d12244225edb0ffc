use Rattle.std.proofs.Common.{◌≡◌, ◌≤◌, ◌-◌, ◌^◌, min, [], refl, sym, subst, arith}
use Rattle.std.specs.FinMap.{entries}
use Rattle.std.specs.HashSet.{contains_text}
use Rattle.project_model.specs.Projects.{ProjectData, empty_project}
use Rattle.group_runs.specs.Sheets.{SheetsData, asked_sum}
use Rattle.board_core.specs.steps.Kept.{HoldsProject}
use Rattle.board_core.specs.steps.SymbolNames.{AreKnown}
use Rattle.board_core.proofs.NameLemmas.{known_empty}
use Rattle.board_core.proofs.OpenLemmas.{empty_holds}
use Rattle.board_core.proofs.board.Board.new.Goals as goal

pub invariant_of-result : goal.invariant_of-result
invariant_of-result c =
    let none : asked_sum [] ≡ 0 = refl in
    record {
      known = subst (λ (p : ProjectData). AreKnown (contains_text c.new-3.result) (entries p.objects)) (sym c.new.ensures.contents) (known_empty (contains_text c.new-3.result));
      held = subst (λ p. HoldsProject p c.new-2.result.rows) (sym c.new.ensures.contents) (subst (λ (d : SheetsData). HoldsProject empty_project d.rows) (sym c.new-2.ensures.empty) empty_holds);
      counted = subst (λ (d : SheetsData). min (asked_sum d.rows) (2 ^ 64 - 1) ≤ d.steps) (sym c.new-2.ensures.empty) (omega (arith, none));
    }
