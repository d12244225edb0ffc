use Rattle.std.proofs.Common.{◌≡◌, ◌++◌, ℕ, List, drop, map}
use Rattle.std.specs.HashMap.{get_by_text}
use Rattle.std.specs.HashSet.{contains_text}
use Rattle.std.specs.List.{filter_map}
use Rattle.project_model.specs.Tables.{row_now}
use Rattle.refdes_renum.specs.Renumbering.{component_refdes}
use Rattle.refdes_renum.specs.steps.UsedTexts.{Tracks}
use Rattle.refdes_renum.proofs.places.used_texts.Given as goal

abbrev pub invariant-loop-row : goal.invariant-loop-row
invariant-loop-row l =
    (texts : List (List ℕ)) × Tracks texts (contains_text l.used.used) (get_by_text l.used.next)
    × (texts ++ filter_map (λ row. component_refdes l.project.contents row.1.object) (map row_now (drop l.row-index l.rows))
    ≡ filter_map (λ row. component_refdes l.project.contents row.1.object) (map row_now l.rows))
