use Rattle.std.proofs.Common.{◌≡◌, ◌++◌, ℕ, List}
use Rattle.std.specs.HashMap.{get_by_text}
use Rattle.std.specs.HashSet.{contains_text}
use Rattle.refdes_renum.specs.Renumbering.{component_refdeses, renumbered_at}
use Rattle.refdes_renum.specs.steps.UsedTexts.{Tracks}
use Rattle.refdes_renum.proofs.renumbering.renumbered_at.Given as goal

abbrev pub invariant-loop-place : goal.invariant-loop-place
invariant-loop-place l =
    (texts : List (List ℕ)) × Tracks texts (contains_text l.used.used) (get_by_text l.used.next)
    × (l.change.items ++ renumbered_at l.project.contents texts l.place-iterator
    ≡ renumbered_at l.project.contents (component_refdeses l.project.contents) l.places.keys)
