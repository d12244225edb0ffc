-- The definitions, evaluated.
use Rattle.std.proofs.Common.{◌≡◌, ℕ, List, [], ◌∷◌, refl}
use Rattle.std.specs.Prelude.{codes}
use Rattle.geda_defs.specs.Order.{once_in_order}
use Rattle.instance_objects.specs.Occurrences.{OccurrenceData, by_occurrence}
use Rattle.instance_objects.specs.Texts.{under}

under_a_path : under (codes "X1") (codes "R1") ≡ codes "X1/R1"
under_a_path = refl

under_none : under [] (codes "R1") ≡ codes "R1"
under_none = refl

abbrev occurrence : List ℕ → ℕ → ℕ → OccurrenceData
occurrence route place id = record { route = route; instance = place; id = id }

-- by route first, then by id; of equals the first
in_order : once_in_order by_occurrence (occurrence (3 ∷ []) 1 2 ∷ occurrence [] 0 9 ∷ occurrence [] 0 3 ∷ occurrence [] 2 9 ∷ []) ≡
    occurrence [] 0 3 ∷ occurrence [] 0 9 ∷ occurrence (3 ∷ []) 1 2 ∷ []
in_order = refl
