-- All pairs that touch, found place by place, stand for what touches.
use Rattle.std.proofs.Common.{arith, ◌≡◌, ◌<◌, ◌+◌, ℕ, List, [], ◌∷◌, ◌++◌, length, get_or, Contains, sym, subst, inl, inr}
use Rattle.std.proofs.lemmas.List.{get_or_default}
use Rattle.std.proofs.lemmas.List.Elements.{All-from_get_or, Contains-append_cases, Contains-append_left, Contains-get_or, Contains-push}
use Rattle.pair_classes.specs.Pairs.{Spans}
use Rattle.pair_classes.proofs.LabelLemmas.{joined_by}
use Rattle.pair_classes.proofs.ListLemmas.{earlier_or_here, is_only, none_is_in}
use Rattle.sheet_groups.specs.declared.drawn.DrawnConductor.{DrawnConductor}
use Rattle.sheet_groups.specs.steps.Scans.{HasPairsBefore, HasPairsOf}
use Rattle.sheet_groups.specs.steps.Touching.{DrawnTouch, TouchAtPlaces}
use Rattle.sheet_groups.proofs.TouchLemmas.{at_turn}

module _ (drawn : List DrawnConductor) where
  -- what stands at two places touches there, and the other way round
  pub places_touch : (i j : ℕ) (d e : DrawnConductor) → i < length drawn → j < length drawn → DrawnTouch (get_or drawn i d) (get_or drawn j e) → TouchAtPlaces drawn i j
  places_touch i j d e first second touch = record {
    first = first;
    second = second;
    touch = λ x.
        subst (λ (f : DrawnConductor). DrawnTouch f (get_or drawn j x)) (get_or_default drawn i d x first)
        (subst (λ (g : DrawnConductor). DrawnTouch (get_or drawn i d) g) (get_or_default drawn j e x second) touch);
  }

  pub touch_of_places : (i j : ℕ) (d e : DrawnConductor) → TouchAtPlaces drawn i j → DrawnTouch (get_or drawn i d) (get_or drawn j e)
  touch_of_places i j d e at =
      subst (λ (g : DrawnConductor). DrawnTouch (get_or drawn i d) g) (get_or_default drawn j d e at.second) (at.touch d)

  pub none_before : HasPairsBefore drawn 0 []
  none_before = record { sound = λ i j c. none_is_in (i, j) c; full = λ i j lt at. absurd (omega (arith, lt)) }

  pub none_here : (place : ℕ) (pairs : List (ℕ × ℕ)) → HasPairsBefore drawn place pairs → HasPairsOf drawn place 0 pairs
  none_here place pairs before = record { before = before; here = λ j lt at. absurd (omega (arith, lt)) }

  -- one place more that does not touch
  pub passed : (place count : ℕ) (pairs : List (ℕ × ℕ)) → (TouchAtPlaces drawn place count → ⊥) → HasPairsOf drawn place count pairs → HasPairsOf drawn place (count + 1) pairs
  passed place count pairs apart has = record {
    before = has.before;
    here = λ j lt at. elim (earlier_or_here j count lt) [ inl less ↦ has.here j less at | inr now ↦ absurd (apart (subst (TouchAtPlaces drawn place) now at)) ];
  }

  -- one that does
  pub paired : (place count : ℕ) (pairs : List (ℕ × ℕ)) → TouchAtPlaces drawn place count → HasPairsOf drawn place count pairs → HasPairsOf drawn place (count + 1) (pairs ++ (place, count) ∷ [])
  paired place count pairs touch has = record {
    before = record {
      sound = λ i j c. elim (Contains-append_cases pairs ((place, count) ∷ []) (i, j) c) [
        | inl old ↦ has.before.sound i j old
        | inr new ↦ subst (λ (p : ℕ × ℕ). TouchAtPlaces drawn p.0 p.1) (is_only (place, count) (i, j) new) touch
      ];
      full = λ i j lt at. Contains-append_left pairs ((place, count) ∷ []) (i, j) (has.before.full i j lt at);
    };
    here = λ j lt at. elim (earlier_or_here j count lt) [
      | inl less ↦ Contains-append_left pairs ((place, count) ∷ []) (place, j) (has.here j less at)
      | inr now ↦ subst (λ (k : ℕ). Contains (pairs ++ (place, count) ∷ []) (place, k)) (sym now) (Contains-push pairs (place, count))
    ];
  }

  -- all places with the place
  pub all_here : (place count : ℕ) (pairs : List (ℕ × ℕ)) → count ≡ length drawn → HasPairsOf drawn place count pairs → HasPairsBefore drawn (place + 1) pairs
  all_here place count pairs all has = record {
    sound = has.before.sound;
    full = λ i j lt at. elim (earlier_or_here i place lt) [
      | inl less ↦ has.before.full i j less at
      | inr now ↦
          let there = subst (λ (k : ℕ). TouchAtPlaces drawn k j) now at in
          let within = there.second in
          subst (λ (k : ℕ). Contains pairs (k, j)) (sym now) (has.here j (omega (arith, within, all)) there)
    ];
  }

  -- they stand for all that touches
  pub scanned : (count : ℕ) (pairs : List (ℕ × ℕ)) → count ≡ length drawn → HasPairsBefore drawn count pairs → Spans (TouchAtPlaces drawn) (length drawn) pairs
  scanned count pairs all has = record {
    within = All-from_get_or (λ p. (p.0 < length drawn) × (p.1 < length drawn)) pairs (0, 0) (λ k h.
        let p = get_or pairs k (0, 0) in
        let at = has.sound p.0 p.1 (Contains-get_or pairs k (0, 0) h) in
        (at.first, at.second));
    inside = λ i j tied. elim tied [
      | inl c ↦ joined_by (TouchAtPlaces drawn) i j (has.sound i j c)
      | inr c ↦ joined_by (TouchAtPlaces drawn) i j (at_turn drawn j i (has.sound j i c))
    ];
    covers = λ f same i j at. let within = at.first in same i j (inl (has.full i j (omega (arith, within, all)) at));
  }
