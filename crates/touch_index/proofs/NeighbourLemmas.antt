-- Neighbours by two look-ups that answer alike.
use Rattle.std.proofs.Common.{◌≡◌, ◌↔◌, List, Option, Contains, sym, subst}
use Rattle.geda_geom.specs.declared.conductor.Key.{Key}
use Rattle.geda_geom.specs.declared.conductor.Conductor.{Conductor}
use Rattle.touch_index.specs.Index.{DoTouch, IsNeighbour}

-- neighbours by one look-up are neighbours by another that answers alike
turn : (f g : Key → Option Conductor) → ((q : Key) → f q ≡ g q) → (key q : Key) → IsNeighbour f key q → IsNeighbour g key q
turn f g same key q n = record { apart = n.apart; touch = subst (λ o. DoTouch o (g q)) (same key) (subst (λ o. DoTouch (f key) o) (same q) n.touch) }

pub neighbours_alike : (f g : Key → Option Conductor) → ((q : Key) → f q ≡ g q) → (key : Key) (keys : List Key)
    → ((q : Key) → Contains keys q ↔ IsNeighbour f key q) → (q : Key) → Contains keys q ↔ IsNeighbour g key q
neighbours_alike f g same key keys h q = ((λ c. turn f g same key q ((h q).0 c)), (λ n. (h q).1 (turn g f (λ x. sym (same x)) key q n)))
