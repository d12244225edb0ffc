-- A shape that is cloned field by field is equal to the one that it was cloned from.
use Rattle.std.specs.Prelude.{◌≡◌, Err, IfOk, None, Ok, Result, Some}
use Rattle.std.specs.Result.{MatchResult}
use Rattle.geda_model.specs.declared.shape.Shape.{Shape}
use Rattle.geda_model.specs.declared.shape.Shape.TheVariants.{Straight, Picture, Rect, Circle, Arc, Text, Net, Bus, Pin, Path}
use Rattle.geda_model.specs.contracts.shape.ShapeClone.TheImpl.{by_variants}

pub equal : (x y : Shape) → by_variants x y → y ≡ x
equal (Straight a b c d e f) (Straight a' b' c' d' e' f') (a≡, (b≡, (c≡, (d≡, (e≡, f≡))))) = cc
equal (Rect a b c d e f g) (Rect a' b' c' d' e' f' g') (a≡, (b≡, (c≡, (d≡, (e≡, (f≡, g≡)))))) = cc
equal (Circle a b c d e f) (Circle a' b' c' d' e' f') (a≡, (b≡, (c≡, (d≡, (e≡, f≡))))) = cc
equal (Arc a b c d e f g) (Arc a' b' c' d' e' f' g') (a≡, (b≡, (c≡, (d≡, (e≡, (f≡, g≡)))))) = cc
equal (Net a b c d e) (Net a' b' c' d' e') (a≡, (b≡, (c≡, (d≡, e≡)))) = cc
equal (Bus a b c d e f) (Bus a' b' c' d' e' f') (a≡, (b≡, (c≡, (d≡, (e≡, f≡))))) = cc
equal (Pin a b c d e f g) (Pin a' b' c' d' e' f' g') (a≡, (b≡, (c≡, (d≡, (e≡, (f≡, g≡)))))) = cc
equal (Path a b c d) (Path a' b' c' d') (a≡, (b≡, (c≡, d≡))) = cc
equal (Picture a b c d e f g None)
    (Picture a' b' c' d' e' f' g' None)
    (a≡, (b≡, (c≡, (d≡, (e≡, (f≡, (g≡, h≡))))))) = cc
equal (Picture a b c d e f g (Some h))
    (Picture a' b' c' d' e' f' g' (Some h'))
    (a≡, (b≡, (c≡, (d≡, (e≡, (f≡, (g≡, h≡))))))) = cc
equal (Picture a b c d e f g None)
    (Picture a' b' c' d' e' f' g' (Some h'))
    (a≡, (b≡, (c≡, (d≡, (e≡, (f≡, (g≡, h≡))))))) = absurd h≡
equal (Picture a b c d e f g (Some h))
    (Picture a' b' c' d' e' f' g' None)
    (a≡, (b≡, (c≡, (d≡, (e≡, (f≡, (g≡, h≡))))))) = absurd h≡
equal (Text t) (Text t') is = cc
equal x y h = absurd h

-- so is the one that a clone gives, where it gives one
pub copied : {E : Type 0} (x : Shape) (r : Result Shape E) (P : E → Type 0)
    → MatchResult r (by_variants x) P → IfOk r (λ y. y ≡ x)
copied x (Ok y) P is = equal x y is
copied x (Err e) P is = tt
