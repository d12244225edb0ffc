-- A pin end at (300, 100) in its symbol, under a component at (1000, 2000), and points that are
-- turned about another one.
use Rattle.std.proofs.Common.{◌≡◌, ℕ, ℤ, pos, neg_ℤ, Bool, true, false, refl}
use Rattle.geda_geom.specs.declared.conductor.Point.{Point}
use Rattle.geda_geom.specs.Placing.{placed, turned_about}

abbrev at : ℤ → ℤ → Point
at x y = record { x = x; y = y }

abbrev under : ℕ → Bool → Point
under angle mirror =
    placed (at (pos 300) (pos 100))
    (record { x = pos 1000; y = pos 2000; angle = angle; mirror = mirror })

straight : under 0 false ≡ at (pos 1300) (pos 2100)
straight = refl

by_90 : under 90 false ≡ at (pos 900) (pos 2300)
by_90 = refl

by_180 : under 180 false ≡ at (pos 700) (pos 1900)
by_180 = refl

by_270 : under 270 false ≡ at (pos 1100) (pos 1700)
by_270 = refl

straight_mirrored : under 0 true ≡ at (pos 700) (pos 2100)
straight_mirrored = refl

mirrored_by_90 : under 90 true ≡ at (pos 900) (pos 1700)
mirrored_by_90 = refl

mirrored_by_180 : under 180 true ≡ at (pos 1300) (pos 1900)
mirrored_by_180 = refl

mirrored_by_270 : under 270 true ≡ at (pos 1100) (pos 2300)
mirrored_by_270 = refl

about_origin : turned_about (at (pos 100) (pos 0)) (at (pos 0) (pos 0)) 1 true ≡ at (pos 0) (neg_ℤ (pos 100))
about_origin = refl

about_a_point : turned_about (at (pos 300) (pos 100)) (at (pos 100) (pos 100)) 1 false ≡ at (pos 100) (pos 300)
about_a_point = refl

mirrored_about_a_point : turned_about (at (pos 300) (pos 100)) (at (pos 100) (pos 100)) 0 true ≡ at (neg_ℤ (pos 100)) (pos 100)
mirrored_about_a_point = refl
