-- Cases of the work.
use Rattle.std.specs.Prelude.{◌≡◌, refl, pos, [], None}
use Rattle.geda_model.specs.declared.object.Body.TheVariants as bodies
use Rattle.geda_model.specs.declared.shape.Shape.TheVariants as shapes
use Rattle.gaf_work.specs.Draws.{drawn, first_state}
use Rattle.gaf_work.specs.DrawnSteps.{id_at, wire}

-- four draws from 1
draw_1 : drawn (first_state 1) ≡ 48271
draw_1 = refl

draw_2 : drawn 48271 ≡ 182605794
draw_2 = refl

draw_3 : drawn 182605794 ≡ 1291394886
draw_3 = refl

draw_4 : drawn 1291394886 ≡ 1914720637
draw_4 = refl

-- the start 2,147,483,647 is as 1
start_again : first_state 2147483647 ≡ 1
start_again = refl

-- where nothing is live, nothing is taken away
nothing_is_live : id_at [] 6033 ≡ None
nothing_is_live = refl

-- a wire from (2400, 5700) to the right, by 200
a_wire : (wire 22825724).body ≡ bodies.Shape (shapes.Net (pos 2400) (pos 5700) (pos 2600) (pos 5700) (pos 4))
a_wire = refl
