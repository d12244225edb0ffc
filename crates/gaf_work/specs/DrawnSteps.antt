-- What a step of the work does, by the number that is drawn for it (own).
use Rattle.std.specs.Prelude.{ℕ, pos, ◌<◌, ◌^◌, IsSome, ◌+◌, ◌*◌, ◌/◌, ◌%◌, ◌==◌, nat_lt, if◌then◌else◌, Bool, true, false, List, [], ◌∷◌, ◌++◌, Option, Some, None, length, option_map, codes}
use Rattle.std.specs.FinMap.{get, keys}
use Rattle.std.specs.Fmt.{decimal}
use Rattle.std.specs.List.{slice_get}
use Rattle.project_model.specs.declared.change.Thing.TheVariants as things
use Rattle.project_model.specs.declared.change.Value.TheVariants as values
use Rattle.geda_model.specs.declared.object.Body.TheVariants as bodies
use Rattle.geda_model.specs.declared.shape.Shape.TheVariants as shapes
use Rattle.project_model.specs.Items.{Item}
use Rattle.project_model.specs.Projects.{ProjectData}
use Rattle.geda_model.specs.Sheets.{ObjectData}
use Rattle.gaf_work.specs.Opening.{sheet_name, symbol_name}

-- where a step draws, by a number: a point of a grid of 100 by 100 points, 100 mils apart
abbrev pub across : ℕ → ℕ
across q = 100 * (q % 100)

abbrev pub up : ℕ → ℕ
up q = 100 * (q / 100 % 100)

-- how long its wire is: 100 to 500 mils
abbrev pub extent : ℕ → ℕ
extent q = 100 * (1 + q / 10000 / 2 % 5)

-- the wire from that point, to the right by an even number and upwards by an odd one
abbrev pub wire : ℕ → ObjectData
wire q = record {
  body = bodies.Shape (shapes.Net (pos (across q)) (pos (up q)) (pos right) (pos top) (pos 4));
  attrs = [];
}
  where
    goes_right : Bool
    goes_right = q / 10000 % 2 == 0

    right : ℕ
    right = if goes_right then across q + extent q else across q

    top : ℕ
    top = if goes_right then up q else up q + extent q

-- the part at that point, whose refdes is `W` and its id
abbrev pub part : ℕ → ℕ → ObjectData
part q id = record {
  body = bodies.Component (record {
    x = pos (across q);
    y = pos (up q);
    selectable = true;
    angle = 0;
    mirror = false;
    basename = symbol_name;
    embedded = None;
  });
  attrs = record {
    x = pos (across q);
    y = pos (up q);
    color = pos 5;
    size = pos 10;
    visible = 1;
    show = 1;
    angle = 0;
    align = 0;
    content = codes "refdes=W" ++ decimal id;
  } ∷ [];
}

-- each id that an object has is below the next one: what changes make of the empty project has it
abbrev pub IdsAreBelow : ProjectData → Type 0
IdsAreBelow p = (id : ℕ) → IsSome (get p.objects id) → id < p.next_id

-- so it is, and there is room for one more id
pub record HasRoom (p : ProjectData) : Type 0 where
  pub below : IdsAreBelow p
  pub room : p.next_id + 1 < 2 ^ 32

-- the object comes onto the sheet, under the next id
abbrev pub coming : ProjectData → ObjectData → List Item
coming p object =
    (things.Object p.next_id, Some (values.Object (record { sheet = sheet_name; object = object })))
    ∷ []

-- the object leaves
abbrev pub leaving : ℕ → List Item
leaving id = (things.Object id, None) ∷ []

-- the id at a place in order, counted round as often as need be; none where there is no id
abbrev pub id_at : List ℕ → ℕ → Option ℕ
id_at ids q = slice_get ids (q % length ids)

-- the change of a step by a drawn number: of eight numbers five bring a wire, one a part, and two
-- take an object away, if there is one
abbrev pub step : ProjectData → ℕ → Option (List Item)
step p r =
    if nat_lt (r % 8) 5 then Some (coming p (wire (r / 8)))
    else if r % 8 == 5 then Some (coming p (part (r / 8) p.next_id))
    else option_map leaving (id_at (keys p.objects) (r / 8))
