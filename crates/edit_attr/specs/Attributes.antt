-- Setting and dropping attached attributes (own).
use Rattle.std.specs.Prelude.{ℕ, suc, pos, Bool, not, if◌then◌else◌, List, [], ◌∷◌, ◌++◌, Option, None, Some, option_map, filter, codes, is_some}
use Rattle.std.specs.List.{list_any}
use Rattle.geda_geom.specs.declared.conductor.Point.{Point}
use Rattle.geda_model.specs.Data.{TextData}
use Rattle.geda_model.specs.Sheets.{ObjectData}
use Rattle.attr_rules.specs.Attributes.{value_named}
use Rattle.edit_attr.specs.FirstPoints.{first_point}

-- the line of an attribute
abbrev pub attr_line : List ℕ → List ℕ → List ℕ
attr_line name value = name ++ codes "=" ++ value

-- the text is an attribute of this name
abbrev pub is_attr_named : List ℕ → TextData → Bool
is_attr_named name t = is_some (value_named name t)

-- the text, whose content becomes this one
abbrev pub with_content : List ℕ → TextData → TextData
with_content content t = record {
  x = t.x;
  y = t.y;
  color = t.color;
  size = t.size;
  visible = t.visible;
  show = t.show;
  angle = t.angle;
  align = t.align;
  content = content;
}

-- a new label at a point: colour 5, size 10, hidden
abbrev pub new_label : List ℕ → Point → TextData
new_label content p = record {
  x = p.x;
  y = p.y;
  color = pos 5;
  size = pos 10;
  visible = 0;
  show = 1;
  angle = 0;
  align = 0;
  content = content;
}

-- the first text of the name gets the content; where there is none, a new label comes last
abbrev pub set_text : List ℕ → List ℕ → Point → List TextData → List TextData
set_text name content p [] = new_label content p ∷ []
set_text name content p (t ∷ ts) =
    if is_attr_named name t then with_content content t ∷ ts else t ∷ set_text name content p ts

-- where the first text of the name stands, from 0
abbrev pub attr_place : List ℕ → List TextData → Option ℕ
attr_place name [] = None
attr_place name (t ∷ ts) =
    if is_attr_named name t then Some 0 else option_map suc (attr_place name ts)

-- an object after it gets an attribute, or another value of it
unfoldable pub with_attr : List ℕ → List ℕ → ObjectData → ObjectData
with_attr name value o = record {
  body = o.body;
  attrs = set_text name (attr_line name value) (first_point o.body) o.attrs;
}

-- an object after it loses all attached attributes of a name
unfoldable pub without_attr : List ℕ → ObjectData → ObjectData
without_attr name o =
    record { body = o.body; attrs = filter (λ t. not (is_attr_named name t)) o.attrs }

-- the object has an attached attribute of the name
abbrev pub has_attr : List ℕ → ObjectData → Bool
has_attr name o = list_any (is_attr_named name) o.attrs
