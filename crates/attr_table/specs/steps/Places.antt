-- Steps of the code; no public clause cites them.
-- Where the first text of each name stands, as a map, and texts among which cells are set.
use Rattle.std.specs.Prelude.{◌≡◌, ℕ, List, Option, None, Some, option_map}
use Rattle.std.specs.Borrow.{Bor}
use Rattle.std.specs.BTreeMap.{BTreeMap, get_by}
use Rattle.std.specs.Cmp.Lexicographic.{slice_cmp}
use Rattle.std.specs.Ordering.{nat_cmp}
use Rattle.std.specs.List.{fold}
use Rattle.geda_geom.specs.declared.conductor.Point.{Point}
use Rattle.geda_model.specs.Data.{TextData}
use Rattle.attr_rules.specs.Splits.{split_of}
use Rattle.edit_attr.specs.Attributes.{attr_line, attr_place, set_text}
use Rattle.attr_table.specs.Cells.{Cell}

-- places by name
abbrev pub Firsts : Type 0
Firsts = BTreeMap (Bor (List ℕ)) ℕ

-- the place of a name, if there is one
abbrev pub firsts_at : Firsts → List ℕ → Option ℕ
firsts_at firsts q = get_by (λ k. slice_cmp nat_cmp q k.now) firsts

-- they are those of the first texts of each name
abbrev pub ArePlaces : List TextData → Firsts → Type 0
ArePlaces texts firsts = (q : List ℕ) → firsts_at firsts q ≡ attr_place q texts

-- the value of the attribute that a text is, of any name
abbrev pub value_in : Option TextData → Option (List ℕ)
value_in None = None
value_in (Some t) = option_map (λ attribute. attribute.1) (split_of t.content)

-- texts after a cell is set, of an object with this first point
abbrev pub text_set : Point → List TextData → Cell → List TextData
text_set p texts cell = set_text cell.0 (attr_line cell.0 cell.1) p texts

-- so they are after cells are, from left to right
abbrev pub texts_set : Point → List TextData → List Cell → List TextData
texts_set p texts cells = fold (text_set p) texts cells
