-- Whether two edits of one kind are equal, for some kinds of edits.
use Rattle.std.specs.Prelude.{Bool, false, ◌==◌, ◌&&◌}
use Rattle.std.specs.Ordering.{int_eq}
use Rattle.std.specs.Str.{bytes_eq}
use Rattle.edit_entries.specs.declared.edit.Edit.{Edit}
use Rattle.edit_entries.specs.declared.edit.Edit.TheVariants as edits
use Rattle.edit_entries.specs.Equality.{is_same_flag}

-- both move objects, or both turn them, and their fields are equal
abbrev pub is_same_motion : Edit → Edit → Bool
is_same_motion (edits.Move ids dx dy) (edits.Move i x y) =
    bytes_eq ids i && (int_eq dx x && int_eq dy y)
is_same_motion (edits.Turn ids x y quarter mirror) (edits.Turn i across up q m) =
    bytes_eq ids i && (int_eq x across
    && (int_eq y up && ((quarter == q) && is_same_flag mirror m)))
is_same_motion first second = false

-- both set an attribute, or both drop it, and their fields are equal
abbrev pub is_same_attr : Edit → Edit → Bool
is_same_attr (edits.SetAttr id name value) (edits.SetAttr i n v) =
    (id == i) && (bytes_eq name n && bytes_eq value v)
is_same_attr (edits.DropAttr id name) (edits.DropAttr i n) = (id == i) && bytes_eq name n
is_same_attr first second = false
