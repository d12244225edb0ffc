use Rattle.std.proofs.lemmas.Str.{is_utf8-from_IsUtf8}
use Rattle.attr_table.proofs.CellLemmas.{cell_content}
use Rattle.attr_table.proofs.cells.put_value.Goals as goal

pub put_attr-requires : goal.put_attr-requires
put_attr-requires c = record {
  content = cell_content c.args.name.now c.args.value.now (is_utf8-from_IsUtf8 _ c.utf8.name) (is_utf8-from_IsUtf8 _ c.utf8.value) c.requires.good;
  at = c.requires.at;
  place = c.requires.place;
}
