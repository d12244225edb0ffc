-- The two halves of a part that comes.
use Rattle.std.specs.Prelude.{ℕ, pos, true, false, ◌++◌, None, codes}
use Rattle.std.specs.Fmt.{decimal}
use Rattle.geda_model.specs.Data.{TextData}
use Rattle.geda_model.specs.Shapes.{ComponentData}
use Rattle.gaf_work.specs.Opening.{symbol_name}
use Rattle.gaf_work.specs.DrawnSteps.{across, up}

-- its refdes
abbrev pub refdes_text : ℕ → ℕ → TextData
refdes_text q id = record {
  x = pos (across q);
  y = pos (up q);
  color = pos 5;
  size = pos 10;
  visible = 1;
  show = 1;
  angle = 0;
  align = 0;
  content = codes "refdes=W" ++ decimal id;
}

-- its placed symbol
abbrev pub component : ℕ → ComponentData
component q = record {
  x = pos (across q);
  y = pos (up q);
  selectable = true;
  angle = 0;
  mirror = false;
  basename = symbol_name;
  embedded = None;
}
