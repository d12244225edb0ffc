-- The project that the work begins with: a symbol of two pins, and an empty sheet (own).
use Rattle.std.specs.Prelude.{ℕ, pos, false, List, [], ◌∷◌, Some, codes}
use Rattle.project_model.specs.declared.change.Thing.TheVariants as things
use Rattle.project_model.specs.declared.change.Value.TheVariants as values
use Rattle.geda_model.specs.declared.shape.Shape.TheVariants as shapes
use Rattle.geda_model.specs.Data.{TextData}
use Rattle.project_model.specs.Items.{Item}
use Rattle.geda_model.specs.Shapes.{PartData}
use Rattle.geda_model.specs.Sheets.{HeadData, SymbolData}

-- the names of the two
abbrev pub symbol_name : List ℕ
symbol_name = codes "two.sym"

abbrev pub sheet_name : List ℕ
sheet_name = codes "work.sch"

-- the version line of both: `v 20130925 2`
abbrev pub head : HeadData
head = record { date = 20130925; format = 2 }

-- a text that is not shown, at (x, 50): `T x 50 5 8 0 1 0 0 1`
abbrev pub hidden_text : ℕ → List ℕ → TextData
hidden_text x content = record {
  x = pos x;
  y = pos 50;
  color = pos 5;
  size = pos 8;
  visible = 0;
  show = 1;
  angle = 0;
  align = 0;
  content = content;
}

-- a net pin along the x axis, whose first end joins, with its texts at (x, 50)
abbrev pub pin_part : ℕ → ℕ → List (List ℕ) → PartData
pin_part x inner texts = record {
  shape = shapes.Pin (pos x) (pos 0) (pos inner) (pos 0) (pos 1) false 0;
  attrs = of_texts texts;
}
  where
    of_texts : List (List ℕ) → List TextData
    of_texts [] = []
    of_texts (text ∷ texts) = hidden_text x text ∷ of_texts texts

-- the text that names the device: `T 0 200 8 10 0 0 0 0 1`
abbrev pub device_part : PartData
device_part = record {
  shape = shapes.Text (record {
    x = pos 0;
    y = pos 200;
    color = pos 8;
    size = pos 10;
    visible = 0;
    show = 0;
    angle = 0;
    align = 0;
    content = codes "device=TWO";
  });
  attrs = [];
}

-- two pins 300 mils apart, numbered 1 and 2
abbrev pub two_pins : SymbolData
two_pins = record {
  head = head;
  parts =
      pin_part 0 100 (codes "pinnumber=1" ∷ codes "pinseq=1" ∷ codes "pintype=pas" ∷ [])
      ∷ pin_part 300 200 (codes "pinnumber=2" ∷ codes "pinseq=2" ∷ codes "pintype=pas" ∷ [])
      ∷ device_part ∷ [];
}

-- the change that opens the project of the work
abbrev pub opening : List Item
opening =
    (things.SymbolName symbol_name, Some (values.Symbol two_pins))
    ∷ (things.SheetName sheet_name, Some (values.Head head)) ∷ []
