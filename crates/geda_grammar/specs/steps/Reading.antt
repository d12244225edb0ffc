-- Steps of the code; no public clause cites them.
-- A file that is being read, line by line (own): rows are read as they come, and a shape that has
-- lines to follow is put where it belongs with its last line.
use Rattle.std.specs.Prelude.{ℕ, Bool, if◌then◌else◌, List, Option, Some, None}
use Rattle.std.specs.Option.{option_map}
use Rattle.geda_model.specs.declared.shape.Shape.{Shape}
use Rattle.geda_grammar.specs.declared.row.Row.{Row}
use Rattle.geda_grammar.specs.declared.row.Row.TheVariants.{Drawn}

-- a shape with the lines that are still to come, or the whole shape
pub data Progress (P : Type 0) : Type 0 where
  Still : P → Progress P
  Whole : Shape → Progress P

-- what a line says by itself: no field, a whole row, a shape of which lines follow, or nothing
pub data SheetLine (P : Type 0) : Type 0 where
  Blank : SheetLine P
  Complete : Row → SheetLine P
  Begins : P → SheetLine P
  Faulty : SheetLine P

-- between rows, or amid a shape
pub data ReaderState (S P : Type 0) : Type 0 where
  Ready : S → ReaderState S P
  Amid : S → P → ReaderState S P

-- one row more
abbrev pub take_row : {S P : Type 0} → (S → Row → Option S) → S → Row → Option (ReaderState S P)
take_row row_step s row = option_map Ready (row_step s row)

-- a shape begins where one of its letter may stand
abbrev pub begin : {S P : Type 0} → (S → P → Bool) → S → P → Option (ReaderState S P)
begin admits s p = if admits s p then Some (Amid s p) else None

-- what a line says, between rows
abbrev pub take_line : {S P : Type 0} → (S → Row → Option S) → (S → P → Bool) → S → SheetLine P →
    Option (ReaderState S P)
take_line row_step admits s Blank = Some (Ready s)
take_line row_step admits s (Complete row) = take_row row_step s row
take_line row_step admits s (Begins p) = begin admits s p
take_line row_step admits s Faulty = None

-- a following line
abbrev pub take_progress : {S P : Type 0} → (S → Row → Option S) → S → Option (Progress P) →
    Option (ReaderState S P)
take_progress row_step s None = None
take_progress row_step s (Some (Still p)) = Some (Amid s p)
take_progress row_step s (Some (Whole shape)) = take_row row_step s (Drawn shape)

-- one line more
abbrev pub reader_step : {S P : Type 0} → (List ℕ → SheetLine P) →
    (P → List ℕ → Option (Progress P)) → (S → Row → Option S) → (S → P → Bool) → ReaderState S P →
    List ℕ → Option (ReaderState S P)
reader_step sheet_line more row_step admits (Ready s) line =
    take_line row_step admits s (sheet_line line)
reader_step sheet_line more row_step admits (Amid s p) line = take_progress row_step s (more p line)

-- what is there when no line is left
abbrev pub reader_end : {S P V : Type 0} → (S → Option V) → ReaderState S P → Option V
reader_end finish (Ready s) = finish s
reader_end finish (Amid s p) = None
