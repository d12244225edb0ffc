-- What may come behind what is there of a file is what the machine takes there.
use Rattle.std.proofs.Common.{◌≡◌, ℕ, false, [], Option, refl, sym, ◌∙◌}
use Rattle.std.specs.Prelude.{is_some}
use Rattle.geda_model.specs.Limits.{most_objects}
use Rattle.geda_model.specs.Shapes.{PartData}
use Rattle.geda_model.specs.Sheets.{ObjectData}
use Rattle.geda_model.specs.declared.shape.Shape.{Shape}
use Rattle.geda_model.specs.declared.object.Body.{Body}
use Rattle.geda_model.specs.declared.object.Body.TheVariants as bodies
use Rattle.geda_grammar.specs.declared.mode.Mode.TheVariants.{Settled}
use Rattle.geda_grammar.specs.declared.place.Place.{Place}
use Rattle.geda_grammar.specs.declared.place.Place.TheVariants.{Objects, Waiting, Inside}
use Rattle.geda_grammar.specs.declared.row.Row.TheVariants.{Drawn, OpenBlock, CloseBlock, OpenSymbol, CloseSymbol}
use Rattle.geda_grammar.specs.steps.Following.{Pending}
use Rattle.geda_grammar.specs.steps.Levels.{Level, closed, open_block, close_block, put}
use Rattle.geda_grammar.specs.steps.Sheets.{make_part, make_object, at_level, in_symbol, with_symbol, sheet_step}
use Rattle.geda_grammar.specs.steps.Files.{RowMachine, so_far, object_end, symbol_rows, object_rows, sheet_has_no_room}
use Rattle.geda_read.specs.declared.kinds.Expected.{Expected}
use Rattle.geda_read.specs.declared.rows.OpenRows.TheVariants as rows
use Rattle.geda_read.specs.declared.rows.FileMode.TheVariants as files
use Rattle.geda_read.specs.steps.Expecting.{expects_symbol, has_room, level_expects, or_close, place_expects, rows_expect}
use Rattle.geda_read.specs.steps.Files.{admits_by}
use Rattle.geda_read.proofs.Levels as levels
use Rattle.geda_read.proofs.Levels.{some_map}

-- what may come is what a machine takes
pub record Expects {S W : Type 0} (m : RowMachine S W) (s : S) (e : Expected) : Type 0 where
  pub full : m.has_no_room s ≡ e.full
  pub shape : (p : Pending) → is_some (m.step s (Drawn (so_far p))) ≡ admits_by e p
  pub open_block : is_some (m.step s OpenBlock) ≡ e.open_block
  pub close_block : is_some (m.step s CloseBlock) ≡ e.close_block
  pub open_symbol : is_some (m.step s OpenSymbol) ≡ e.open_symbol
  pub close_symbol : is_some (m.step s CloseSymbol) ≡ e.close_symbol

no_shape : (e : Expected) → e.text ≡ false → e.shape ≡ false → (p : Pending) → false ≡ admits_by e p
unfolding admits_by
no_shape e t s p = sym (rw (t, s) (levels.both _ false))

closing : (e : Expected) (p : Pending) → admits_by e p ≡ admits_by (or_close e) p
unfolding admits_by
closing e p = refl

-- on a sheet
pub place_takes : {W : Type 0} (most : ℕ) (finish : Place → Option W) (s : Place) → Expects (record { start = Objects [] Settled; step = sheet_step most; finish = finish; has_no_room = sheet_has_no_room most; is_symbol = false }) s (place_expects most s)
place_takes most finish (Objects kept mode) = record {
  full = levels.full_by ObjectData Body make_object bodies.Shape most kept mode;
  shape = λ p. some_map at_level (put make_object bodies.Shape most (so_far p) kept mode) ∙ levels.put_by ObjectData Body make_object bodies.Shape most kept mode p;
  open_block = some_map at_level (open_block kept mode) ∙ levels.open_by ObjectData Body make_object bodies.Shape most kept mode;
  close_block = some_map at_level (close_block make_object kept mode) ∙ levels.close_by ObjectData Body make_object bodies.Shape most kept mode;
  open_symbol = levels.no_symbol mode (has_room most kept mode);
  close_symbol = levels.no_end mode (has_room most kept mode);
}
place_takes most finish (Waiting os line) = record {
  full = refl;
  shape = no_shape expects_symbol refl refl;
  open_block = refl;
  close_block = refl;
  open_symbol = refl;
  close_symbol = refl;
}
place_takes most finish (Inside os line kept mode) = record {
  full = levels.full_by PartData Shape make_part (λ s. s) most_objects kept mode;
  shape = λ p. some_map (in_symbol os line) (put make_part (λ s. s) most_objects (so_far p) kept mode) ∙ levels.put_by PartData Shape make_part (λ s. s) most_objects kept mode p ∙ closing (level_expects mode (has_room most_objects kept mode)) p;
  open_block = some_map (in_symbol os line) (open_block kept mode) ∙ levels.open_by PartData Shape make_part (λ s. s) most_objects kept mode;
  close_block = some_map (in_symbol os line) (close_block make_part kept mode) ∙ levels.close_by PartData Shape make_part (λ s. s) most_objects kept mode;
  open_symbol = levels.no_symbol mode (has_room most_objects kept mode);
  close_symbol = some_map (with_symbol os line) (closed make_part kept mode) ∙ levels.closed_by PartData Shape make_part (λ s. s) most_objects kept mode;
}

-- in a symbol file
pub parts_take : (s : Level PartData Shape) → Expects symbol_rows s (level_expects s.mode (has_room most_objects s.kept s.mode))
parts_take s = record {
  full = levels.full_by PartData Shape make_part (λ s. s) most_objects s.kept s.mode;
  shape = levels.put_by PartData Shape make_part (λ s. s) most_objects s.kept s.mode;
  open_block = levels.open_by PartData Shape make_part (λ s. s) most_objects s.kept s.mode;
  close_block = levels.close_by PartData Shape make_part (λ s. s) most_objects s.kept s.mode;
  open_symbol = levels.no_symbol s.mode (has_room most_objects s.kept s.mode);
  close_symbol = levels.no_end s.mode (has_room most_objects s.kept s.mode);
}

-- of one object
pub object_takes : (s : Place) → Expects object_rows s (rows_expect files.Object (rows.Sheet s))
unfolding rows_expect
object_takes s = place_takes 1 object_end s
