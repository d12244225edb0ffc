-- What is told of the rows of a cluster.
use Rattle.std.proofs.Common.{◌≡◌, ◌∙◌, ◌++◌, ◌∷◌, [], ℕ, List, Option, None, Some, map, option_map, refl, sym, ap, take, slice_get, IfSome, Result, Ok, Err, IfOk}
use Rattle.std.proofs.lemmas.List.{map-append}
use Rattle.std.proofs.lemmas.Option.{slice_get-map}
use Rattle.edit_entries.specs.Entries.{EntryData}
use Rattle.engine_core.specs.Calls.{OfTold}
use Rattle.engine_core.specs.Worlds.{World}
use Rattle.engine_core.specs.declared.engine.EngineFault.{EngineFault}
use Rattle.engine_board.specs.Holds.{AddsRow, KeepsRows, ShowsRow}
use Rattle.engine_board.specs.declared.hold.Hold.{Hold}
use Rattle.row_texts.specs.RowTexts.{IsRowOf, entry_of}
use Rattle.engine_keeper.specs.Vouched.{first_entries, vouched_rows}

pub adds_rows : (old new : Hold) (body : List ℕ) (entry : EntryData) (a b : Option World) → IsRowOf body entry → OfTold (λ w v. AddsRow old new body w v) a b
    → vouched_rows new.count b ≡ option_map (λ all. all ++ entry ∷ []) (vouched_rows old.count a)
adds_rows old new body entry None None row told = refl
adds_rows old new body entry None (Some v) row told = absurd told
adds_rows old new body entry (Some w) None row told = absurd told
adds_rows old new body entry (Some w) (Some v) row told =
    ap (λ rs. Some (map entry_of rs)) told.more ∙ ap Some (map-append entry_of (take old.count w.rows) (body ∷ [])) ∙ ap (λ e. Some (first_entries old.count w ++ e ∷ [])) row.again

pub keeps_rows : (old new : Hold) (a b : Option World) → OfTold (λ w v. KeepsRows old new w v) a b → vouched_rows new.count b ≡ vouched_rows old.count a
keeps_rows old new None None told = refl
keeps_rows old new None (Some v) told = absurd told
keeps_rows old new (Some w) None told = absurd told
keeps_rows old new (Some w) (Some v) told = ap (λ n. Some (first_entries n v)) told.count ∙ ap (λ rs. Some (map entry_of rs)) told.same

pub shows_row : (hold : Hold) (serial : ℕ) (found : Option (List ℕ)) (a b : Option World) → OfTold (ShowsRow hold serial (Ok found)) a b
    → IfSome (vouched_rows hold.count a) (λ all. option_map entry_of found ≡ slice_get all serial)
shows_row hold serial found None b told = tt
shows_row hold serial found (Some w) None told = absurd told
shows_row hold serial found (Some w) (Some v) told = ap (option_map entry_of) told.row ∙ sym (slice_get-map entry_of (take hold.count w.rows) serial)

pub shows_keeps : (hold : Hold) (serial : ℕ) (r : Result (Option (List ℕ)) EngineFault) (a b : Option World) → OfTold (ShowsRow hold serial r) a b → OfTold (λ w v. KeepsRows hold hold w v) a b
shows_keeps hold serial r None None told = tt
shows_keeps hold serial r None (Some v) told = told
shows_keeps hold serial r (Some w) None told = told
shows_keeps hold serial r (Some w) (Some v) told = told.keeps

if_row : (all : Option (List EntryData)) (serial : ℕ) (x y : Option EntryData) → x ≡ y → IfSome all (λ rows. y ≡ slice_get rows serial) → IfSome all (λ rows. x ≡ slice_get rows serial)
if_row None serial x y is h = tt
if_row (Some rows) serial x y is h = is ∙ h

pub row_answer : {E : Type 0} (hold : Hold) (serial : ℕ) (found : Option (List ℕ)) (r : Result (Option EntryData) E) (a b : Option World) → OfTold (ShowsRow hold serial (Ok found)) a b → IfOk r (λ row. row ≡ option_map entry_of found)
    → IfOk r (λ row. IfSome (vouched_rows hold.count a) (λ all. row ≡ slice_get all serial))
row_answer hold serial found (Ok row) a b told is = if_row (vouched_rows hold.count a) serial row (option_map entry_of found) is (shows_row hold serial found a b told)
row_answer hold serial found (Err e) a b told is = tt
