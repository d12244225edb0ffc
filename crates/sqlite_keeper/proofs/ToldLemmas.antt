-- What is told of rows, from what the table holds.
use Rattle.std.proofs.Common.{◌≡◌, inl, inr, ℕ, ◌+◌, List, [], ◌∷◌, ◌++◌, map, slice_get, Option, Some, None, option_map, refl, sym, ap, subst, ◌∙◌, Result, Ok, Err, IfOk}
use Rattle.std.proofs.lemmas.Option.{slice_get-map}
use Rattle.sqlite.specs.Order.{Row, bytes, column}
use Rattle.sqlite.specs.Effect.{Database}
use Rattle.sqlite.specs.State.{State}
use Rattle.sqlite.specs.Table.{Table}
use Rattle.edit_entries.specs.Entries.{EntryData}
use Rattle.edit_json.specs.Rows.{row_text}
use Rattle.row_table.specs.Tables.{HasRows, Holds, stored_from}
use Rattle.row_texts.specs.RowTexts.{IsRowOf, entry_of}
use Rattle.sqlite_keeper.specs.Told.{IsBlank, IsKept, Tells, bodies_in, rows_of, told_rows}

stored_bodies : (from : ℕ) (bodies : List (List ℕ)) → map (λ r. bytes (column r 2)) (stored_from from bodies) ≡ bodies
stored_bodies from [] = refl
stored_bodies from (b ∷ bodies) = ap (λ bs. b ∷ bs) (stored_bodies (from + 1) bodies)

pub bodies_are : (db : Database) (bodies : List (List ℕ)) → HasRows db bodies → bodies_in db ≡ bodies
bodies_are db bodies (inl none) = ap (λ s. map (λ r. bytes (column r 2)) (rows_of s.tables (db.trees 0))) none.0 ∙ sym none.1
bodies_are db bodies (inr there) =
    ap (λ s. map (λ r. bytes (column r 2)) (rows_of s.tables (db.trees 0))) there.0
    ∙ ap (map (λ r. bytes (column r 2))) there.1 ∙ stored_bodies 0 bodies

tells_of : (s : State) (rows : List EntryData) → Holds s (map row_text rows) → map entry_of (map row_text rows) ≡ rows → Tells s rows
tells_of s rows holds again =
    let are : told_rows s ≡ rows = ap (map entry_of) (bodies_are s.now (map row_text rows) holds.rows) ∙ again in
    record { kept = subst (λ all. Holds s (map row_text all)) (sym are) holds; are = are }

again_of : (s : State) → IsKept s → map entry_of (map row_text (told_rows s)) ≡ told_rows s
again_of s kept = ap (map entry_of) (sym (bodies_are s.now (map row_text (told_rows s)) kept.rows))

pub kept_same : (old new : State) → IsKept old → Holds new (map row_text (told_rows old)) → Tells new (told_rows old)
kept_same old new kept holds = tells_of new (told_rows old) holds (again_of old kept)

map_more : {A B : Type 0} (f : A → B) (xs : List A) (x : A) → map f (xs ++ x ∷ []) ≡ map f xs ++ f x ∷ []
map_more f [] x = refl
map_more f (y ∷ xs) x = ap (λ ys. f y ∷ ys) (map_more f xs x)

pub kept_more : (old new : State) (body : List ℕ) (entry : EntryData) → IsKept old → IsRowOf body entry → Holds new (map row_text (told_rows old) ++ body ∷ []) → Tells new (told_rows old ++ entry ∷ [])
kept_more old new body entry kept row holds =
    let rows = told_rows old in
    let texts : map row_text (rows ++ entry ∷ []) ≡ map row_text rows ++ body ∷ [] = map_more row_text rows entry ∙ ap (λ b. map row_text rows ++ b ∷ []) (sym row.text) in
    let again : map entry_of (map row_text (rows ++ entry ∷ [])) ≡ rows ++ entry ∷ [] =
    ap (map entry_of) texts ∙ map_more entry_of (map row_text rows) body ∙ ap (λ all. all ++ entry_of body ∷ []) (again_of old kept) ∙ ap (λ e. rows ++ e ∷ []) row.again in
    tells_of new (rows ++ entry ∷ []) (subst (Holds new) (sym texts) holds) again

-- the row of a serial is the entry of the body of that serial
pub loaded : (s : State) (serial : ℕ) (body : Option (List ℕ)) → IsKept s → body ≡ slice_get (map row_text (told_rows s)) serial → option_map entry_of body ≡ slice_get (told_rows s) serial
loaded s serial body kept is =
    ap (option_map entry_of) is ∙ sym (slice_get-map entry_of (map row_text (told_rows s)) serial) ∙ ap (λ all. slice_get all serial) (again_of s kept)

pub blank_tells : (s : State) → IsBlank s → Tells s []
blank_tells s blank = tells_of s [] blank.holds refl

pub row_is : {X E : Type 0} (r : Result (Option EntryData) E) (found : Option X) (bytes : X → List ℕ) (row : Option EntryData) → option_map entry_of (option_map bytes found) ≡ row
    → IfOk r (λ x. x ≡ option_map (λ b. entry_of (bytes b)) found) → IfOk r (λ x. x ≡ row)
row_is (Ok x) None bytes row is h = h ∙ is
row_is (Ok x) (Some b) bytes row is h = h ∙ is
row_is (Err e) found bytes row is h = tt
