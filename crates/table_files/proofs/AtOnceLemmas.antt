-- What it comes to that components are put into an opened sheet at once.
use Rattle.std.proofs.Common.{◌≡◌, ◌==◌, ℕ, ◌+◌, ◌<◌, Bool, false, List, [], ◌∷◌, ◌++◌, length, map, cond, None, Result, Ok, codes, filter_map, refl, sym, ap, ap₂, subst, ◌∙◌, arith}
use Rattle.std.specs.FinMap.{entries, get}
use Rattle.std.specs.Result.{result_map_both}
use Rattle.std.proofs.lemmas.Bool.Decides.{nat_tests}
use Rattle.project_model.specs.Changes as changes
use Rattle.project_model.specs.Projects.{ProjectData}
use Rattle.edit_entries.specs.Entries.{EntryData}
use Rattle.edit_rules.specs.EarlyLines.{last_number}
use Rattle.edit_rules.specs.Histories.{project}
use Rattle.attr_table.specs.Filling.{component_item, entries_from}
use Rattle.attr_table.specs.SheetTables.{Numbered}
use Rattle.desk_entries.specs.Putting.{Put, put_all}
use Rattle.desk_entries.proofs.FilledComponents.{AreFilled}
use Rattle.desk_entries.proofs.TableLaws.{are_filled, put_with_room}
use Rattle.renum_files.specs.RenumberedFiles.{File, renumbered_sheet_file}
use Rattle.table_files.specs.FilledFiles.{FilledData, filled_in_history, filled_with}
use Rattle.table_files.specs.OpenedFiles.{put_or_fault}
use Rattle.table_files.specs.declared.fault.TableFileFault.{TableFileFault}
use Rattle.table_files.specs.steps.Objects.{files_of, object_of, with_components}
use Rattle.table_files.specs.steps.Room.{AreOfTable, HaveRoom}
use Rattle.table_files.proofs.FileLemmas.{file_of}
use Rattle.table_files.proofs.ObjectLemmas.{components_put, sheets_kept}
use Rattle.table_files.proofs.RoomLemmas.{next_number, one}

-- an entry for each component
as_many : (session : List ℕ) (number base : ℕ) (cs : List Numbered) → length (entries_from session number base cs) ≡ length cs
as_many session number base [] = refl
as_many session number base (c ∷ cs) = let rest = as_many session (number + 1) base cs in omega (arith, rest)

not_none : (n : ℕ) → 0 < n → (n == 0) ≡ false
not_none n lt = grind (arith, nat_tests, lt)

-- what so many changed components come to, with this project
abbrev answer : List ℕ → ℕ → ProjectData → Result FilledData TableFileFault
answer sheet n q = Ok (record { count = n; files = cond (n == 0) [] (filter_map (renumbered_sheet_file q) (sheet ∷ [])) })

pub at_once : (h : List EntryData) (sheet : List ℕ) (cs : List Numbered) → AreOfTable (project h) sheet cs → HaveRoom h sheet (entries (project h).objects) cs → 0 < length cs
    → filled_in_history h sheet (entries_from (codes "fill") 2 1 cs)
    ≡ Ok (record { count = length cs; files = files_of sheet (get (project h).sheets sheet) (with_components (map object_of (entries (project h).objects)) cs) })
at_once h sheet cs table room some =
    let p : ProjectData = project h in
    let o = one h room.opened in
    let next : last_number h (codes "fill") + 1 ≡ 2 = subst (λ (g : List EntryData). last_number g (codes "fill") + 1 ≡ 2) (sym o.is) (next_number o.entry o.opening) in
    let filled : AreFilled p sheet cs = subst (AreFilled p sheet) table.made (are_filled p sheet table.records table.faultless) in
    let come = put_with_room h sheet (codes "fill") 2 cs room.legal room.range next filled room.room in
    let q : ProjectData = changes.put p (map (component_item sheet) cs) in
    let es : List EntryData = entries_from (codes "fill") 2 1 cs in
    let same : entries_from (codes "fill") 2 (length h) cs ≡ es = ap (λ (base : ℕ). entries_from (codes "fill") 2 base cs) (ap length o.is) in
    let all : put_all h es ≡ (h ++ es, None) = subst (λ (l : List EntryData). put_all h l ≡ (h ++ l, None)) same come.put in
    let meant : project (h ++ es) ≡ q = subst (λ (l : List EntryData). project (h ++ l) ≡ q) same come.made in
    let put_in = components_put p sheet cs room.home room.keys in
    let file : filter_map (renumbered_sheet_file q) (sheet ∷ []) ≡ files_of sheet (get p.sheets sheet) (with_components (map object_of (entries p.objects)) cs) =
    file_of q sheet put_in.home ∙ ap₂ (files_of sheet) (ap (λ sheets. get sheets sheet) (sheets_kept p sheet cs)) (sym put_in.objects) in
    ap (λ (put : Put). result_map_both (filled_with sheet (length es)) (λ (fault : TableFileFault). fault) (put_or_fault sheet put)) all
    ∙ ap₂ (answer sheet) (as_many (codes "fill") 2 1 cs) meant
    ∙ ap (λ (b : Bool). Ok (record { count = length cs; files = cond b [] (filter_map (renumbered_sheet_file q) (sheet ∷ [])) })) (not_none (length cs) some)
    ∙ ap (λ (files : List File). Ok (record { count = length cs; files = files })) file
