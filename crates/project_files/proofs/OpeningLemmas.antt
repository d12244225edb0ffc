-- A project is opened sheet by sheet, and the ids of its objects are in range.
use Rattle.std.proofs.Common.{◌≡◌, ℕ, ◌+◌, ◌<◌, ◌≤◌, ◌^◌, List, [], ◌∷◌, Some, length, sym, ap, ap₂, ◌∙◌, arith}
use Rattle.std.specs.List.{flat_map}
use Rattle.std.proofs.lemmas.List.{length-append}
use Rattle.std.proofs.lemmas.List.Elements.{All-append, All-cons, All-nil}
use Rattle.geda_model.specs.Sheets.{ObjectData, SheetData, SymbolData}
use Rattle.project_model.specs.declared.change.Thing.TheVariants as things
use Rattle.project_model.specs.declared.change.Value.TheVariants as values
use Rattle.project_model.specs.Items.{Item}
use Rattle.project_model.specs.Projects.{ProjectData, empty_project}
use Rattle.project_model.specs.Changes.{IsIdInRange, ThingsAreInRange, put}
use Rattle.project_model.proofs.ChangeLemmas.{put-append}
use Rattle.project_files.specs.Gathering.{Gathered}
use Rattle.project_files.specs.Opening.{Library, all_objects, found_library, most_project_objects, object_items, gathered_items, sheet_items, sheets_items, symbol_items}

-- the items of an object, a sheet and a symbol
abbrev object_item : List ℕ → ℕ → ObjectData → Item
object_item name id o = (things.Object id, Some (values.Object (record { sheet = name; object = o })))

abbrev head_item : List ℕ → SheetData → Item
head_item name sheet = (things.SheetName name, Some (values.Head sheet.head))

abbrev symbol_item : List ℕ → SymbolData → Item
symbol_item name symbol = (things.SymbolName name, Some (values.Symbol symbol))

objects_in_range : (id : ℕ) (name : List ℕ) (os : List ObjectData) → id + length os < 2 ^ 32 → ThingsAreInRange (object_items name id os)
objects_in_range id name [] few = All-nil _
objects_in_range id name (o ∷ os) few = All-cons (λ (item : Item). IsIdInRange item.0) (object_item name id o) (object_items name (id + 1) os) (omega arith) (objects_in_range (id + 1) name os (omega arith))

sheets_in_range : (id : ℕ) (names : List (List ℕ)) (sheets : List SheetData) → id + length (flat_map (λ (sheet : SheetData). sheet.objects) sheets) < 2 ^ 32 → ThingsAreInRange (sheets_items id names sheets)
sheets_in_range id [] sheets few = All-nil _
sheets_in_range id (name ∷ names) [] few = All-nil _
sheets_in_range id (name ∷ names) (sheet ∷ sheets) few =
    let both = length-append sheet.objects (flat_map (λ (sheet : SheetData). sheet.objects) sheets) in
    let first : ThingsAreInRange (sheet_items name id sheet) = All-cons (λ (item : Item). IsIdInRange item.0) (head_item name sheet) (object_items name id sheet.objects) tt (objects_in_range id name sheet.objects (omega (arith, both))) in
    All-append (λ (item : Item). IsIdInRange item.0) (sheet_items name id sheet) (sheets_items (id + length sheet.objects) names sheets) first (sheets_in_range (id + length sheet.objects) names sheets (omega (arith, both)))

symbols_in_range : (library : Library) → ThingsAreInRange (symbol_items library)
symbols_in_range [] = All-nil _
symbols_in_range (symbol ∷ library) = All-cons (λ (item : Item). IsIdInRange item.0) (symbol_item symbol.0 symbol.1) (symbol_items library) tt (symbols_in_range library)

-- so are those of the whole change that opens it
pub opening_in_range : (g : Gathered) → length (all_objects g) ≤ most_project_objects → ThingsAreInRange (gathered_items g)
opening_in_range g few =
    All-append (λ (item : Item). IsIdInRange item.0) (sheets_items 0 g.queue g.sheets) (symbol_items (found_library g))
    (sheets_in_range 0 g.queue g.sheets (omega (arith, few))) (symbols_in_range (found_library g))

-- one more sheet is put in, before those that are left
pub next_sheet : (p now : ProjectData) (id next : ℕ) (name : List ℕ) (names : List (List ℕ)) (sheet : SheetData) (sheets : List SheetData) → now ≡ put p (sheet_items name id sheet) → next ≡ id + length sheet.objects → put now (sheets_items next names sheets) ≡ put p (sheets_items id (name ∷ names) (sheet ∷ sheets))
next_sheet p now id next name names sheet sheets is at =
    ap₂ (λ (q : ProjectData) (n : ℕ). put q (sheets_items n names sheets)) is at
    ∙ sym (put-append p (sheet_items name id sheet) (sheets_items (id + length sheet.objects) names sheets))

-- the sheets and then the symbols are put in
pub opened_whole : (g : Gathered) (start sheets all : ProjectData) → start ≡ empty_project → sheets ≡ put start (sheets_items 0 g.queue g.sheets) → all ≡ put sheets (symbol_items (found_library g)) → all ≡ put empty_project (gathered_items g)
opened_whole g start sheets all empty first last =
    last ∙ ap (λ (p : ProjectData). put p (symbol_items (found_library g))) (first ∙ ap (λ (p : ProjectData). put p (sheets_items 0 g.queue g.sheets)) empty)
    ∙ sym (put-append empty_project (sheets_items 0 g.queue g.sheets) (symbol_items (found_library g)))
