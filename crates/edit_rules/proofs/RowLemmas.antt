-- SheetCounts of sheets, as a change goes in.
use Rattle.std.proofs.Common.{◌≡◌, ◌||◌, ℕ, suc, ◌+◌, ◌≤◌, ◌<◌, Bool, true, false, List, [], ◌∷◌, All, Option, Some, None, IsSome, is_some, cond, refl, sym, ap, ◌∙◌, arith}
use Rattle.std.specs.FinMap.{get, insert, get-empty}
use Rattle.std.specs.Str.{bytes_eq}
use Rattle.std.proofs.lemmas.List.Elements.{All-weaker}
use Rattle.project_model.specs.declared.change.Thing.{Thing}
use Rattle.project_model.specs.declared.change.Thing.TheVariants as things
use Rattle.project_model.specs.declared.change.Value.{Value}
use Rattle.project_model.specs.declared.change.Value.TheVariants as contents
use Rattle.project_model.specs.Items.{Item}
use Rattle.project_model.specs.Projects.{ProjectData}
use Rattle.project_model.specs.Changes.{as_head, put, put_one}
use Rattle.project_model.proofs.Rows.{names, key_same}
use Rattle.edit_rules.specs.EarlyLines.{has_sheet}
use Rattle.edit_rules.specs.Fitting.{IsPlacedIn}
use Rattle.edit_rules.specs.Histories.{changes_thing, is_same_thing}
use Rattle.edit_rules.proofs.FitLemmas.{set_head}
use Rattle.edit_rules.specs.HomeRows.{HasHome, SheetCounts, home_count, with_sheet_row}
use Rattle.edit_rules.proofs.Noting.{get_named}

pub or_none : (b : Bool) → b ≡ (b || false)
or_none true = refl
or_none false = refl

pub or_assoc : (a b c : Bool) → ((a || b) || c) ≡ (a || (b || c))
or_assoc true b c = refl
or_assoc false b c = refl

-- a row with a number
pub there : (o : Option ℕ) → 0 < home_count o → IsSome o
there None lt = absurd (omega (arith, lt))
there (Some n) lt = refl

pub no_row : (o : Option ℕ) → None ≡ o → IsSome o → {P : Type 0} → P
no_row None e some = absurd (cc some)
no_row (Some n) e some = absurd (cc e)

kept_by : (rows : SheetCounts) (name n : List ℕ) (k : ℕ) (b : Bool) → bytes_eq n name ≡ b → IsSome (get rows name)
    → is_some (cond b (Some k) (get rows n)) ≡ is_some (get rows n)
kept_by rows name n k true e some = sym (ap (λ (m : List ℕ). is_some (get rows m)) (key_same names n name e) ∙ some)
kept_by rows name n k false e some = refl

-- a number that changes in place leaves the rows
pub kept_rows : (rows : SheetCounts) (name n : List ℕ) (k : ℕ) → IsSome (get rows name) → is_some (get (insert rows name k) n) ≡ is_some (get rows n)
kept_rows rows name n k some = ap is_some (get_named rows name k n) ∙ kept_by rows name n k (bytes_eq n name) refl some

none_counts : (o : Option ℕ) → is_some o ≡ false → home_count o ≡ 0
none_counts None e = refl
none_counts (Some n) e = absurd (cc e)

new_count : (rows : SheetCounts) (name n : List ℕ) (b : Bool) → bytes_eq n name ≡ b → is_some (get rows name) ≡ false
    → home_count (cond b (Some 0) (get rows n)) ≡ home_count (get rows n)
new_count rows name n true e none = sym (ap (λ (m : List ℕ). home_count (get rows m)) (key_same names n name e) ∙ none_counts (get rows name) none)
new_count rows name n false e none = refl

-- a row that is made counts nothing
pub opened_count : (rows : SheetCounts) (name n : List ℕ) → home_count (get (with_sheet_row rows name) n) ≡ home_count (get rows n)
opened_count rows name n = go (is_some (get rows name)) refl
  where
    go : (b : Bool) → is_some (get rows name) ≡ b → home_count (get (cond b rows (insert rows name 0)) n) ≡ home_count (get rows n)
    go true e = refl
    go false e = ap home_count (get_named rows name 0 n) ∙ new_count rows name n (bytes_eq n name) refl e

old_there : (rows : SheetCounts) (name n : List ℕ) (b : Bool) → bytes_eq n name ≡ b → is_some (get rows name) ≡ true
    → is_some (get rows n) ≡ (is_some (get rows n) || b)
old_there rows name n true e some =
    let here : is_some (get rows n) ≡ true = ap (λ (m : List ℕ). is_some (get rows m)) (key_same names n name e) ∙ some in rw here refl
old_there rows name n false e some = or_none (is_some (get rows n))

new_there : (b : Bool) (o : Option ℕ) → is_some (cond b (Some 0) o) ≡ (is_some o || b)
new_there true None = refl
new_there true (Some n) = refl
new_there false o = or_none (is_some o)

-- the sheets that have rows then
pub opened_there : (rows : SheetCounts) (name n : List ℕ) → is_some (get (with_sheet_row rows name) n) ≡ (is_some (get rows n) || bytes_eq n name)
opened_there rows name n = go (is_some (get rows name)) refl
  where
    go : (b : Bool) → is_some (get rows name) ≡ b → is_some (get (cond b rows (insert rows name 0)) n) ≡ (is_some (get rows n) || bytes_eq n name)
    go true e = old_there rows name n (bytes_eq n name) refl e
    go false e = ap is_some (get_named rows name 0 n) ∙ new_there (bytes_eq n name) (get rows n)

-- a home stays where rows stay
pub home_stays : (rows after : SheetCounts) → ((n : List ℕ) → is_some (get after n) ≡ is_some (get rows n)) → (item : Item) → HasHome rows item → HasHome after item
home_stays rows after kept (things.Object id, Some (contents.Object placed)) home = kept placed.sheet ∙ home
home_stays rows after kept (things.Object id, Some (contents.Head head)) home = tt
home_stays rows after kept (things.Object id, Some (contents.Symbol symbol)) home = tt
home_stays rows after kept (things.Object id, None) home = tt
home_stays rows after kept (things.SheetName name, v) home = tt
home_stays rows after kept (things.SymbolName name, v) home = tt

sheet_one : (p : ProjectData) (t : Thing) (v : Option Value) (n : List ℕ) → has_sheet (put_one p t v) n ≡ true
    → (has_sheet p n || is_same_thing (things.SheetName n) t) ≡ true
sheet_one p (things.Object id) v n e = sym (or_none (has_sheet p n)) ∙ e
sheet_one p (things.SymbolName name) v n e = sym (or_none (has_sheet p n)) ∙ e
sheet_one p (things.SheetName name) v n e = go (bytes_eq n name) (is_some (as_head v)) (has_sheet p n) (sym (set_head p name n (as_head v)) ∙ e)
  where
    go : (b s h : Bool) → cond b s h ≡ true → (h || b) ≡ true
    go true s true e = refl
    go true s false e = refl
    go false s h e = sym (or_none h) ∙ e

-- a sheet that stands afterwards stood before, or is in the change
pub sheet_from : (p : ProjectData) (items : List Item) (n : List ℕ) → has_sheet (put p items) n ≡ true
    → (has_sheet p n || changes_thing (things.SheetName n) items) ≡ true
sheet_from p [] n e = sym (or_none (has_sheet p n)) ∙ e
sheet_from p (x ∷ items) n e =
    go (has_sheet p n) (is_same_thing (things.SheetName n) x.0) (has_sheet (put_one p x.0 x.1) n) (changes_thing (things.SheetName n) items)
    (sheet_one p x.0 x.1 n) (sheet_from (put_one p x.0 x.1) items n e)
  where
    go : (a b c d : Bool) → (c ≡ true → (a || b) ≡ true) → (c || d) ≡ true → (a || (b || d)) ≡ true
    go true b c d f e = refl
    go false true c d f e = refl
    go false false true d f e = absurd (let no : false ≡ true = f refl in cc no)
    go false false false d f e = e

-- so it has a row
pub row_from : (p : ProjectData) (items : List Item) (rows after : SheetCounts) → ((n : List ℕ) → IsSome (get p.sheets n) → IsSome (get rows n))
    → ((n : List ℕ) → is_some (get after n) ≡ (is_some (get rows n) || changes_thing (things.SheetName n) items))
    → (n : List ℕ) → IsSome (get (put p items).sheets n) → IsSome (get after n)
row_from p items rows after known made n e =
    made n ∙ go (has_sheet p n) (is_some (get rows n)) (changes_thing (things.SheetName n) items) (known n) (sheet_from p items n e)
  where
    go : (a b c : Bool) → (a ≡ true → b ≡ true) → (a || c) ≡ true → (b || c) ≡ true
    go true b c f e = ap (λ (x : Bool). x || c) (f refl)
    go false true c f e = refl
    go false false c f e = e

home_from : (p : ProjectData) (rows : SheetCounts) → ((n : List ℕ) → IsSome (get p.sheets n) → IsSome (get rows n)) → (item : Item) → IsPlacedIn p item
    → HasHome rows item
home_from p rows known (things.Object id, Some (contents.Object placed)) h = known placed.sheet (h id placed (refl, refl))
home_from p rows known (things.Object id, Some (contents.Head head)) h = tt
home_from p rows known (things.Object id, Some (contents.Symbol symbol)) h = tt
home_from p rows known (things.Object id, None) h = tt
home_from p rows known (things.SheetName name, v) h = tt
home_from p rows known (things.SymbolName name, v) h = tt

-- and each object of the change goes to a sheet with a row
pub homes_from : (p : ProjectData) (rows : SheetCounts) → ((n : List ℕ) → IsSome (get p.sheets n) → IsSome (get rows n)) → (items : List Item)
    → All (IsPlacedIn p) items → All (HasHome rows) items
homes_from p rows known items all = All-weaker (IsPlacedIn p) (HasHome rows) (home_from p rows known) items all
