-- Names that are known, as more are learned and as a change is put in.
use Rattle.std.proofs.Common.{◌≡◌, ◌⊎◌, ◌||◌, inl, inr, ℕ, ◌+◌, ◌<◌, Bool, true, false, cond, List, [], ◌∷◌, Option, Some, None, drop, filter, length, map, get_or, refl, sym, ap, subst, ◌∙◌}
use Rattle.std.specs.FinMap.{entries}
use Rattle.std.specs.Str.{bytes_eq}
use Rattle.std.proofs.lemmas.Cmp.{nat_list_eq_equiv}
use Rattle.std.proofs.lemmas.List.{drop_more}
use Rattle.std.specs.Borrow.{Bor}
use Rattle.geda_model.specs.declared.object.Body.{Body}
use Rattle.geda_model.specs.declared.object.Body.TheVariants as bodies
use Rattle.geda_model.specs.Shapes.{PartData}
use Rattle.geda_model.specs.Sheets.{ObjectData}
use Rattle.project_model.specs.declared.change.Placed.{Placed}
use Rattle.project_model.specs.Items.{Item}
use Rattle.project_model.specs.Projects.{ProjectData, empty_project}
use Rattle.project_model.specs.Changes.{put}
use Rattle.project_model.specs.Tables.{row_now}
use Rattle.board_core.specs.Changed.{has_symbol, has_symbol_of, has_thing, is_changed, is_object}
use Rattle.board_core.specs.steps.Members.{In}
use Rattle.board_core.specs.steps.Standing.{changed_rows, given_row, given_rows, own_rows}
use Rattle.board_core.specs.steps.SymbolNames.{AreKnown, HasNoneKnown, IsKnown, Known, KnowsMore, library_name, name_beside}
use Rattle.board_core.proofs.ChangeLemmas.{row_there}
use Rattle.board_core.proofs.MemberLemmas.{in_found}
use Rattle.board_core.proofs.OpenLemmas.{no_objects}
use Rattle.board_core.proofs.PutLemmas.{given_or_stays, in_entries}

-- one more name
pub learned_more : (text : List ℕ) (old new : Known) → ((name : List ℕ) → new name ≡ cond (bytes_eq text name) true (old name)) → KnowsMore old new
learned_more text old new is name e = is name ∙ by (bytes_eq text name)
  where
    by : (b : Bool) → cond b true (old name) ≡ true
    by true = refl
    by false = e

pub learned_one : (text : List ℕ) (old new : Known) → ((name : List ℕ) → new name ≡ cond (bytes_eq text name) true (old name)) → new text ≡ true
learned_one text old new is = is text ∙ ap (λ b. cond b true (old text)) (nat_list_eq_equiv.refl text)

pub is_known_more : (old new : Known) (name : Option (List ℕ)) → KnowsMore old new → IsKnown old name → IsKnown new name
is_known_more old new None more is = tt
is_known_more old new (Some name) more is = more name is

pub known_more : (old new : Known) (rows : List (ℕ × Placed)) → KnowsMore old new → AreKnown old rows → AreKnown new rows
known_more old new rows more are row h = is_known_more old new (library_name row.1.object) more (are row h)

-- on the way, the names of some objects are learned, and some are left
abbrev pub IsLearning : Known → List (ℕ × Placed) → List (ℕ × Placed) → Type 0
IsLearning known all left = (row : ℕ × Placed) → In row all → IsKnown known (library_name row.1.object) ⊎ In row left

pub learning_more : (old new : Known) (all : List (ℕ × Placed)) (row : ℕ × Placed) (left : List (ℕ × Placed)) → KnowsMore old new → IsKnown new (library_name row.1.object)
    → IsLearning old all (row ∷ left) → IsLearning new all left
learning_more old new all row left more is way other h = elim (way other h) [
  | inl k ↦ inl (is_known_more old new (library_name other.1.object) more k)
  | inr rest ↦ elim rest [ inl e ↦ inl (subst (λ (r : ℕ × Placed). IsKnown new (library_name r.1.object)) e is) | inr later ↦ inr later ]
]

pub learning_ends : (known : Known) (all : List (ℕ × Placed)) → IsLearning known all [] → AreKnown known all
learning_ends known all way row h = elim (way row h) [ inl k ↦ k | inr f ↦ absurd f ]

-- the next object
pub next_row : (rows : List (ℕ × Bor Placed)) (i : ℕ) (row : ℕ × Bor Placed) → i < length rows → row ≡ get_or rows i row → map row_now (drop i rows) ≡ row_now row ∷ map row_now (drop (i + 1) rows)
next_row rows i row lt here = ap (map row_now) (drop_more rows i row lt) ∙ ap (λ (r : ℕ × Bor Placed). row_now r ∷ map row_now (drop (i + 1) rows)) (sym here)

-- a change gives some objects, and others stand as before
pub known_put : (old new : Known) (p : ProjectData) (items : List Item) → KnowsMore old new → AreKnown new (given_rows items) → AreKnown old (entries p.objects) → AreKnown new (entries (put p items).objects)
known_put old new p items more given are row h =
    elim (given_or_stays p items row.0 row.1 (row_there (put p items) row h)) [
      | inl g ↦ given row (in_found given_row g.item row items g.there g.gives)
      | inr s ↦ is_known_more old new (library_name row.1.object) more (are row (in_entries p.objects row.0 row.1 s.1))
    ]

-- the empty project has no objects
pub known_empty : (known : Known) → AreKnown known (entries empty_project.objects)
known_empty known = subst (AreKnown known) (sym no_objects) (λ row h. absurd h)

filter_same_in : (t u : ℕ × Placed → Bool) (rows : List (ℕ × Placed)) → ((row : ℕ × Placed) → In row rows → t row ≡ u row) → filter t rows ≡ filter u rows
filter_same_in t u [] same = refl
filter_same_in t u (row ∷ rows) same =
    let here = same row (inl refl) in
    let rest = filter_same_in t u rows (λ other h. same other (inr h)) in
    λ i. cond (here i) (row ∷ rest i) (rest i)

-- a change that has no known symbol has not that of an object whose name is known
no_known_symbol : (known : Known) (items : List Item) (o : ObjectData) → HasNoneKnown known items → IsKnown known (library_name o) → has_symbol_of items o ≡ false
no_known_symbol known items o none is = by o.body refl
  where
    of_parts : (basename : List ℕ) (parts : Option (List PartData)) → IsKnown known (name_beside basename parts) → has_symbol items basename parts ≡ false
    of_parts basename None k = none basename k
    of_parts basename (Some parts) k = refl

    by : (body : Body) → o.body ≡ body → has_symbol_of items o ≡ false
    by (bodies.Shape s) e = rw e refl
    by (bodies.Component c) e = rw e (of_parts c.basename c.embedded (rw e at is))

-- so it changes its own objects alone
pub own_changed : (p : ProjectData) (items : List Item) (known : Known) → AreKnown known (entries p.objects) → HasNoneKnown known items → own_rows p items ≡ changed_rows p items
own_changed p items known are none = filter_same_in (λ row. has_thing (is_object row.0) items) (is_changed items) (entries p.objects) same
  where
    same : (row : ℕ × Placed) → In row (entries p.objects) → has_thing (is_object row.0) items ≡ is_changed items row
    same row h = by (has_thing (is_object row.0) items)
      where
        by : (b : Bool) → b ≡ (b || has_symbol_of items row.1.object)
        by true = refl
        by false = sym (no_known_symbol known items row.1.object none (are row h))
