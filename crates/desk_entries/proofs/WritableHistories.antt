-- Each object of the project of a history can be written.
use Rattle.std.proofs.Common.{◌≡◌, ⊎_elim, ℕ, zero, suc, ◌+◌, ◌<◌, ◌≤◌, Bool, true, false, List, [], ◌∷◌, ◌++◌, length, take, map, cond, Option, Some, None, option_map, Result, Ok, Err, refl, sym, subst, ◌∙◌, arith, codes}
use Rattle.std.specs.List.{AllByRecursion, cons_option}
use Rattle.std.specs.FinMap as finite
use Rattle.std.specs.FinMap.{get-empty, get-insert, get-remove}
use Rattle.std.specs.Ordering.{eq_by_cmp, nat_cmp}
use Rattle.std.proofs.lemmas.Bool.{cases_lt}
use Rattle.std.proofs.lemmas.Cmp.{nat_cmp_total}
use Rattle.std.proofs.lemmas.List.{take_all, take-append-le, length-append}
use Rattle.std.proofs.lemmas.List.Elements.{recursion_from_All}
use Rattle.std.proofs.lemmas.List.Sums.{fold-append}
use Rattle.geda_grammar.specs.declared.kind.ReadKind.{ReadKind}
use Rattle.geda_grammar.specs.Writable.{ObjectIsWritable}
use Rattle.geda_model.specs.Sheets.{ObjectData, SheetData, SymbolData}
use Rattle.geda_write.proofs.Spelled.{object_spelled, sheet_spelled}
use Rattle.project_model.specs.Changes.{as_placed, put, put_one, value_at, values_in}
use Rattle.project_model.specs.Items.{Item}
use Rattle.project_model.specs.Projects.{ProjectData, empty_project}
use Rattle.project_model.specs.declared.change.Placed.{Placed}
use Rattle.project_model.specs.declared.change.Thing.{Thing}
use Rattle.project_model.specs.declared.change.Thing.TheVariants as things
use Rattle.project_model.specs.declared.change.Value.{Value}
use Rattle.project_model.specs.declared.change.Value.TheVariants as values
use Rattle.edit_attr.specs.Attributes.{has_attr, with_attr, without_attr}
use Rattle.edit_entries.specs.Entries.{EntryData}
use Rattle.edit_entries.specs.declared.edit.Edit.{Edit}
use Rattle.edit_entries.specs.declared.edit.Edit.TheVariants as edits
use Rattle.edit_move.specs.declared.fault.MoveFault.{MoveFault}
use Rattle.edit_move.specs.declared.fault.MoveFault.TheVariants as moves
use Rattle.edit_rules.specs.Altering.{alter, altered, altered_item, altered_one, is_text, moved_or_flaw}
use Rattle.edit_rules.specs.EditChanges.{Change, object_change, objects_from, removed, replaced, sheet_change, symbol_change}
use Rattle.edit_rules.specs.Histories.{change_after, change_at, more_changes, project, project_of}
use Rattle.edit_rules.specs.Values.{object_value, sheet_value, symbol_value}
use Rattle.edit_rules.specs.declared.verdict.Flaw.{Flaw}
use Rattle.edit_rules.proofs.ValueLaws.{object_is_value, sheet_is_value}
use Rattle.refdes_renum.specs.Renumbering.{items_of, new_refdes, component_refdeses, open_places, renumbered, renumbered_at, used_after}
use Rattle.desk_entries.proofs.MovedBodies.{IfMade, moved_kept, turned_kept}

-- each object can be written, where its text is not too long
abbrev pub AreWritable : ProjectData → Type 0
AreWritable p = (id : ℕ) (placed : Placed) → finite.get p.objects id ≡ Some placed → ObjectIsWritable placed.object

-- what an item puts can be written
abbrev IfPut : Option Placed → Type 0
IfPut None = Unit {0}
IfPut (Some placed) = ObjectIsWritable placed.object

abbrev PutsWritable : Item → Type 0
PutsWritable item = IfPut (as_placed item.1)

abbrev IsWritableChange : Change → Type 0
IsWritableChange c = AllByRecursion PutsWritable c

-- what is there can be written
found : (p : ProjectData) → AreWritable p → (id : ℕ) → IfPut (finite.get p.objects id)
found p are id = by (finite.get p.objects id) refl
  where
    by : (o : Option Placed) → finite.get p.objects id ≡ o → IfPut o
    by None e = tt
    by (Some placed) e = are id placed e

unfound : (p : ProjectData) → ((id : ℕ) → IfPut (finite.get p.objects id)) → AreWritable p
unfound p all id placed e = subst IfPut e (all id)

either : (b : Bool) (x y : Option Placed) → IfPut x → IfPut y → IfPut (cond b x y)
either true x y h k = h
either false x y h k = k

one_put : (p : ProjectData) (t : Thing) (v : Option Value) → AreWritable p → IfPut (as_placed v) → AreWritable (put_one p t v)
one_put p (things.Object id) v are h = unfound (put_one p (things.Object id) v) (by (as_placed v) refl h)
  where
    by : (o : Option Placed) → as_placed v ≡ o → IfPut o → (q : ℕ) → IfPut (finite.get (put_one p (things.Object id) v).objects q)
    by None e k q = rw (e, get-remove nat_cmp_total p.objects id q) (either (eq_by_cmp nat_cmp q id) None (finite.get p.objects q) tt (found p are q))
    by (Some placed) e k q =
        rw (e, get-insert nat_cmp_total p.objects id placed q) (either (eq_by_cmp nat_cmp q id) (Some placed) (finite.get p.objects q) k (found p are q))
one_put p (things.SheetName name) v are h = are
one_put p (things.SymbolName name) v are h = are

all_put : (p : ProjectData) (c : Change) → AreWritable p → IsWritableChange c → AreWritable (put p c)
all_put p [] are h = are
all_put p (item ∷ c) are h = all_put (put_one p item.0 item.1) c (one_put p item.0 item.1 are h.0) h.1

-- an undo
value_writable : (p : ProjectData) (t : Thing) → AreWritable p → IfPut (as_placed (value_at p t))
value_writable p (things.Object id) are = by (finite.get p.objects id) (found p are id)
  where
    by : (o : Option Placed) → IfPut o → IfPut (as_placed (option_map values.Object o))
    by None h = tt
    by (Some placed) h = h
value_writable p (things.SheetName name) are = by (finite.get p.sheets name)
  where
    by : (o : Option _) → IfPut (as_placed (option_map values.Head o))
    by None = tt
    by (Some head) = tt
value_writable p (things.SymbolName name) are = by (finite.get p.symbols name)
  where
    by : (o : Option _) → IfPut (as_placed (option_map values.Symbol o))
    by None = tt
    by (Some symbol) = tt

undo_writable : (p : ProjectData) (c : Change) → AreWritable p → IsWritableChange (values_in p c)
undo_writable p [] are = tt
undo_writable p (item ∷ c) are = (value_writable p item.0 are, undo_writable p c are)

-- what texts spell
each_from : (sheet : List ℕ) (id : ℕ) (os : List ObjectData) → AllByRecursion ObjectIsWritable os → IsWritableChange (objects_from sheet id os)
each_from sheet id [] h = tt
each_from sheet id (o ∷ os) h = (h.0, each_from sheet (id + 1) os h.1)

sheet_writable : (name : List ℕ) (id : ℕ) (text : List ℕ) → IsWritableChange (sheet_change name id (sheet_value text))
sheet_writable name id text = by (sheet_value text) refl
  where
    by : (r : Result SheetData (ReadKind × ℕ)) → sheet_value text ≡ r → IsWritableChange (sheet_change name id r)
    by (Ok s) e = (tt, each_from name id s.objects (recursion_from_All ObjectIsWritable s.objects (sheet_spelled text s ((sheet_is_value.spelled text s).0 e)).1))
    by (Err fault) e = tt

symbol_writable : (name : List ℕ) (r : Result SymbolData (ReadKind × ℕ)) → IsWritableChange (symbol_change name r)
symbol_writable name (Ok s) = (tt, tt)
symbol_writable name (Err fault) = tt

object_writable : (sheet : List ℕ) (id : ℕ) (text : List ℕ) → IsWritableChange (object_change sheet id (object_value text))
object_writable sheet id text = by (object_value text) refl
  where
    by : (r : Result ObjectData (ReadKind × ℕ)) → object_value text ≡ r → IsWritableChange (object_change sheet id r)
    by (Ok o) e = (object_spelled text o ((object_is_value.spelled text o).0 e), tt)
    by (Err fault) e = tt

replaced_writable : (id : ℕ) (old : Option Placed) (text : List ℕ) → IsWritableChange (replaced id old (object_value text))
replaced_writable id None text = tt
replaced_writable id (Some placed) text = by (object_value text) refl
  where
    by : (r : Result ObjectData (ReadKind × ℕ)) → object_value text ≡ r → IsWritableChange (replaced id (Some placed) r)
    by (Ok o) e = (object_spelled text o ((object_is_value.spelled text o).0 e), tt)
    by (Err fault) e = tt

removed_writable : (ids : List ℕ) → IsWritableChange (map removed ids)
removed_writable [] = tt
removed_writable (id ∷ ids) = (tt, removed_writable ids)

-- what edits make of objects
body_of_set : (name value : List ℕ) (o : ObjectData) → ObjectIsWritable o → ObjectIsWritable (with_attr name value o)
unfolding with_attr
body_of_set name value o w = w

body_of_drop : (name : List ℕ) (o : ObjectData) → ObjectIsWritable o → ObjectIsWritable (without_attr name o)
unfolding without_attr
body_of_drop name o w = w

moved_flaw : (r : Result ObjectData MoveFault) → IfMade r → IfMade (moved_or_flaw r)
moved_flaw (Ok o) h = h
moved_flaw (Err moves.NotOnKind) h = tt
moved_flaw (Err fault) h = tt

unless_err : (b : Bool) (r : Result ObjectData Flaw) (flaw : Flaw) → IfMade r → IfMade (cond b (Err flaw) r)
unless_err true r flaw h = tt
unless_err false r flaw h = h

only_if : (b : Bool) (r : Result ObjectData Flaw) (flaw : Flaw) → IfMade r → IfMade (cond b r (Err flaw))
only_if true r flaw h = h
only_if false r flaw h = tt

alter_writable : (edit : Edit) (o : ObjectData) → ObjectIsWritable o → IfMade (alter edit o)
alter_writable (edits.Move ids dx dy) o w = moved_flaw _ (moved_kept dx dy o w)
alter_writable (edits.Turn ids x y quarter mirror) o w = moved_flaw _ (turned_kept x y quarter mirror o w)
alter_writable (edits.SetAttr id name value) o w = unless_err (is_text o) _ _ (body_of_set name value o w)
alter_writable (edits.DropAttr id name) o w = unless_err (is_text o) _ _ (only_if (has_attr name o) _ _ (body_of_drop name o w))
alter_writable edit o w = w

-- the change of an item that may be made
abbrev IfItem : Option Item → Type 0
IfItem None = Unit {0}
IfItem (Some item) = PutsWritable item

made_item : (id : ℕ) (sheet : List ℕ) (r : Result ObjectData Flaw) → IfMade r → IfItem (altered_item id sheet r)
made_item id sheet (Ok o) h = h
made_item id sheet (Err flaw) h = tt

altered_item_writable : (edit : Edit) (id : ℕ) (o : Option Placed) → IfPut o → IfItem (altered_one edit id o)
altered_item_writable edit id None h = tt
altered_item_writable edit id (Some placed) h = made_item id placed.sheet (alter edit placed.object) (alter_writable edit placed.object h)

altered_writable : (p : ProjectData) (edit : Edit) (ids : List ℕ) → AreWritable p → IsWritableChange (altered p edit ids)
altered_writable p edit [] are = tt
altered_writable p edit (id ∷ ids) are =
    by (altered_one edit id (finite.get p.objects id)) (altered_item_writable edit id (finite.get p.objects id) (found p are id)) (altered_writable p edit ids are)
  where
    by : (o : Option Item) → IfItem o → IsWritableChange (altered p edit ids) → IsWritableChange (cons_option o (altered p edit ids))
    by None h rest = rest
    by (Some item) h rest = (h, rest)

-- the numbers
numbered_writable : (p : ProjectData) (used : List (List ℕ)) (places : List _) → AreWritable p → IsWritableChange (renumbered_at p used places)
numbered_writable p used [] are = tt
numbered_writable p used (place ∷ places) are =
    by (finite.get p.objects place.id) (found p are place.id) (λ more. numbered_writable p more places are)
  where
    by : (o : Option Placed) → IfPut o → ((more : List (List ℕ)) → IsWritableChange (renumbered_at p more places))
        → IsWritableChange (items_of p used place.id o ++ renumbered_at p (used_after p used o) places)
    by None h rest = rest used
    by (Some placed) h rest =
        (body_of_set (codes "refdes") (new_refdes p used placed) placed.object h, rest (used ++ new_refdes p used placed ∷ []))

renumbered_writable : (p : ProjectData) → AreWritable p → IsWritableChange (renumbered p)
unfolding renumbered
renumbered_writable p are = numbered_writable p (component_refdeses p) (open_places p) are

-- after each of the first changes all objects can be written
abbrev AreAlways : List Change → Type 0
AreAlways cs = (k : ℕ) → AreWritable (project_of (take k cs))

at_end : (cs : List Change) → AreAlways cs → AreWritable (project_of cs)
at_end cs always = subst (λ (ds : List Change). AreWritable (project_of ds)) (take_all (length cs) cs (omega arith)) (always (length cs))

change_writable : (cs : List Change) (edit : Edit) → AreAlways cs → IsWritableChange (change_after cs edit)
change_writable cs (edits.AddSheet name text) always = sheet_writable name (project_of cs).next_id text
change_writable cs (edits.AddSymbol name text) always = symbol_writable name (symbol_value text)
change_writable cs (edits.ReplaceSymbol name text) always = symbol_writable name (symbol_value text)
change_writable cs (edits.AddObject sheet text) always = object_writable sheet (project_of cs).next_id text
change_writable cs (edits.Replace id text) always = replaced_writable id (finite.get (project_of cs).objects id) text
change_writable cs (edits.Delete ids) always = removed_writable ids
change_writable cs (edits.Move ids dx dy) always = altered_writable (project_of cs) (edits.Move ids dx dy) ids (at_end cs always)
change_writable cs (edits.Turn ids x y quarter mirror) always =
    altered_writable (project_of cs) (edits.Turn ids x y quarter mirror) ids (at_end cs always)
change_writable cs (edits.SetAttr id name value) always =
    altered_writable (project_of cs) (edits.SetAttr id name value) (id ∷ []) (at_end cs always)
change_writable cs (edits.DropAttr id name) always = altered_writable (project_of cs) (edits.DropAttr id name) (id ∷ []) (at_end cs always)
change_writable cs edits.Renumber always = renumbered_writable (project_of cs) (at_end cs always)
change_writable cs (edits.Undo k) always = undo_writable (project_of (take k cs)) (change_at cs k) (always k)

always_push : (cs : List Change) (c : Change) → AreAlways cs → IsWritableChange c → AreAlways (cs ++ c ∷ [])
always_push cs c always h k =
    ⊎_elim
    (λ (lt : length cs < k).
    subst (λ (ds : List Change). AreWritable (project_of ds)) (sym (take_all k (cs ++ c ∷ []) (omega (arith, length-append cs (c ∷ [])))))
    (subst AreWritable (sym (fold-append put empty_project cs (c ∷ []))) (all_put (project_of cs) c (at_end cs always) h)))
    (λ (le : k ≤ length cs).
    subst (λ (ds : List Change). AreWritable (project_of ds)) (sym (take-append-le k cs (c ∷ []) le)) (always k))
    (cases_lt (length cs) k)

always_more : (cs : List Change) (es : List EntryData) → AreAlways cs → AreAlways (more_changes cs es)
always_more cs [] always = always
always_more cs (e ∷ es) always = always_more (cs ++ change_after cs e.edit ∷ []) es (always_push cs (change_after cs e.edit) always (change_writable cs e.edit always))

none_writable : AreWritable empty_project
none_writable id placed e = absurd (let none : None ≡ Some placed = sym (get-empty nat_cmp id) ∙ e in cc none)

always_none : AreAlways []
always_none zero = none_writable
always_none (suc k) = none_writable

-- so they can be after a whole history
pub all_writable : (h : List EntryData) → AreWritable (project h)
all_writable h = at_end (more_changes [] h) (always_more [] h always_none)
