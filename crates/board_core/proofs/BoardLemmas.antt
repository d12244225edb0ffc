-- A board through a change: the sheets that it touches, and those that are given up.
use Rattle.std.proofs.Common.{◌≡◌, ◌<◌, ◌^◌, ◌⊎◌, inl, inr, ◌||◌, ℕ, Bool, true, false, cond, List, [], ◌∷◌, ◌++◌, Option, Some, None, Contains, IsSome, filter, refl, sym, ap, subst, ◌∙◌, arith}
use Rattle.std.specs.FinMap.{entries}
use Rattle.std.specs.Map.{keys_of}
use Rattle.std.specs.Str.{bytes_eq}
use Rattle.std.proofs.lemmas.Map.Views.{Contains-keys_from_lookup}
use Rattle.std.proofs.lemmas.Slice.Eq.{bytes_eq-Decides}
use Rattle.net_flood.specs.Grouping.{GroupsData}
use Rattle.project_model.specs.declared.change.Placed.{Placed}
use Rattle.project_model.specs.declared.change.Thing.{Thing}
use Rattle.project_model.specs.declared.change.Thing.TheVariants as things
use Rattle.project_model.specs.Items.{Item}
use Rattle.project_model.specs.Projects.{ProjectData}
use Rattle.project_model.specs.Changes.{AreDistinct, put}
use Rattle.group_runs.specs.Runs.{SheetName}
use Rattle.group_runs.specs.Sheets.{Rows, given_up, is_given_up, row_at}
use Rattle.group_runs.proofs.RowLemmas.{same_or_apart}
use Rattle.board_core.specs.Boards.{AreKept, BoardData, MayGiveUp, RenewsGroups, StaysInBound}
use Rattle.board_core.specs.Bounds.{is_renewed}
use Rattle.board_core.specs.Changed.{HasChanged, TouchesSheet, has_thing, is_changed, is_sheet}
use Rattle.board_core.specs.steps.Members.{In}
use Rattle.board_core.specs.steps.Standing.{changed_rows, coming_rows, given_row, given_rows, renewed_rows}
use Rattle.board_core.specs.steps.Kept.{IsPartly, IsRegrouped, NoneGivenUp, StaysWithin, named_by, sheets_at, sheets_named, touched_sheets}
use Rattle.board_core.proofs.MemberLemmas.{contains_in, filtered, found, in_contains, in_either, in_filter, in_found, in_left, in_right, mapped}
use Rattle.board_core.proofs.PutLemmas.{given_or_stays, given_own, given_stands, has_member, in_entries, things_distinct}
use Rattle.board_core.proofs.ChangeLemmas.{changed_own, changed_symbol, coming_counted, renewed_parts, row_there}
use Rattle.board_core.proofs.BoundLemmas.{sizes_on_sheets}
use Rattle.board_core.proofs.HoldLemmas.{kept_not_gone}
use Rattle.board_core.proofs.RegroupLemmas.{in_sheets}

-- a sheet that a change names
named_in : (items : List Item) (s : SheetName) → has_thing (is_sheet s) items ≡ true → In s (sheets_named items)
named_in [] s e = absurd (let clash : false ≡ true = e in cc)
named_in (item ∷ items) s e = by item.0 (named_in items s) e
  where
    by : (thing : Thing) → (has_thing (is_sheet s) items ≡ true → In s (sheets_named items)) → (is_sheet s thing || has_thing (is_sheet s) items) ≡ true → In s (sheets_named ((thing, item.1) ∷ items))
    by (things.Object id) rest e = rest e
    by (things.SymbolName name) rest e = rest e
    by (things.SheetName name) rest e = go (bytes_eq name s) refl e
      where
        go : (b : Bool) → bytes_eq name s ≡ b → (bytes_eq name s || has_thing (is_sheet s) items) ≡ true → In s (name ∷ sheets_named items)
        go true t e = inl ((bytes_eq-Decides name s).0 t)
        go false t e = inr (rest (sym (ap (λ b. b || has_thing (is_sheet s) items) t) ∙ e))

in_named : (items : List Item) (s : SheetName) → In s (sheets_named items) → has_thing (is_sheet s) items ≡ true
in_named items s h =
    let f = found (λ (item : Item). named_by item.0) s items h in
    has_member (is_sheet s) f.of items f.there (by f.of.0 f.is)
  where
    by : (thing : Thing) → named_by thing ≡ Some s → is_sheet s thing ≡ true
    by (things.Object id) e = absurd (let clash : ◌≡◌ {A = Option SheetName} None (Some s) = e in cc)
    by (things.SymbolName name) e = absurd (let clash : ◌≡◌ {A = Option SheetName} None (Some s) = e in cc)
    by (things.SheetName name) e = (bytes_eq-Decides name s).1 (let same : ◌≡◌ {A = Option SheetName} (Some name) (Some s) = e in cc)

module _ (p : ProjectData) (items : List Item) where
  of_changed : (s : SheetName) → HasChanged p items s → In s (touched_sheets p items)
  of_changed s h =
      in_left s (sheets_at (changed_rows p items)) (sheets_at (coming_rows p items) ++ sheets_named items)
      (subst (λ x. In x (sheets_at (changed_rows p items))) h.on_sheet
      (in_sheets (h.id, h.placed) (changed_rows p items) (in_filter (is_changed items) (h.id, h.placed) (entries p.objects) (in_entries p.objects h.id h.placed h.there) h.changed)))

  of_put : (s : SheetName) → HasChanged (put p items) items s → In s (touched_sheets p items)
  of_put s h = elim (given_or_stays p items h.id h.placed h.there) [
    | inl g ↦
        in_right s (sheets_at (changed_rows p items)) (sheets_at (coming_rows p items) ++ sheets_named items)
        (in_left s (sheets_at (coming_rows p items)) (sheets_named items)
        (subst (λ x. In x (sheets_at (coming_rows p items))) h.on_sheet
        (in_sheets (h.id, h.placed) (coming_rows p items)
        (in_left (h.id, h.placed) (given_rows items) (renewed_rows p items) (in_found given_row g.item (h.id, h.placed) items g.there g.gives)))))
    | inr st ↦ of_changed s (record { id = h.id; placed = h.placed; there = st.1; on_sheet = h.on_sheet; changed = h.changed })
  ]

  -- a sheet that a change touches is among those that are touched
  pub touched : (s : SheetName) → TouchesSheet p items s → In s (touched_sheets p items)
  touched s t = elim t [
    | inl named ↦ in_right s (sheets_at (changed_rows p items)) (sheets_at (coming_rows p items) ++ sheets_named items) (in_right s (sheets_at (coming_rows p items)) (sheets_named items) (named_in items s named))
    | inr changed ↦ elim changed [ inl before ↦ of_changed s before | inr after ↦ of_put s after ]
  ]

  -- and each of those is one
  pub touches : AreDistinct items → (s : SheetName) → In s (touched_sheets p items) → TouchesSheet p items s
  touches once s h = elim (in_either s (sheets_at (changed_rows p items)) (sheets_at (coming_rows p items) ++ sheets_named items) h) [
    | inl a ↦
        let m = mapped (λ (row : ℕ × Placed). row.1.sheet) s (changed_rows p items) a in
        let f = filtered (is_changed items) m.of (entries p.objects) m.there in
        inr (inl (record { id = m.of.0; placed = m.of.1; there = row_there p m.of f.0; on_sheet = m.is; changed = f.1 }))
    | inr b ↦ elim (in_either s (sheets_at (coming_rows p items)) (sheets_named items) b) [
      | inr n ↦ inl (in_named items s n)
      | inl c ↦ let m = mapped (λ (row : ℕ × Placed). row.1.sheet) s (coming_rows p items) c in comes m.of m.is (in_either m.of (given_rows items) (renewed_rows p items) m.there)
    ]
  ]
    where
      comes : (row : ℕ × Placed) → row.1.sheet ≡ s → In row (given_rows items) ⊎ In row (renewed_rows p items) → TouchesSheet p items s
      comes row on (inl g) =
          let f = found given_row row items g in
          inr (inr (record {
            id = row.0;
            placed = row.1;
            there = given_stands p items row.0 row.1 (things_distinct items once) f.of f.there f.is;
            on_sheet = on;
            changed = changed_own items row (given_own items row.0 row.1 (record { item = f.of; there = f.there; gives = f.is }));
          }))
      comes row on (inr r) =
          let f = filtered (is_renewed items) row (entries p.objects) r in
          inr (inl (record { id = row.0; placed = row.1; there = row_there p row f.0; on_sheet = on; changed = changed_symbol items row (renewed_parts items row f.1).1 }))

-- a sheet is given up exactly where it is among those that are
pub gone_of : (rows : Rows) (s : SheetName) → Contains (given_up rows) s → is_given_up (row_at rows s) ≡ true
gone_of rows s h = (filtered (λ t. is_given_up (row_at rows t)) s (keys_of rows) (contains_in s (given_up rows) h)).1

pub of_gone : (rows : Rows) (s : SheetName) → is_given_up (row_at rows s) ≡ true → Contains (given_up rows) s
of_gone rows s e = in_contains s (given_up rows) (in_filter (λ t. is_given_up (row_at rows t)) s (keys_of rows) (contains_in s (keys_of rows) (Contains-keys_from_lookup (λ x y t. (bytes_eq-Decides x y).0 t) s rows (there (row_at rows s) e))) e)
  where
    there : (r : Option (Option GroupsData)) → is_given_up r ≡ true → IsSome r
    there None e = absurd (let clash : false ≡ true = e in cc)
    there (Some row) e = refl

-- where none are, no sheet is
pub all_kept : (rows : Rows) → given_up rows ≡ [] → (s : SheetName) → is_given_up (row_at rows s) ≡ false
all_kept rows none s = by (is_given_up (row_at rows s)) refl
  where
    by : (b : Bool) → is_given_up (row_at rows s) ≡ b → is_given_up (row_at rows s) ≡ false
    by true e = absurd (let c = subst (λ gone. Contains gone s) none (of_gone rows s e) in omega (arith, c.1))
    by false e = e

in_or_not : (s : SheetName) (ss : List SheetName) → In s ss ⊎ (In s ss → ⊥)
in_or_not s [] = inr (λ h. h)
in_or_not s (t ∷ ts) = elim (same_or_apart t s) [
  | inl e ↦ inl (inl e)
  | inr n ↦ elim (in_or_not s ts) [ inl h ↦ inl (inr h) | inr m ↦ inr (λ h. elim h [ inl e ↦ n e | inr k ↦ m k ]) ]
]

-- what a board is, by its project and its groups
abbrev pub board_of : ProjectData → Rows → ℕ → ℕ → BoardData
board_of p rows asked counted = record { project = p; invalidated = given_up rows; asked = asked; counted = counted }

module _ (p q : ProjectData) (items : List Item) (old new : Rows) (a b m n : ℕ) where
  pub renews_groups : IsRegrouped p items old new → RenewsGroups (board_of p old a m) items (board_of q new b n)
  renews_groups done s h =
      let gone = gone_of new s h in
      let none : In s (touched_sheets p items) → ⊥ = λ t. (let clash : true ≡ false = sym gone ∙ kept_not_gone (row_at new s) (done.kept s t) in absurd (cc)) in
      (of_gone old s (ap is_given_up (sym (done.others s none)) ∙ gone), λ t. none (touched p items s t))

  pub may_give_up : AreDistinct items → IsPartly p items old new → MayGiveUp (board_of p old a m) items (board_of q new b n)
  may_give_up once done s h = elim (in_or_not s (touched_sheets p items)) [
    | inl t ↦ inr (touches p items once s t)
    | inr none ↦ inl (of_gone old s (ap is_given_up (sym (done.others s none)) ∙ gone_of new s h))
  ]

  none_gone : AreDistinct items → AreKept (board_of p old a m) items → NoneGivenUp old (touched_sheets p items)
  none_gone once kept s h = by (is_given_up (row_at old s)) refl
    where
      by : (t : Bool) → is_given_up (row_at old s) ≡ t → is_given_up (row_at old s) ≡ false
      by true e = absurd (kept s (touches p items once s h) (of_gone old s e))
      by false e = e

  pub stays_in_bound : AreDistinct items → b < 2 ^ 64 → StaysWithin p items old a b → StaysInBound (board_of p old a m) items (board_of q new b n)
  stays_in_bound once small within kept bound is =
      let few = within (none_gone once kept) is.sizes (sizes_on_sheets p items is.sizes is.left) in
      let counted = coming_counted p items in
      let total = is.total in
      omega (arith, few, counted, total, small)

-- none is given up exactly where no groups are
pub none_gone_up : (rows : Rows) → ((s : SheetName) → is_given_up (row_at rows s) ≡ false) → given_up rows ≡ []
none_gone_up rows none = go (keys_of rows)
  where
    go : (ks : List SheetName) → filter (λ s. is_given_up (row_at rows s)) ks ≡ []
    go [] = refl
    go (k ∷ ks) = ap (λ b. cond b (k ∷ filter (λ s. is_given_up (row_at rows s)) ks) (filter (λ s. is_given_up (row_at rows s)) ks)) (none k) ∙ go ks
