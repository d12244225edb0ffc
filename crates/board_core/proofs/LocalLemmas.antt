-- The least keys of groups that are kept are the keys at the labels of the classes.
use Rattle.std.proofs.Common.{◌≡◌, ◌<◌, ◌≤◌, ◌+◌, inl, inr, ℕ, zero, suc, Bool, true, false, List, [], ◌∷◌, ◌++◌, Option, Some, None, IsSome, is_some, append_assoc, get_or, length, length-append, map, nat_lt, slice_index_or, take, refl, sym, ap, subst, ◌∙◌, arith}
use Rattle.std.specs.FinMap.{get, get-empty}
use Rattle.std.specs.List.{slice_get}
use Rattle.std.specs.List.Sorted.{IsStrictlySortedBy}
use Rattle.std.specs.Ordering.{is_gt, ordering_reverse}
use Rattle.std.specs.declared.cmp.Ordering.TheVariants.{Less, Greater}
use Rattle.std.proofs.lemmas.List.{take_more}
use Rattle.std.proofs.lemmas.Option.{none-some, same_Some}
use Rattle.geda_geom.specs.declared.conductor.Key.{Key}
use Rattle.geda_geom.specs.Keys.{by_key}
use Rattle.geda_geom.proofs.KeyLemmas.{by_key_total}
use Rattle.net_flood.specs.Grouping.{Conductors, GroupsData, IsLeast}
use Rattle.project_model.specs.Projects.{ProjectData}
use Rattle.group_runs.specs.Runs.{BySheet, Coming, SheetName}
use Rattle.group_runs.specs.Sheets.{IsKept, Rows, given_up, is_given_up, kept_at, row_at}
use Rattle.sheet_groups.specs.Conductors.{SheetConductor, sheet_conductors}
use Rattle.sheet_groups.specs.Groups.{AreGroups, AreLabels, group_rows}
use Rattle.sheet_groups.proofs.OrderLemmas.{conductor_keys_rise}
use Rattle.board_core.specs.steps.Members.{In}
use Rattle.board_core.specs.steps.Standing.{by_sheet, come, on_sheet}
use Rattle.board_core.specs.steps.Kept.{HoldsProject, HoldsSheet}
use Rattle.board_core.specs.steps.Reading.{CanRead, LeastRows}
use Rattle.board_core.proofs.MemberLemmas.{mapped}
use Rattle.board_core.proofs.DrawnLemmas.{all_in, keys_at, project_keys, stands}
use Rattle.board_core.proofs.GroupLemmas.{Rise, found_at, reached, reaches, within}
use Rattle.board_core.proofs.BoundLemmas.{behind}
use Rattle.board_core.proofs.LabelLemmas.{labels_of}
use Rattle.board_core.proofs.BoardLemmas.{all_kept}
use Rattle.board_core.proofs.HoldLemmas.{alike_holds}

-- what stands at a place
index_at : {X : Type 0} (xs : List X) (i : ℕ) (x d : X) → slice_get xs i ≡ Some x → slice_index_or xs i d ≡ x
index_at [] i x d e = absurd (none-some x e)
index_at (y ∷ xs) zero x d e = same_Some y x e
index_at (y ∷ xs) (suc i) x d e = index_at xs i x d e

in_keys : (cs : List SheetConductor) (j : ℕ) (e : SheetConductor) → slice_get cs j ≡ Some e → In e.key (keys_at cs)
in_keys [] j e h = absurd (none-some e h)
in_keys (c ∷ cs) zero e h = inl (ap (λ (x : SheetConductor). x.key) (same_Some c e h))
in_keys (c ∷ cs) (suc j) e h = inr (in_keys cs j e h)

-- a later conductor has a greater key
later_key : (cs : List SheetConductor) → Rise cs → (i j : ℕ) (c d : SheetConductor) → slice_get cs i ≡ Some c → slice_get cs j ≡ Some d → i < j → by_key c.key d.key ≡ Less
unfolding IsStrictlySortedBy
later_key [] rise i j c d here there lt = absurd (none-some c here)
later_key (x ∷ cs) rise i zero c d here there lt = absurd (omega (arith, lt))
later_key (x ∷ cs) rise zero (suc j) c d here there lt =
    ap (λ (k : SheetConductor). by_key k.key d.key) (sym (same_Some x c here)) ∙ all_in (λ k. by_key x.key k ≡ Less) (keys_at cs) d.key rise.0 (in_keys cs j d there)
later_key (x ∷ cs) rise (suc i) (suc j) c d here there lt = later_key cs rise.1 i j c d here there (omega (arith, lt))

module _ (cs : List SheetConductor) (rise : Rise cs) (labels : List ℕ) (are : AreLabels cs labels) where
  -- the key at a label is the least of the group
  least_label : (i : ℕ) (c : SheetConductor) → slice_get cs i ≡ Some c → (least : Key) → IsLeast (by_sheet cs c.sheet) c.key least → (slice_index_or cs (get_or labels i 0) c).key ≡ least
  least_label i c here least is =
      let l = get_or labels i 0 in
      let r = reaches cs rise i c here l (are.chain i (within cs i c here)) in
      let w = reached cs rise i c here least is.member.1 in
      let up : l ≤ w.place = are.least i w.place (within cs i c here) w.joined in
      let first = is.first r.conductor.key (ap is_some (found_at cs rise i c here), r.joined) in
      ap (λ (x : SheetConductor). x.key) (index_at cs l r.conductor c r.there) ∙ same l r.conductor w.place w.conductor r.there w.there up (subst (λ k. is_gt (by_key k r.conductor.key) ≡ false) (sym w.key) first) ∙ w.key
    where
      same : (l : ℕ) (d : SheetConductor) (j : ℕ) (e : SheetConductor) → slice_get cs l ≡ Some d → slice_get cs j ≡ Some e → l ≤ j → is_gt (by_key e.key d.key) ≡ false → d.key ≡ e.key
      same l d j e at_l at_j up first = by (nat_lt l j) refl
        where
          by : (b : Bool) → nat_lt l j ≡ b → d.key ≡ e.key
          by true t =
              let lt : l < j = search (t, arith) in
              let turned : by_key e.key d.key ≡ Greater = by_key_total.antisymm e.key d.key ∙ ap ordering_reverse (later_key cs rise l j d e at_l at_j lt) in
              absurd (let clash : true ≡ false = sym (ap is_gt turned) ∙ first in cc)
          by false t =
              let at : l ≡ j = search (t, up, arith) in
              ap (λ (x : SheetConductor). x.key) (same_Some d e (sym at_l ∙ ap (slice_get cs) at ∙ at_j))

  -- rows of least keys are those of the labels
  rows_least : (done rest : List SheetConductor) → cs ≡ done ++ rest → (ms : List ℕ) → length ms ≡ length rest → ((k : ℕ) → get_or ms k 0 ≡ get_or labels (length done + k) 0)
      → (rows : List (Key × Key)) → LeastRows (by_sheet cs) (map come rest) rows → rows ≡ group_rows cs rest ms
  rows_least done [] are_all ms long same [] h = refl
  rows_least done [] are_all ms long same (row ∷ rows) h = absurd h
  rows_least done (c ∷ rest) are_all [] long same rows h = absurd (omega (arith, long))
  rows_least done (c ∷ rest) are_all (m ∷ ms) long same [] h = absurd h
  rows_least done (c ∷ rest) are_all (m ∷ ms) long same (row ∷ rows) h =
      let i = length done in
      let here : slice_get cs i ≡ Some c = ap (λ xs. slice_get xs i) are_all ∙ behind done rest c in
      let label : m ≡ get_or labels i 0 = same 0 ∙ ap (λ n. get_or labels n 0) (let n : length done + 0 ≡ length done = omega arith in n) in
      let least = least_label i c here row.1 h.1 in
      let key : row.1 ≡ (slice_index_or cs m c).key = sym least ∙ ap (λ n. (slice_index_or cs n c).key) (sym label) in
      let pushed = length-append done (c ∷ []) in
      let more = rows_least (done ++ c ∷ []) rest (are_all ∙ sym (append_assoc done (c ∷ []) rest)) ms (omega (arith, long))
      (λ k. same (suc k) ∙ ap (λ n. get_or labels n 0) (let n : length done + suc k ≡ length (done ++ c ∷ []) + k = omega (arith, pushed) in n)) rows h.2 in
      λ j. (h.0 j, key j) ∷ more j

  pub all_least : (rows : List (Key × Key)) → LeastRows (by_sheet cs) (map come cs) rows → rows ≡ group_rows cs cs labels
  all_least rows h = rows_least [] cs refl labels are.len (λ k. ap (λ n. get_or labels n 0) (let n : k ≡ 0 + k = omega arith in n)) rows h

-- rows by look-ups that answer alike
rows_alike : (f g : BySheet) (cs : List Coming) (rows : List (Key × Key)) → ((c : Coming) → In c cs → f c.0 ≡ g c.0) → LeastRows f cs rows → LeastRows g cs rows
rows_alike f g [] [] same h = h
rows_alike f g [] (row ∷ rows) same h = h
rows_alike f g (c ∷ cs) [] same h = h
rows_alike f g (c ∷ cs) (row ∷ rows) same h = (h.0, subst (λ m. IsLeast m c.1.0 row.1) (same c (inl refl)) h.1, rows_alike f g cs rows (λ d k. same d (inr k)) h.2)

-- one more row
pub rows_push : (at : BySheet) (cs : List Coming) (rows : List (Key × Key)) (c : Coming) (row : Key × Key) → LeastRows at cs rows → row.0 ≡ c.1.0 → IsLeast (at c.0) c.1.0 row.1
    → LeastRows at (cs ++ c ∷ []) (rows ++ row ∷ [])
rows_push at [] [] c row h key least = (key, least, tt)
rows_push at [] (r ∷ rows) c row h key least = absurd h
rows_push at (d ∷ cs) [] c row h key least = absurd h
rows_push at (d ∷ cs) (r ∷ rows) c row h key least = (h.0, h.1, rows_push at cs rows c row h.2 key least)

module _ (p : ProjectData) (rows : Rows) (held : HoldsProject p rows) (fresh : given_up rows ≡ []) where
  not_gone : (s : SheetName) → is_given_up (row_at rows s) ≡ false
  not_gone s = all_kept rows fresh s

  kept_where : (r : Option (Option GroupsData)) (cs : Conductors) → HoldsSheet r cs → is_given_up r ≡ false → (k : Key) → IsSome (get cs k) → IsKept r
  kept_where None cs h e k there = (let none : get cs k ≡ None = ap (λ m. get m k) h ∙ get-empty by_key k in let clash : false ≡ true = sym (ap is_some none) ∙ there in absurd (cc))
  kept_where (Some None) cs h e k there = (let clash : true ≡ false = e in absurd (cc))
  kept_where (Some (Some g)) cs h e k there = h.0

  of_come : (c : Coming) → In c (map come (sheet_conductors p)) → IsSome (get (on_sheet p c.0) c.1.0)
  of_come c h =
      let m = mapped come c (sheet_conductors p) h in
      subst (λ (d : Coming). IsSome (get (on_sheet p d.0) d.1.0)) m.is (ap is_some (stands (sheet_conductors p) (project_keys p) m.of m.there))

  -- the group of each conductor can be read
  pub can_read : CanRead rows (map come (sheet_conductors p))
  can_read c h =
      let there = of_come c h in
      let kept = kept_where (row_at rows c.0) (on_sheet p c.0) (held c.0) (not_gone c.0) c.1.0 there in
      (kept, subst (λ m. IsSome (get m c.1.0)) (sym (alike_holds (on_sheet p) rows held c.0 kept)) there)

  -- and what is read are the groups
  pub are_read : (read : List (Key × Key)) → LeastRows (kept_at rows) (map come (sheet_conductors p)) read → AreGroups (sheet_conductors p) read
  are_read read least =
      let cs = sheet_conductors p in
      let labels = labels_of cs in
      let same = rows_alike (kept_at rows) (on_sheet p) (map come cs) read (λ c h. alike_holds (on_sheet p) rows held c.0 (can_read c h).0) least in
      record { labels = labels.0; are_labels = labels.1; are_rows = all_least cs (conductor_keys_rise p) labels.0 labels.1 read same }

-- what stands at a place is a member
pub in_at : (cs : List Coming) (i : ℕ) (c : Coming) → i < length cs → c ≡ get_or cs i c → In c cs
in_at [] i c lt e = absurd (omega (arith, lt))
in_at (d ∷ cs) zero c lt e = inl (sym e)
in_at (d ∷ cs) (suc i) c lt e = inr (in_at cs i c (omega (arith, lt)) e)

-- the rows of one more
pub rows_more : (at : BySheet) (all : List Coming) (i : ℕ) (c : Coming) (rows : List (Key × Key)) (row : Key × Key) → i < length all → c ≡ get_or all i c → LeastRows at (take i all) rows
    → row.0 ≡ c.1.0 → IsLeast (at c.0) c.1.0 row.1 → LeastRows at (take (i + 1) all) (rows ++ row ∷ [])
rows_more at all i c rows row lt here h key least =
    subst (λ cs. LeastRows at cs (rows ++ row ∷ [])) (ap (λ (d : Coming). take i all ++ d ∷ []) here ∙ sym (take_more all i c lt)) (rows_push at (take i all) rows c row h key least)
