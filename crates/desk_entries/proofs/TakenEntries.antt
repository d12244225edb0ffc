-- Entries that each put another object in the place of one of a project.
use Rattle.std.proofs.Common.{◌≡◌, ◌⊎◌, inl, inr, ⊎_elim, ◌==◌, ◌&&◌, ◌||◌, ℕ, ◌+◌, ◌<◌, ◌≤◌, Bool, true, false, not, List, [], ◌∷◌, ◌++◌, length, map, cond, nat_le, nat_lt, Option, None, Some, IfSome, Ok, Err, refl, sym, ap, subst, ◌∙◌, arith, append_assoc, append-nil, eqb, option_map}
use Rattle.std.specs.List.{list_any, sum_by}
use Rattle.std.specs.FinMap as finite
use Rattle.std.specs.FinMap.{get-insert, len-insert}
use Rattle.std.specs.Str.{bytes_eq}
use Rattle.std.specs.Cmp.{unsigned_ties}
use Rattle.std.proofs.lemmas.Bool.{cases_lt}
use Rattle.std.proofs.lemmas.Bool.Decides.{nat_tests}
use Rattle.std.proofs.lemmas.Cmp.{nat_cmp_total}
use Rattle.std.proofs.lemmas.List.{length-append}
use Rattle.std.proofs.lemmas.List.Sums.{sum_by-cons}
use Rattle.geda_defs.proofs.Bytes.{bytes_true}
use Rattle.geda_grammar.specs.Canonical.{object_text}
use Rattle.geda_grammar.specs.Writable.{ObjectIsWritable}
use Rattle.geda_grammar.specs.declared.kind.ReadKind.TheVariants.{TooLarge}
use Rattle.geda_grammar.proofs.WritingLaws.{object_again}
use Rattle.geda_model.specs.Limits.{most_file_bytes, most_project_text, most_sheets, most_symbols}
use Rattle.geda_model.specs.Sheets.{ObjectData, ObjectIsInRange}
use Rattle.project_model.specs.Changes.{put}
use Rattle.project_model.specs.Projects.{ProjectData}
use Rattle.project_model.specs.declared.change.Placed.{Placed}
use Rattle.project_model.specs.declared.change.Thing.TheVariants as things
use Rattle.project_model.specs.declared.change.Value.TheVariants as values
use Rattle.project_model.proofs.Rows.{ids}
use Rattle.edit_entries.specs.Entries.{EntryData, entry_size}
use Rattle.edit_entries.specs.declared.fault.EditFault.{EditFault}
use Rattle.edit_entries.specs.declared.fault.EditFault.TheVariants as faults
use Rattle.edit_rules.specs.EarlyLines.{bad_text, base_ahead, history_full, last_number, missing, most_entries, most_history_bytes, number_gap, number_reused, serial_of_number, repeated_at, text_fault, fault_when}
use Rattle.edit_rules.specs.EditChanges.{Change, replaced}
use Rattle.edit_rules.specs.Histories.{all_changes, changes, changes_thing, last_place, project, touched}
use Rattle.edit_rules.specs.LateLines.{is_over_full, placed_bytes, project_full, project_text, stale, symbol_bytes, too_many_objects}
use Rattle.edit_rules.specs.Naming.{has_session_number}
use Rattle.edit_rules.specs.Values.{object_value}
use Rattle.edit_rules.specs.Verdicts.{first_of, verdict_lines, verdict, verdict_by}
use Rattle.edit_rules.specs.Weights.{weight}
use Rattle.edit_rules.specs.declared.verdict.Verdict.{Verdict}
use Rattle.edit_rules.specs.declared.verdict.Verdict.TheVariants as verdicts
use Rattle.edit_rules.proofs.Accepting.{sum_push}
use Rattle.edit_rules.proofs.LongerHistories.{changes_push, last_push, project_push}
use Rattle.edit_rules.proofs.ValueLaws.{object_is_value}
use Rattle.edit_rules.proofs.WeightLemmas.{sum_insert}
use Rattle.attr_table.specs.Filling.{component_item, entries_from, component_entry}
use Rattle.attr_table.specs.SheetTables.{Numbered}
use Rattle.desk_entries.specs.steps.RoomForEntries.{IsRoomForEntries, component_bytes, component_size}
use Rattle.desk_entries.specs.TableEntries.{AreAccepted, AreAcceptedToLimit, IsAccepted, IsLimit, IsLimited}
use Rattle.desk_entries.proofs.OrderlyHistories.{last_own, number_push}

-- the text of an object has it as its value, or is too long for a file
pub record IsReadable (o : ObjectData) : Type 0 where
  pub range : ObjectIsInRange o
  pub writable : ObjectIsWritable o

value_again : (o : ObjectData) → IsReadable o
    → (object_value (object_text o) ≡ Ok o) ⊎ (object_value (object_text o) ≡ Err (TooLarge, 1))
value_again o r =
    ⊎_elim
    (λ (lt : most_file_bytes < length (object_text o)). inr ((object_is_value.faulty (object_text o) TooLarge 1).1 (inl (lt, refl, refl))))
    (λ (le : length (object_text o) ≤ most_file_bytes).
    inl ((object_is_value.spelled (object_text o) o).1 (object_again o (record { in_range = r.range; each = r.writable; size = le }))))
    (cases_lt most_file_bytes (length (object_text o)))

-- an object that is to be replaced stands in the sheet, was not touched since the base, and is none of those that follow
pub record Stands (g : List EntryData) (sheet : List ℕ) (base : ℕ) (c : Numbered) (others : List Numbered) : Type 0 where
  pub placed : Placed
  pub there : finite.get (project g).objects c.0 ≡ Some placed
  pub home : placed.sheet ≡ sheet
  pub readable : IsReadable c.1
  pub untouched : IfSome (touched g (things.Object c.0)) (λ k. k < base)
  pub apart : list_any (eqb c.0) (map (λ (d : Numbered). d.0) others) ≡ false

abbrev pub AllStand : List EntryData → List ℕ → ℕ → List Numbered → Type 0
AllStand g sheet base [] = Unit {0}
AllStand g sheet base (c ∷ cs) = Stands g sheet base c cs × AllStand g sheet base cs

-- what the entries of a session may follow
pub record IsReady (g : List EntryData) (sheet session : List ℕ) (number base : ℕ) (cs : List Numbered) : Type 0 where
  pub free : (m : ℕ) → number ≤ m → last_place (has_session_number session m) g ≡ None
  pub next : last_number g session + 1 ≡ number
  pub known : base ≤ length g
  pub few : finite.len (project g).objects ≤ 400000
  pub stand : AllStand g sheet base cs

none_mapped : {X Y : Type 0} (f : X → Y) (o : Option X) → o ≡ None → option_map f o ≡ None
none_mapped f o e = ap (option_map f) e

when_false : (b : Bool) (f : EditFault) → b ≡ false → fault_when b f ≡ None
when_false b f e = ap (λ (t : Bool). fault_when t f) e

or_parts : (a b : Bool) → (a || b) ≡ false → (a ≡ false) × (b ≡ false)
or_parts true b e = absurd (cc e)
or_parts false b e = (refl, e)

turned : (m n : ℕ) → eqb m n ≡ false → eqb n m ≡ false
turned m n e = grind (arith, nat_tests, e)

and_none : (b : Bool) → (b && false) ≡ false
and_none true = refl
and_none false = refl

or_two : (a b : Bool) → a ≡ false → b ≡ false → (a || b) ≡ false
or_two true b p q = p
or_two false b p q = q

not_le : (m n : ℕ) → n < m → nat_le m n ≡ false
not_le m n lt = grind (arith, nat_tests, lt)

not_lt : (m n : ℕ) → n ≤ m → nat_lt m n ≡ false
not_lt m n le = grind (arith, nat_tests, le)

-- sums of which a part is put in
part_of : (a b part rest most : ℕ) → a + b ≤ most → b ≡ part + rest → a + part ≤ most
part_of a b part rest most le is = omega (arith, le, is)

part_moved : (a more b part rest most : ℕ) → a + b ≤ most → b ≡ part + rest → more ≤ a + part → more + rest ≤ most
part_moved a more b part rest most le is few = omega (arith, le, is, few)

with_others : (a b others gone more : ℕ) → a + gone ≡ b + more → a + others ≤ (b + others) + more
with_others a b others gone more is = omega (arith, is)

-- lines of which three may hold
three : (a b c : Option EditFault)
    → first_of (None ∷ None ∷ None ∷ a ∷ None ∷ b ∷ None ∷ None ∷ None ∷ None ∷ None ∷ None ∷ None ∷ None ∷ None ∷ None ∷ c ∷ []) ≡ first_of (a ∷ b ∷ c ∷ [])
three None None c = refl
three None (Some g) c = refl
three (Some f) b c = refl

module _ (g : List EntryData) (sheet session : List ℕ) (number base : ℕ) (c : Numbered) (cs : List Numbered) (r : IsReady g sheet session number base (c ∷ cs)) where
  abbrev e : EntryData
  e = component_entry session number base c

  own : Stands g sheet base c cs
  own = r.stand.0

  free : serial_of_number g e ≡ None
  free = r.free number (omega arith)

  none_stale : stale g e ≡ None
  none_stale = by (touched g (things.Object c.0)) refl own.untouched
    where
      by : (o : Option ℕ) → touched g (things.Object c.0) ≡ o → IfSome o (λ k. k < base) → stale g e ≡ None
      by None is lt = rw is refl
      by (Some k) is lt = let low : nat_le base k ≡ false = grind (arith, nat_tests, lt) in rw is (rw low refl)

  none_missing : missing (project g) (length g) e.edit ≡ None
  none_missing = rw own.there refl

  same_number : (m n : ℕ) → m + 1 ≡ n → not (n == m + 1) ≡ false
  same_number m n is = grind (arith, nat_tests, is)

  -- the change, where the text has the object as its value
  taken_change : object_value (object_text c.1) ≡ Ok c.1 → changes g e.edit ≡ component_item sheet c ∷ []
  taken_change is =
      (λ i. replaced c.0 (own.there i) (is i))
      ∙ ap (λ (name : List ℕ). (things.Object c.0, Some (values.Object (record { sheet = name; object = c.1 }))) ∷ []) own.home

  -- the project then has as many objects
  as_many : finite.len (put (project g) (component_item sheet c ∷ [])).objects ≡ finite.len (project g).objects
  as_many =
      let placed : Placed = record { sheet = sheet; object = c.1 } in
      let there : finite.contains_key (project g).objects c.0 ≡ true = rw own.there refl in
      len-insert nat_cmp_total (project g).objects c.0 placed
      ∙ ap (λ (b : Bool). cond b (finite.len (project g).objects) (finite.len (project g).objects + 1)) there

  none_many : changes g e.edit ≡ component_item sheet c ∷ [] → too_many_objects (put (project g) (changes g e.edit)) ≡ None
  none_many is =
      let few : finite.len (put (project g) (changes g e.edit)).objects ≤ 400000 =
      subst (λ (d : Change). finite.len (put (project g) d).objects ≤ 400000) (sym is) (subst (λ (n : ℕ). n ≤ 400000) (sym as_many) r.few) in
      when_false _ _ (grind (arith, nat_tests, few))

  full_or : (history_full g e ≡ None) ⊎ (history_full g e ≡ Some faults.HistoryFull)
  full_or = by (nat_le most_entries (length g) || nat_lt most_history_bytes (sum_by entry_size g + entry_size e))
    where
      by : (b : Bool) → (fault_when b faults.HistoryFull ≡ None) ⊎ (fault_when b faults.HistoryFull ≡ Some faults.HistoryFull)
      by true = inr refl
      by false = inl refl

  over_or : (p : ProjectData) → (project_full p ≡ None) ⊎ (project_full p ≡ Some faults.ProjectFull)
  over_or p = by (is_over_full p)
    where
      by : (b : Bool) → (fault_when b faults.ProjectFull ≡ None) ⊎ (fault_when b faults.ProjectFull ≡ Some faults.ProjectFull)
      by true = inr refl
      by false = inl refl

  -- a verdict by the three lines
  judged : too_many_objects (put (project g) (changes g e.edit)) ≡ None
      → verdict g e ≡ verdict_by None (first_of (history_full g e ∷ bad_text e.edit ∷ project_full (put (project g) (changes g e.edit)) ∷ [])) (changes g e.edit)
  judged many =
      let a : number_reused g e ≡ None = none_mapped faults.NumberReused (serial_of_number g e) free in
      let b : number_gap g e ≡ None = when_false _ _ (same_number (last_number g session) number r.next) in
      let low : nat_lt (length g) base ≡ false = (let k = r.known in grind (arith, nat_tests, k)) in
      let d : base_ahead g e ≡ None = when_false _ _ low in
      let over = project_full (put (project g) (changes g e.edit)) in
      let all : first_of (verdict_lines g e) ≡ first_of (history_full g e ∷ bad_text e.edit ∷ over ∷ []) =
      (λ i. first_of (a i ∷ b i ∷ d i ∷ history_full g e ∷ none_missing i ∷ bad_text e.edit ∷ None ∷ None ∷ none_stale i ∷ None ∷ None ∷ None ∷ None ∷ None ∷ None ∷ many i ∷ over ∷ []))
      ∙ three (history_full g e) (bad_text e.edit) over in
      (λ i. verdict_by (repeated_at g e (free i)) (all i) (changes g e.edit))

  -- the entry is taken with its change, or refused for a limit
  record IsTaken : Type 0 where
    follows : verdict g e ≡ verdicts.Accept (record { items = changes g e.edit })
    change : changes g e.edit ≡ component_item sheet c ∷ []

  refused_by : (fault : EditFault) (change : Change) → IsLimit fault → verdict g e ≡ verdict_by None (Some fault) change → IsLimited (verdict g e)
  refused_by fault change limit is = subst IsLimited (sym is) limit

  taken_or_limited : IsTaken ⊎ IsLimited (verdict g e)
  taken_or_limited = ⊎_elim good long (value_again c.1 own.readable)
    where
      good : object_value (object_text c.1) ≡ Ok c.1 → IsTaken ⊎ IsLimited (verdict g e)
      good is =
          let change = taken_change is in
          let v = judged (none_many change) in
          let text : bad_text e.edit ≡ None = ap text_fault is in
          let p = put (project g) (changes g e.edit) in
          ⊎_elim
          (λ (a : history_full g e ≡ None). ⊎_elim
          (λ (o : project_full p ≡ None).
          inl (record { follows = v ∙ (λ i. verdict_by None (first_of (a i ∷ text i ∷ o i ∷ [])) (changes g e.edit)); change = change }))
          (λ (o : project_full p ≡ Some faults.ProjectFull).
          inr (refused_by faults.ProjectFull (changes g e.edit) tt (v ∙ (λ i. verdict_by None (first_of (a i ∷ text i ∷ o i ∷ [])) (changes g e.edit)))))
          (over_or p))
          (λ (a : history_full g e ≡ Some faults.HistoryFull).
          inr (refused_by faults.HistoryFull (changes g e.edit) tt (v ∙ (λ i. verdict_by None (first_of (a i ∷ bad_text e.edit ∷ project_full p ∷ [])) (changes g e.edit)))))
          full_or

      long : object_value (object_text c.1) ≡ Err (TooLarge, 1) → IsTaken ⊎ IsLimited (verdict g e)
      long is =
          let none : changes g e.edit ≡ [] = (λ i. replaced c.0 (own.there i) (is i)) in
          let few : finite.len (put (project g) (changes g e.edit)).objects ≤ 400000 =
          subst (λ (d : Change). finite.len (put (project g) d).objects ≤ 400000) (sym none) r.few in
          let many : too_many_objects (put (project g) (changes g e.edit)) ≡ None = when_false _ _ (grind (arith, nat_tests, few)) in
          let v = judged many in
          let text : bad_text e.edit ≡ Some (faults.BadText TooLarge 1) = ap text_fault is in
          let over = project_full (put (project g) (changes g e.edit)) in
          ⊎_elim
          (λ (a : history_full g e ≡ None).
          inr (refused_by (faults.BadText TooLarge 1) (changes g e.edit) tt (v ∙ (λ i. verdict_by None (first_of (a i ∷ text i ∷ over ∷ [])) (changes g e.edit)))))
          (λ (a : history_full g e ≡ Some faults.HistoryFull).
          inr (refused_by faults.HistoryFull (changes g e.edit) tt (v ∙ (λ i. verdict_by None (first_of (a i ∷ bad_text e.edit ∷ over ∷ [])) (changes g e.edit)))))
          full_or

  -- the texts of the project then
  text_after : project_text (put (project g) (component_item sheet c ∷ [])) ≤ project_text (project g) + component_bytes c
  text_after =
      let placed : Placed = record { sheet = sheet; object = c.1 } in
      let p = project g in
      with_others (sum_by placed_bytes (finite.values (finite.insert p.objects c.0 placed))) (sum_by placed_bytes (finite.values p.objects))
      (sum_by symbol_bytes (finite.values p.symbols)) (weight placed_bytes (finite.get p.objects c.0)) (component_bytes c)
      (sum_insert ids placed_bytes p.objects c.0 placed)

  module _ (room : IsRoomForEntries g session (c ∷ cs)) where
    not_full : history_full g e ≡ None
    not_full =
        when_false _ faults.HistoryFull
        (or_two (nat_le most_entries (length g)) (nat_lt most_history_bytes (sum_by entry_size g + entry_size e))
        (not_le most_entries (length g) (let few = room.entries in omega (arith, few)))
        (not_lt most_history_bytes (sum_by entry_size g + entry_size e)
        (part_of (sum_by entry_size g) (sum_by (component_size session) (c ∷ cs)) (entry_size e) (sum_by (component_size session) cs) most_history_bytes room.bytes (sum_by-cons (component_size session) c cs))))

    not_over : project_full (put (project g) (component_item sheet c ∷ [])) ≡ None
    not_over =
        let p = put (project g) (component_item sheet c ∷ []) in
        let texts : project_text p + sum_by component_bytes cs ≤ most_project_text =
        part_moved (project_text (project g)) (project_text p) (sum_by component_bytes (c ∷ cs)) (component_bytes c) (sum_by component_bytes cs) most_project_text room.text (sum_by-cons component_bytes c cs) text_after in
        when_false _ faults.ProjectFull
        (or_two (nat_lt most_sheets (finite.len p.sheets)) (nat_lt most_symbols (finite.len p.symbols) || nat_lt most_project_text (project_text p))
        (not_lt most_sheets (finite.len p.sheets) room.sheets)
        (or_two (nat_lt most_symbols (finite.len p.symbols)) (nat_lt most_project_text (project_text p))
        (not_lt most_symbols (finite.len p.symbols) room.symbols)
        (not_lt most_project_text (project_text p) (omega (arith, texts)))))

    -- where there is room, the entry is taken
    taken : IsTaken
    taken =
        let is : object_value (object_text c.1) ≡ Ok c.1 =
        (object_is_value.spelled (object_text c.1) c.1).1 (object_again c.1 (record { in_range = own.readable.range; each = own.readable.writable; size = room.each.0 })) in
        let change = taken_change is in
        let text : bad_text e.edit ≡ None = ap text_fault is in
        let over : project_full (put (project g) (changes g e.edit)) ≡ None = ap (λ (d : Change). project_full (put (project g) d)) change ∙ not_over in
        record {
          follows = judged (none_many change) ∙ (λ i. verdict_by None (first_of (not_full i ∷ text i ∷ over i ∷ [])) (changes g e.edit));
          change = change;
        }

  -- what the next entries may follow
  module _ (change : changes g e.edit ≡ component_item sheet c ∷ []) where
    longer : project (g ++ e ∷ []) ≡ put (project g) (component_item sheet c ∷ [])
    longer = project_push g e ∙ ap (put (project g)) change

    kept_object : (id : ℕ) → eqb id c.0 ≡ false → finite.get (project (g ++ e ∷ [])).objects id ≡ finite.get (project g).objects id
    kept_object id other =
        ap (λ (q : ProjectData). finite.get q.objects id) longer
        ∙ get-insert nat_cmp_total (project g).objects c.0 (record { sheet = sheet; object = c.1 }) id
        ∙ ap (λ (b : Bool). cond b (Some (record { sheet = sheet; object = c.1 })) (finite.get (project g).objects id)) (sym (unsigned_ties id c.0) ∙ other)

    kept_touch : (id : ℕ) → eqb id c.0 ≡ false → touched (g ++ e ∷ []) (things.Object id) ≡ touched g (things.Object id)
    kept_touch id other =
        let thing = things.Object id in
        let off : changes_thing thing (changes g e.edit) ≡ false = ap (changes_thing thing) change ∙ ap (λ (b : Bool). b || false) other in
        ap (last_place (changes_thing thing)) (changes_push g e)
        ∙ last_push (changes_thing thing) (all_changes g) (changes g e.edit)
        ∙ ap (λ (b : Bool). cond b (Some (length (all_changes g))) (last_place (changes_thing thing) (all_changes g))) off

    still : (d : Numbered) (ds : List Numbered) → eqb d.0 c.0 ≡ false → Stands g sheet base d ds → Stands (g ++ e ∷ []) sheet base d ds
    still d ds other s = record {
      placed = s.placed;
      there = kept_object d.0 other ∙ s.there;
      home = s.home;
      readable = s.readable;
      untouched = subst (λ (o : Option ℕ). IfSome o (λ k. k < base)) (sym (kept_touch d.0 other)) s.untouched;
      apart = s.apart;
    }

    all_still : (ds : List Numbered) → list_any (eqb c.0) (map (λ (d : Numbered). d.0) ds) ≡ false → AllStand g sheet base ds → AllStand (g ++ e ∷ []) sheet base ds
    all_still [] off s = tt
    all_still (d ∷ ds) off s =
        let parts = or_parts (eqb c.0 d.0) (list_any (eqb c.0) (map (λ (x : Numbered). x.0) ds)) off in
        (still d ds (turned c.0 d.0 parts.0) s.0, all_still ds parts.1 s.1)

    ready_next : IsReady (g ++ e ∷ []) sheet session (number + 1) base cs
    ready_next = record {
      free = λ m le. number_push g e session m (other_number m le) (r.free m (omega arith));
      next = ap (λ (n : ℕ). n + 1) (last_own g e session (bytes_true session session refl));
      known = (let k = r.known in omega (arith, k, length-append g (e ∷ [])));
      few = subst (λ (q : ProjectData). finite.len q.objects ≤ 400000) (sym longer) (subst (λ (n : ℕ). n ≤ 400000) (sym as_many) r.few);
      stand = all_still cs own.apart r.stand.1;
    }
      where
        other_number : (m : ℕ) → number + 1 ≤ m → has_session_number session m e ≡ false
        other_number m le = let off : (number == m) ≡ false = grind (arith, nat_tests, le) in ap (λ (b : Bool). bytes_eq session session && b) off ∙ and_none (bytes_eq session session)

    room_next : IsRoomForEntries g session (c ∷ cs) → IsRoomForEntries (g ++ e ∷ []) session cs
    room_next room = record {
      entries = (let few = room.entries in omega (arith, few, length-append g (e ∷ [])));
      bytes = (let more = sum_push g e in
          part_moved (sum_by entry_size g) (sum_by entry_size (g ++ e ∷ [])) (sum_by (component_size session) (c ∷ cs)) (entry_size e) (sum_by (component_size session) cs) most_history_bytes
          room.bytes (sum_by-cons (component_size session) c cs) (omega (arith, more)));
      sheets = subst (λ (p : ProjectData). finite.len p.sheets ≤ most_sheets) (sym longer) room.sheets;
      symbols = subst (λ (p : ProjectData). finite.len p.symbols ≤ most_symbols) (sym longer) room.symbols;
      text = subst (λ (p : ProjectData). project_text p + sum_by component_bytes cs ≤ most_project_text) (sym longer)
          (part_moved (project_text (project g)) (project_text (put (project g) (component_item sheet c ∷ []))) (sum_by component_bytes (c ∷ cs)) (component_bytes c) (sum_by component_bytes cs) most_project_text
          room.text (sum_by-cons component_bytes c cs) text_after);
      each = room.each.1;
    }

not_both : (v : Verdict) → IsAccepted v → IsLimited v → ⊥
not_both (verdicts.Accept change) a b = b
not_both (verdicts.Refused fault) a b = a
not_both (verdicts.Repeat serial) a b = a

-- entries in order are accepted, up to a limit
pub all_accepted : (g : List EntryData) (sheet session : List ℕ) (number base : ℕ) (cs : List Numbered) → IsReady g sheet session number base cs
    → AreAcceptedToLimit g (entries_from session number base cs)
all_accepted g sheet session number base [] r = tt
all_accepted g sheet session number base (c ∷ cs) r =
    ⊎_elim
    (λ (t : IsTaken g sheet session number base c cs r).
    inl (
      subst IsAccepted (sym t.follows) tt,
      all_accepted (g ++ component_entry session number base c ∷ []) sheet session (number + 1) base cs (ready_next g sheet session number base c cs r t.change),
    ))
    (λ (limited : IsLimited (verdict g (component_entry session number base c))). inr limited)
    (taken_or_limited g sheet session number base c cs r)

-- where all are, each object is in its place
pub all_made : (g : List EntryData) (sheet session : List ℕ) (number base : ℕ) (cs : List Numbered) → IsReady g sheet session number base cs
    → AreAccepted g (entries_from session number base cs)
    → project (g ++ entries_from session number base cs) ≡ put (project g) (map (component_item sheet) cs)
all_made g sheet session number base [] r a = ap project (append-nil g)
all_made g sheet session number base (c ∷ cs) r a =
    ⊎_elim
    (λ (t : IsTaken g sheet session number base c cs r).
    let e = component_entry session number base c in
    ap project (sym (append_assoc g (e ∷ []) (entries_from session (number + 1) base cs)))
    ∙ all_made (g ++ e ∷ []) sheet session (number + 1) base cs (ready_next g sheet session number base c cs r t.change) a.1
    ∙ ap (λ (q : ProjectData). put q (map (component_item sheet) cs)) (longer g sheet session number base c cs r t.change))
    (λ (limited : IsLimited (verdict g (component_entry session number base c))). absurd (not_both _ a.0 limited))
    (taken_or_limited g sheet session number base c cs r)

-- where there is room for all, all are accepted
pub all_taken : (g : List EntryData) (sheet session : List ℕ) (number base : ℕ) (cs : List Numbered) → IsReady g sheet session number base cs
    → IsRoomForEntries g session cs → AreAccepted g (entries_from session number base cs)
all_taken g sheet session number base [] r room = tt
all_taken g sheet session number base (c ∷ cs) r room =
    let t = taken g sheet session number base c cs r room in (
      subst IsAccepted (sym t.follows) tt,
      all_taken (g ++ component_entry session number base c ∷ []) sheet session (number + 1) base cs (ready_next g sheet session number base c cs r t.change)
          (room_next g sheet session number base c cs r t.change room),
    )
