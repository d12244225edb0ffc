-- The entries of a table act once on the project of a legal history.
use Rattle.std.proofs.Common.{◌≡◌, ℕ, ◌+◌, Bool, true, false, not, List, [], ◌∷◌, ◌++◌, length, map, option_map, None, refl, sym, subst, arith}
use Rattle.std.specs.Prelude.{codes}
use Rattle.std.specs.List.{AllByRecursion, flat_map, list_all}
use Rattle.std.specs.Str.{bytes_eq, is_utf8}
use Rattle.geda_grammar.specs.Canonical.{object_text}
use Rattle.geda_grammar.specs.Writable.{BodyIsWritable}
use Rattle.geda_grammar.proofs.WritingLaws.{object_again}
use Rattle.geda_model.specs.Sheets.{ObjectIsInRange}
use Rattle.project_model.specs.Changes.{put}
use Rattle.project_model.specs.Projects.{ProjectData}
use Rattle.project_model.specs.declared.change.Thing.TheVariants as things
use Rattle.edit_entries.specs.Entries.{EntryData}
use Rattle.edit_rules.specs.EarlyLines.{last_number}
use Rattle.edit_rules.specs.Histories.{project}
use Rattle.edit_rules.specs.Verdicts.{Legal}
use Rattle.edit_rules.proofs.LongerHistories.{touched_small}
use Rattle.edit_rules.proofs.ValueLaws.{object_is_value}
use Rattle.attr_table.specs.declared.fault.TableFault.{TableFault}
use Rattle.attr_table.specs.declared.fault.TableFault.TheVariants as faults
use Rattle.attr_table.specs.Filling.{component_item, entries_from, filled, filled_components, table_entries}
use Rattle.attr_table.specs.Records.{Record, each_after, first_record_field, later_fields}
use Rattle.attr_table.specs.SheetTables.{Numbered}
use Rattle.attr_table.specs.TableFaults.{bad_name_column, has_no_text, head_faults, row_faults, table_fault, fault_if}
use Rattle.attr_table.proofs.FewLemmas.{good_rows, head_none, no_fault_left}
use Rattle.desk_entries.specs.Putting.{put_all}
use Rattle.desk_entries.specs.ReadAgain.{AreReadAgain}
use Rattle.desk_entries.specs.steps.RoomForEntries.{IsRoomForEntries}
use Rattle.desk_entries.specs.TableEntries.{ActOnce}
use Rattle.desk_entries.specs.steps.Ranges.{AreInRange}
use Rattle.desk_entries.proofs.AcceptedEntries.{all_put}
use Rattle.desk_entries.proofs.FilledComponents.{AreFilled, IsFilled, rows_filled}
use Rattle.desk_entries.proofs.OrderlyHistories.{orderly}
use Rattle.desk_entries.proofs.RepeatedEntries.{repeat}
use Rattle.desk_entries.proofs.TakenEntries.{AllStand, IsReady, all_accepted, all_made, all_taken}
use Rattle.desk_entries.proofs.WritableHistories.{all_writable}

when_none : (b : Bool) (fault : TableFault) → fault_if b fault ≡ None → b ≡ false
when_none true fault e = absurd (cc e)
when_none false fault e = refl

not_not : (b : Bool) → not b ≡ false → b ≡ true
not_not true e = refl
not_not false e = absurd (cc e)

-- the first record is text
head_text : (p : ProjectData) (sheet : List ℕ) (head : Record) (rows : List Record) → table_fault p sheet (head ∷ rows) ≡ None → list_all is_utf8 head ≡ true
unfolding table_fault
head_text p sheet head rows e =
    let own = (no_fault_left (head_faults head) (flat_map (row_faults p sheet head) (each_after (head ∷ []) rows)) e).0 in
    let names = option_map faults.BadName (bad_name_column (later_fields head)) ∷ [] in
    let no_text = fault_if (has_no_text head) (faults.NotUtf8 1) in
    let others = (head_none (fault_if (not (bytes_eq (first_record_field head) (codes "id"))) faults.NoHeader) (no_text ∷ names) own).1 in
    let text = (head_none no_text names others).0 in
    not_not (list_all is_utf8 head) (when_none (has_no_text head) (faults.NotUtf8 1) text)

pub are_filled : (p : ProjectData) (sheet : List ℕ) (records : List Record) → table_fault p sheet records ≡ None → AreFilled p sheet (filled_components p sheet records)
are_filled p sheet [] e = tt
are_filled p sheet (head ∷ rows) e = rows_filled p sheet head (head ∷ []) rows (head_text p sheet head rows e) (good_rows p sheet head rows e)

-- a component is in its ranges
abbrev pub IsInItsRanges : Numbered → Type 0
IsInItsRanges c = ObjectIsInRange c.1

in_their_ranges : (p : ProjectData) (sheet : List ℕ) (cs : List Numbered) → AreInRange p → AreFilled p sheet cs → AllByRecursion IsInItsRanges cs
in_their_ranges p sheet [] range f = tt
in_their_ranges p sheet (c ∷ cs) range f =
    let own : IsFilled p sheet c = f.0.0 in
    (own.range (range c.0 own.small own.placed own.there), in_their_ranges p sheet cs range f.1)

all_stand : (h : List EntryData) (sheet : List ℕ) (cs : List Numbered) → AllByRecursion IsInItsRanges cs → AreFilled (project h) sheet cs → AllStand h sheet (length h) cs
all_stand h sheet [] range f = tt
all_stand h sheet (c ∷ cs) range f =
    let own : IsFilled (project h) sheet c = f.0.0 in (
      record {
        placed = own.placed;
        there = own.there;
        home = own.home;
        readable = record {
          range = range.0;
          writable = subst BodyIsWritable (sym own.body) (all_writable h c.0 own.placed own.there);
        };
        untouched = touched_small h (things.Object c.0) (length h) (omega arith);
        apart = f.0.1;
      },
      all_stand h sheet cs range.1 f.1,
    )

ready : (h : List EntryData) (sheet session : List ℕ) (first : ℕ) (cs : List Numbered) → Legal h → AllByRecursion IsInItsRanges cs → last_number h session + 1 ≡ first
    → AreFilled (project h) sheet cs → IsReady h sheet session first (length h) cs
ready h sheet session first cs legal range next f =
    let o = orderly h legal in
    record {
      free = λ m le. o.above session m (omega (arith, next, le));
      next = next;
      known = omega arith;
      few = o.few;
      stand = all_stand h sheet cs range f;
    }

-- what is written of an object of a history reads as that object
pub read_again : (h : List EntryData) → AreInRange (project h) → AreReadAgain (project h)
read_again h range id placed small there short =
    (object_is_value.spelled (object_text placed.object) placed.object).1
    (object_again placed.object (record { in_range = range id small placed there; each = all_writable h id placed there; size = short }))

pub acts_once : (h : List EntryData) (sheet session : List ℕ) (records : List Record) (first : ℕ) → Legal h → AreInRange (project h)
    → last_number h session + 1 ≡ first → table_fault (project h) sheet records ≡ None
    → ActOnce h (table_entries (project h) sheet records session first (length h)) (filled (project h) sheet records)
unfolding table_entries filled
acts_once h sheet session records first legal range next faultless =
    let cs = filled_components (project h) sheet records in
    let filled = are_filled (project h) sheet records faultless in
    let r = ready h sheet session first cs legal (in_their_ranges (project h) sheet cs range filled) next filled in
    record {
      accepted = all_accepted h sheet session first (length h) cs r;
      made = all_made h sheet session first (length h) cs r;
      again = λ a k e at. repeat h session first (length h) cs k e at;
    }

-- entries come behind a history, and the project is then the one that is meant
pub record ArePut (h es : List EntryData) (meant : ProjectData) : Type 0 where
  pub put : put_all h es ≡ (h ++ es, None)
  pub made : project (h ++ es) ≡ meant

-- so do those of components for which there is room
pub put_with_room : (h : List EntryData) (sheet session : List ℕ) (first : ℕ) (cs : List Numbered) → Legal h → AllByRecursion IsInItsRanges cs
    → last_number h session + 1 ≡ first → AreFilled (project h) sheet cs → IsRoomForEntries h session cs
    → ArePut h (entries_from session first (length h) cs) (put (project h) (map (component_item sheet) cs))
put_with_room h sheet session first cs legal range next f room =
    let r = ready h sheet session first cs legal range next f in
    let all = all_taken h sheet session first (length h) cs r room in
    record {
      put = all_put h (entries_from session first (length h) cs) all;
      made = all_made h sheet session first (length h) cs r all;
    }
