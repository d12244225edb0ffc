-- One conductor of a run leaves a sheet, or comes to one.
use Rattle.std.proofs.Common.{min, ◌^◌, ◌-◌, ◌≡◌, ◌≤◌, ◌+◌, inl, inr, ℕ, suc, None, IsSome, List, [], ◌∷◌, length, arith, refl, sym, ap, subst, ◌∙◌}
use Rattle.std.specs.FinMap.{get, insert, remove}
use Rattle.geda_geom.specs.declared.conductor.Key.{Key}
use Rattle.net_flood.specs.Grouping.{HasSize, IsGroup}
use Rattle.group_runs.specs.Runs.{SheetName, AreFree, AreThere, BySheet, Coming, IsRunBound, Leaving, SizesSum, less, more, sheets_in, sheets_of, with_all, without}
use Rattle.group_runs.specs.Sheets.{HasEntry, KeepsEntries, KeepsOtherSheets, AreKept, IsApart, IsCounted, IsKept, Rows, asked_sum, kept_at, row_at}
use Rattle.group_runs.specs.steps.Running.{IsSumming, Sums, IsInserting, IsRemoving, SetsSheet}
use Rattle.group_runs.proofs.RowLemmas.{entries_kept, same_or_apart, sheet_set}

pub are_kept : (old new : Rows) → ((s : SheetName) → IsKept (row_at old s) → IsKept (row_at new s)) → (ss : List SheetName) → AreKept old ss → AreKept new ss
are_kept old new kept [] h = tt
are_kept old new kept (s ∷ ss) h = (kept s h.0, are_kept old new kept ss h.1)

-- where groups were kept, they are kept after one sheet was set
still_kept : (old new : Rows) (sheet : SheetName) → KeepsOtherSheets sheet old new → IsKept (row_at new sheet) → (s : SheetName) → IsKept (row_at old s) → IsKept (row_at new s)
still_kept old new sheet others kept s h = elim (same_or_apart s sheet) [
  | inl e ↦ subst (λ t. IsKept (row_at new t)) (sym e) kept
  | inr n ↦ subst IsKept (sym (others s n)) h
]

pub removing_begins : (before : Rows) (steps : ℕ) (all : List Leaving) → AreKept before (sheets_of all) → AreThere (kept_at before) all → IsRemoving before before steps steps all all
removing_begins before steps all kept there = record {
  left_kept = kept;
  there = there;
  same = refl;
  kept = λ s h. h;
  others = λ s h. (refl, h);
  entries = λ s h. h;
  owes = λ sum sizes. record { rest = sum; sizes = sizes; few = omega arith };
  later = omega arith;
  counted = λ h. h;
}

module _ (before now : Rows) (sb sn : ℕ) (all : List Leaving) (l : Leaving) (ls : List Leaving) (removing : IsRemoving before now sb sn all (l ∷ ls)) where
  pub next_kept : IsKept (row_at now l.0)
  next_kept = removing.left_kept.0

  pub next_there : IsSome (get (kept_at now l.0) l.1)
  next_there = removing.there.0

  -- the steps of one removal are within what is owed
  pub removal_within : (steps sum : ℕ) → SizesSum (kept_at before) all sum → ((keys : List Key) → IsGroup (kept_at now l.0) l.1 keys → steps ≤ sn + length keys) → steps ≤ sb + sum
  removal_within steps sum sizes few =
      let owes = removing.owes sum sizes in
      let step = few owes.sizes.0 owes.sizes.2 in
      let are = owes.sizes.4 in
      let before_step = owes.few in
      omega arith

  pub removal_apart : (after : Rows) → KeepsOtherSheets l.0 now after → (s : SheetName) → IsApart s (sheets_of all) → row_at after s ≡ row_at before s
  removal_apart after others s h = others s ((removing.others s h).1.0) ∙ (removing.others s h).0

  pub removal_entries : (after : Rows) → KeepsOtherSheets l.0 now after → HasEntry (row_at after l.0) → KeepsEntries before after
  removal_entries after others entry s h = entries_kept now after l.0 others entry s (removing.entries s h)

  pub removing_more : (after : Rows) (steps : ℕ) → SetsSheet l.0 (remove (kept_at now l.0) l.1) after → KeepsOtherSheets l.0 now after → HasEntry (row_at after l.0)
      → ((keys : List Key) → IsGroup (kept_at now l.0) l.1 keys → steps ≤ sn + length keys) → sn ≤ steps → (IsCounted (asked_sum now) sn → IsCounted (asked_sum after) steps) → IsRemoving before after sb steps all ls
  removing_more after steps sets others entry few later counted = record {
    left_kept = are_kept now after (still_kept now after l.0 others sets.kept) (sheets_of ls) removing.left_kept.1;
    there = subst (λ (at : BySheet). AreThere at ls) (sym is) removing.there.1;
    same = ap (λ (at : BySheet). without at ls) is ∙ removing.same;
    kept = λ s h. still_kept now after l.0 others sets.kept s (removing.kept s h);
    others = λ s h. (removal_apart after others s h, (removing.others s h).1.1);
    entries = removal_entries after others entry;
    owes = λ sum sizes.
        let owes = removing.owes sum sizes in
        let step = few owes.sizes.0 owes.sizes.2 in
        let total = owes.sizes.4 in
        let earlier = owes.few in
        record {
          rest = owes.sizes.1;
          sizes = subst (λ (at : BySheet). SizesSum at ls owes.sizes.1) (sym is) owes.sizes.3;
          few = omega arith;
        };
    later = let earlier = removing.later in omega arith;
    counted = λ h. counted (removing.counted h);
  }
    where
      is : kept_at after ≡ less (kept_at now) l
      is = sheet_set now after l.0 (remove (kept_at now l.0) l.1) others sets.are

pub summing_begins : (before : Rows) (steps : ℕ) (all : List Leaving) → AreKept before (sheets_of all) → AreThere (kept_at before) all → IsSumming before before steps steps all all 0
summing_begins before steps all kept there = record {
  removing = removing_begins before steps all kept there;
  sums = record { done = 0; sums = λ rest sizes. let same : rest ≡ 0 + rest = omega arith in subst (SizesSum (kept_at before) all) same sizes; count = omega arith };
}

-- one more size is summed
module _ (before now after : Rows) (all : List Leaving) (l : Leaving) (ls : List Leaving) (sum size : ℕ) (sums : Sums before now all (l ∷ ls) sum) (has : HasSize (kept_at now l.0) l.1 size)
    (is : kept_at after ≡ less (kept_at now) l) where
  pub sums_more : (next : ℕ) → next ≡ min (sum + size) (2 ^ 64 - 1) → Sums before after all ls next
  sums_more next total = record {
    done = sums.done + size;
    sums = λ rest sizes.
        let more : SizesSum (kept_at now) (l ∷ ls) (length has.keys + rest) = (has.keys, rest, has.group, subst (λ (at : BySheet). SizesSum at ls rest) is sizes, refl) in
        let same : sums.done + (length has.keys + rest) ≡ sums.done + size + rest = let count = has.count in omega arith in
        subst (SizesSum (kept_at before) all) same (sums.sums (length has.keys + rest) more);
    count = let was = sums.count in omega arith;
  }

pub sums_end : (before now : Rows) (all : List Leaving) (sum : ℕ) → Sums before now all [] sum → IsRunBound (kept_at before) all 0 sum
sums_end before now all sum sums = record {
  sum = sums.done + 0;
  sizes = sums.sums 0 refl;
  total = let was = sums.count in omega arith;
}

-- with what comes
pub bound_with : (at : BySheet) (leaving : List Leaving) (count sum bound : ℕ) → IsRunBound at leaving 0 sum → bound ≡ min (sum + count) (2 ^ 64 - 1) → IsRunBound at leaving count bound
bound_with at leaving count sum bound is total = record {
  sum = is.sum;
  sizes = is.sizes;
  total = let was = is.total in omega arith;
}

pub inserting_begins : (before : Rows) (steps : ℕ) (all : List Coming) → AreKept before (sheets_in all) → AreFree (kept_at before) all → IsInserting before before steps steps all all
inserting_begins before steps all kept free = record {
  left_kept = kept;
  free = free;
  same = refl;
  kept = λ s h. h;
  others = λ s h. (refl, h);
  entries = λ s h. h;
  few = omega arith;
  later = omega arith;
  counted = λ h. h;
}

module _ (before now : Rows) (sb sn : ℕ) (all : List Coming) (c : Coming) (cs : List Coming) (inserting : IsInserting before now sb sn all (c ∷ cs)) where
  pub place_kept : IsKept (row_at now c.0)
  place_kept = inserting.left_kept.0

  pub next_free : get (kept_at now c.0) c.1.0 ≡ None
  next_free = inserting.free.0

  pub insertion_within : (steps : ℕ) → steps ≤ sn + 1 → steps ≤ sb + length all
  insertion_within steps few = let earlier : sn + suc (length cs) ≤ sb + length all = inserting.few in omega arith

  pub insertion_apart : (after : Rows) → KeepsOtherSheets c.0 now after → (s : SheetName) → IsApart s (sheets_in all) → row_at after s ≡ row_at before s
  insertion_apart after others s h = others s ((inserting.others s h).1.0) ∙ (inserting.others s h).0

  pub insertion_entries : (after : Rows) → KeepsOtherSheets c.0 now after → HasEntry (row_at after c.0) → KeepsEntries before after
  insertion_entries after others entry s h = entries_kept now after c.0 others entry s (inserting.entries s h)

  pub inserting_more : (after : Rows) (steps : ℕ) → SetsSheet c.0 (insert (kept_at now c.0) c.1.0 c.1.1) after → KeepsOtherSheets c.0 now after → HasEntry (row_at after c.0)
      → steps ≤ sn + 1 → sn ≤ steps → (IsCounted (asked_sum now) sn → IsCounted (asked_sum after) steps) → IsInserting before after sb steps all cs
  inserting_more after steps sets others entry few later counted = record {
    left_kept = are_kept now after (still_kept now after c.0 others sets.kept) (sheets_in cs) inserting.left_kept.1;
    free = subst (λ (at : BySheet). AreFree at cs) (sym is) inserting.free.1;
    same = ap (λ (at : BySheet). with_all at cs) is ∙ inserting.same;
    kept = λ s h. still_kept now after c.0 others sets.kept s (inserting.kept s h);
    others = λ s h. (insertion_apart after others s h, (inserting.others s h).1.1);
    entries = insertion_entries after others entry;
    few = let earlier : sn + suc (length cs) ≤ sb + length all = inserting.few in omega arith;
    later = let earlier = inserting.later in omega arith;
    counted = λ h. counted (inserting.counted h);
  }
    where
      is : kept_at after ≡ more (kept_at now) c
      is = sheet_set now after c.0 (insert (kept_at now c.0) c.1.0 c.1.1) others sets.are
