-- The spans that stand for all that meet one.
use Rattle.std.proofs.Common.{arith, ◌≡◌, ◌≢◌, ℕ, ◌<◌, ◌≤◌, ◌+◌, ◌-◌, ◌⊎◌, inl, inr, Bool, true, false, List, [], ◌∷◌, ◌++◌, length, slice_index_or, Contains, refl, sym, ap, subst, ◌∙◌}
use Rattle.std.proofs.lemmas.Grind.{common_steps}
use Rattle.std.proofs.lemmas.List.{get_or_default}
use Rattle.std.proofs.lemmas.List.Elements.{Contains-append_left, Contains-push, Contains-push_cases}
use Rattle.std.proofs.lemmas.List.Kept.{IsStrictlySortedBy-filter}
use Rattle.std.proofs.lemmas.Map.Keys.{sorted_tail}
use Rattle.std.proofs.lemmas.Map.Views.{All-after_first, IsInRange-from_range_contains, btree_set_contains_iff}
use Rattle.std.specs.BTreeSet.{BTreeSet}
use Rattle.std.specs.BTreeMap.Range.{IsLeBy, range_contains}
use Rattle.std.specs.List.Sorted.{IsStrictlySortedBy}
use Rattle.std.specs.declared.cmp.Ordering.TheVariants.{Less}
use Rattle.std.specs.declared.ops.Bound.TheVariants.{Included, Unbounded}
use Rattle.geda_geom.specs.declared.conductor.Key.{Key}
use Rattle.touch_index.specs.declared.spans.Mark.{Mark}
use Rattle.touch_index.specs.declared.spans.Span.{Span}
use Rattle.touch_index.specs.declared.spans.SpanSet.{SpanSet}
use Rattle.touch_index.specs.steps.Marks.{by_mark}
use Rattle.touch_index.specs.steps.Spans.{IsKept, mark_at, span_of}
use Rattle.touch_index.specs.steps.Spanning.{AddsMet, AreLater, AreProper, HasAllFound, HasFirstFound, HasFound, HasSpanningTo, IsFirst, IsFound, IsInTime, IsLooking, IsMeeting, IsNext, IsNoLater, IsPushing, IsSpanned, IsWanted, marks_from}
use Rattle.touch_index.proofs.ListLemmas.{earlier_or_here, filter_has, filter_kept, filter_passed, head_is_in, in_cases, none_is_in, tail_is_in}
use Rattle.touch_index.proofs.MarkLemmas.{by_mark_total, exact_marks, is_later}

-- a mark between one that begins from a place on and one that is in time
late_enough : (span : Span) (width from : ℕ) (m : Mark) → m.line ≡ span.line → m.width ≡ width → IsLeBy by_mark (mark_at span width from) m → from ≤ m.from
late_enough span width from m line wide low = grind (arith, common_steps, line, wide, low)

in_time : (span : Span) (width from : ℕ) (m n : Mark) → IsLeBy by_mark (mark_at span width from) m → by_mark m n ≡ Less → IsInTime span width n → IsInTime span width m
in_time span width from m n low less is =
    let line = is.line in
    let wide = is.wide in
    let soon = is.soon in
    let same_line : m.line ≡ span.line = grind (arith, common_steps, low, less, line) in
    let same_width : m.width ≡ width = grind (arith, common_steps, low, less, line, wide, same_line) in
    record {
      line = same_line;
      wide = same_width;
      soon = grind (arith, common_steps, less, line, wide, soon, same_line, same_width);
    }

no_later : (m n : Mark) → m.line ≡ n.line → m.width ≡ n.width → by_mark m n ≡ Less → IsNoLater m n
no_later m n line width less = record {
  from = grind (arith, common_steps, line, width, less);
  long = λ e. grind (arith, common_steps, line, width, e, less);
}

before_or_from : (i from : ℕ) → (i < from) ⊎ (from ≤ i)
before_or_from i from = grind arith

-- more keys stand for no fewer marks
pub spanned_later : (marks : BTreeSet Mark) (span : Span) (own : Key) (old new : List Key) → IsKept old new → (m : Mark) → IsSpanned marks span own old m → IsSpanned marks span own new m
spanned_later marks span own old new kept m is = record {
  other = is.other;
  marked = is.marked;
  apart = is.apart;
  listed = kept is.other.key is.listed;
  near = is.near;
  meets = is.meets;
}

pub found_later : (all : Bool) (marks : BTreeSet Mark) (span : Span) (own : Key) (old new : List Key) → IsKept old new → (m : Mark) → IsFound all marks span own old m → IsFound all marks span own new m
found_later true marks span own old new kept m is = kept m.key is
found_later false marks span own old new kept m is = spanned_later marks span own old new kept m is

pub all_found_later : (all : Bool) (spans : SpanSet) (own : Key) (old new : List Key) → IsKept old new → (span : Span) → HasAllFound all spans own old span → HasAllFound all spans own new span
all_found_later all spans own old new kept span found m known is = found_later all spans.marks span own old new kept m (found m known is)

-- what was added before and what is added later
pub adds_met : (marks : BTreeSet Mark) (span : Span) (own : Key) (old mid new : List Key) → AddsMet marks span own old mid → AddsMet marks span own mid new → AddsMet marks span own old new
adds_met marks span own old mid new first second k c = elim (second k c) [ inl b ↦ first k b | inr is ↦ inr is ]

pub adds_one_met : (marks : BTreeSet Mark) (span : Span) (width from : ℕ) (own : Key) (old keys : List Key) (m : Mark) → IsNext marks span width from own m → span.from ≤ (span_of m).to
    → AddsMet marks span own old keys → AddsMet marks span own old (keys ++ m.key ∷ [])
adds_one_met marks span width from own old keys m next reaches adds k c = elim (Contains-push_cases keys m.key k c) [
  | inl before ↦ adds k before
  | inr e ↦ inr (record {
    mark = m;
    marked = next.marked;
    is = e;
    apart = next.apart;
    near = record { together = sym next.line; before = reaches; after = next.soon };
  })
]

none_later : (marks : BTreeSet Mark) (span : Span) (width from : ℕ) → AreLater marks span width from []
unfolding IsStrictlySortedBy
none_later marks span width from = record { rising = tt; marked = λ n h. none_is_in n h; late = λ n h. none_is_in n h }

module _ (marks : BTreeSet Mark) (span : Span) (width from : ℕ) where
  pub later_begins : (left : List Mark) → IsStrictlySortedBy by_mark marks.keys → left ≡ marks_from marks span width from → AreLater marks span width from left
  later_begins left sorted is = record {
    rising = subst (IsStrictlySortedBy by_mark) (sym is) (IsStrictlySortedBy-filter by_mark near marks.keys sorted);
    marked = λ m has. (btree_set_contains_iff by_mark_total exact_marks marks m).1 (filter_kept near marks.keys m (in_range m has));
    late = λ m has. (IsInRange-from_range_contains by_mark_total (Included (mark_at span width from)) Unbounded m (filter_passed near marks.keys m (in_range m has))).0;
  }
    where
      near : Mark → Bool
      near = range_contains by_mark (Included (mark_at span width from)) Unbounded

      in_range : (m : Mark) → Contains left m → Contains (marks_from marks span width from) m
      in_range m has = subst (λ (ms : List Mark). Contains ms m) is has

  pub later_has : (own : Key) (left : List Mark) → left ≡ marks_from marks span width from → (m : Mark) → IsNext marks span width from own m → Contains left m
  later_has own left is m next =
      subst (λ (ms : List Mark). Contains ms m) (sym is)
      (filter_has (range_contains by_mark (Included (mark_at span width from)) Unbounded) marks.keys m ((btree_set_contains_iff by_mark_total exact_marks marks m).0 next.marked)
      (is_later span width from m (sym next.line) (sym next.wide) next.late))

  module _ (m : Mark) (rest : List Mark) (later : AreLater marks span width from (m ∷ rest)) where
    later_tail : AreLater marks span width from rest
    later_tail = record {
      rising = sorted_tail by_mark m rest later.rising;
      marked = λ n has. later.marked n (tail_is_in m rest n has);
      late = λ n has. later.late n (tail_is_in m rest n has);
    }

    after_first : (n : Mark) → Contains rest n → by_mark m n ≡ Less
    after_first n r = subst (λ (q : Mark). by_mark m q ≡ Less) r.2 (All-after_first by_mark m rest later.rising r.0 n r.1)

    is_next : (own : Key) → IsInTime span width m → m.key ≢ own → IsNext marks span width from own m
    is_next own is apart = record {
      marked = later.marked m (head_is_in m rest);
      line = is.line;
      wide = is.wide;
      late = late_enough span width from m is.line is.wide (later.late m (head_is_in m rest));
      soon = is.soon;
      apart = apart;
    }

    -- what stands behind one that is not in time is not, either
    none_behind : (own : Key) → (IsInTime span width m → ⊥) → (n : Mark) → IsNext marks span width from own n → Contains (m ∷ rest) n → ⊥
    none_behind own none n next has = elim (in_cases m rest n has) [
      | inl e ↦ none (subst (IsInTime span width) (sym e) of_next)
      | inr r ↦ none (in_time span width from m n (later.late m (head_is_in m rest)) (after_first n r) of_next)
    ]
      where
        of_next : IsInTime span width n
        of_next = record { line = next.line; wide = next.wide; soon = next.soon }

module _ (marks : BTreeSet Mark) (span : Span) (width from : ℕ) (own : Key) where
  pub looking_begins : (left : List Mark) → IsStrictlySortedBy by_mark marks.keys → left ≡ marks_from marks span width from → IsLooking marks span width from own left
  looking_begins left sorted is = record {
    later = later_begins marks span width from left sorted is;
    all = λ m next wanted. later_has marks span width from own left is m next;
  }

  pub looking_past : (m : Mark) (rest : List Mark) → (IsWanted span own m → ⊥) → IsLooking marks span width from own (m ∷ rest) → IsLooking marks span width from own rest
  looking_past m rest none looking = record {
    later = later_tail marks span width from m rest looking.later;
    all = λ n next wanted. elim (in_cases m rest n (looking.all n next wanted)) [
      | inl e ↦ absurd (none (subst (IsWanted span own) (sym e) wanted))
      | inr r ↦ r
    ];
  }

  pub looking_finds : (m : Mark) (rest : List Mark) → IsInTime span width m → m.key ≢ own → IsLooking marks span width from own (m ∷ rest) → IsFirst marks span width from own m
  looking_finds m rest in_time apart looking = record {
    next = next;
    first = λ n other wanted. elim (in_cases m rest n (looking.all n other wanted)) [
      | inl e ↦ subst (IsNoLater m) e (record { from = omega arith; long = λ e. omega arith })
      | inr r ↦ no_later m n (next.line ∙ sym other.line) (next.wide ∙ sym other.wide) (after_first marks span width from m rest looking.later n r)
    ];
  }
    where
      next : IsNext marks span width from own m
      next = is_next marks span width from m rest looking.later own in_time apart

  pub looking_stops : (m : Mark) (rest : List Mark) → (IsInTime span width m → ⊥) → IsLooking marks span width from own (m ∷ rest) → (n : Mark) → IsNext marks span width from own n → IsWanted span own n → ⊥
  looking_stops m rest none looking n next wanted = none_behind marks span width from m rest looking.later own none n next (looking.all n next wanted)

  pub looking_ends : IsLooking marks span width from own [] → (m : Mark) → IsNext marks span width from own m → IsWanted span own m → ⊥
  looking_ends looking m next wanted = none_is_in m (looking.all m next wanted)

-- all keys of one width
module _ (marks : BTreeSet Mark) (span : Span) (width : ℕ) (own : Key) (old : List Key) where
  pub pushing_begins : (left : List Mark) → IsLooking marks span width (span.from - width) own left → IsPushing marks span width own old old left
  pushing_begins left looking = record {
    kept = λ k c. c;
    only = λ k c. inl c;
    later = looking.later;
    all = λ m next wanted. inr (looking.all m next wanted);
  }

  module _ (keys : List Key) (m : Mark) (rest : List Mark) (pushing : IsPushing marks span width own old keys (m ∷ rest)) where
    pub pushing_more : IsInTime span width m → IsWanted span own m → IsPushing marks span width own old (keys ++ m.key ∷ []) rest
    pushing_more in_time wanted = record {
      kept = λ k c. Contains-append_left keys (m.key ∷ []) k (pushing.kept k c);
      only = adds_one_met marks span width (span.from - width) own old keys m (is_next marks span width (span.from - width) m rest pushing.later own in_time wanted.apart) wanted.late pushing.only;
      later = later_tail marks span width (span.from - width) m rest pushing.later;
      all = λ n next late. elim (pushing.all n next late) [
        | inl c ↦ inl (Contains-append_left keys (m.key ∷ []) n.key c)
        | inr h ↦ elim (in_cases m rest n h) [
          | inl e ↦ inl (subst (λ (x : Mark). Contains (keys ++ m.key ∷ []) x.key) e (Contains-push keys m.key))
          | inr r ↦ inr r
        ]
      ];
    }

    pub pushing_past : (IsWanted span own m → ⊥) → IsPushing marks span width own old keys rest
    pushing_past none = record {
      kept = pushing.kept;
      only = pushing.only;
      later = later_tail marks span width (span.from - width) m rest pushing.later;
      all = λ n next late. elim (pushing.all n next late) [
        | inl c ↦ inl c
        | inr h ↦ elim (in_cases m rest n h) [ inl e ↦ absurd (none (subst (IsWanted span own) (sym e) late)) | inr r ↦ inr r ]
      ];
    }

    -- none is left behind one that is not in time
    pub pushing_stops : (IsInTime span width m → ⊥) → IsPushing marks span width own old keys []
    pushing_stops none = record {
      kept = pushing.kept;
      only = pushing.only;
      later = none_later marks span width (span.from - width);
      all = λ n next late. elim (pushing.all n next late) [
        | inl c ↦ inl c
        | inr h ↦ absurd (none_behind marks span width (span.from - width) m rest pushing.later own none n next h)
      ];
    }

module _ (marks : BTreeSet Mark) (span : Span) (width : ℕ) (own : Key) where
  to_next : (from : ℕ) (m : Mark) → IsMeeting marks span own m → m.width ≡ width → from ≤ m.from → IsNext marks span width from own m
  to_next from m is wide late = record {
    marked = is.marked;
    line = sym is.meets.together;
    wide = wide;
    late = late;
    soon = is.meets.after;
    apart = is.apart;
  }

  to_wanted : (m : Mark) → IsMeeting marks span own m → IsWanted span own m
  to_wanted m is = record { apart = is.apart; late = is.meets.before }

  pub pushing_ends : (old keys : List Key) → IsPushing marks span width own old keys [] → HasFound true marks span width own keys
  pushing_ends old keys pushing m is wide =
      let long = is.long in
      let meets = is.meets.before in
      elim (pushing.all m (to_next (span.from - width) m is wide (omega (arith, long, meets, wide))) (to_wanted m is)) [
        | inl c ↦ c
        | inr h ↦ none_is_in m h
      ]

  -- what begins more than the width before the span does not meet it
  pub spanning_begins : (keys : List Key) → HasSpanningTo marks span width own keys (span.from - width)
  spanning_begins keys m is wide before = absurd (let long = is.long in let meets = is.meets.before in omega (arith, long, meets, wide, before))

  pub spanning_ends : (keys : List Key) (from : ℕ) → ((m : Mark) → IsNext marks span width from own m → IsWanted span own m → ⊥) → HasSpanningTo marks span width own keys from → HasFound false marks span width own keys
  spanning_ends keys from none all m is wide = elim (before_or_from m.from from) [
    | inl before ↦ all m is wide before
    | inr late ↦ absurd (none m (to_next from m is wide late) (to_wanted m is))
  ]

  module _ (from : ℕ) (first : Mark) (is_first : IsFirst marks span width from own first) where
    -- the longest that begins at a place ends before the span begins, and so do the others
    pub spanning_past : (keys : List Key) → (span_of first).to < span.from → HasSpanningTo marks span width own keys from → HasSpanningTo marks span width own keys (first.from + 1)
    spanning_past keys short all m is wide before = elim (before_or_from m.from from) [
      | inl earlier ↦ all m is wide earlier
      | inr late ↦
          let later = is_first.first m (to_next from m is wide late) (to_wanted m is) in
          let low = later.from in
          let same : first.from ≡ m.from = omega (arith, low, before) in
          let long = later.long same in
          let meets = is.meets.before in
          absurd (omega (arith, short, long, meets))
    ]

    -- what begins before its end meets it
    pub spanning_more : (keys : List Key) → AreProper marks span.line → span.from ≤ (span_of first).to → HasSpanningTo marks span width own keys from
        → HasSpanningTo marks span width own (keys ++ first.key ∷ []) ((span_of first).to + 1)
    spanning_more keys proper reaches all m is wide before = elim (before_or_from m.from from) [
      | inl earlier ↦ more (all m is wide earlier)
      | inr late ↦
          let next = to_next from m is wide late in
          let low = (is_first.first m next (to_wanted m is)).from in
          let own_to = proper m is.marked (sym is.meets.together) in
          record {
            other = first;
            marked = is_first.next.marked;
            apart = is_first.next.apart;
            listed = Contains-push keys first.key;
            near = record { together = sym is_first.next.line; before = reaches; after = is_first.next.soon };
            meets = record {
              together = next.line ∙ sym is_first.next.line;
              before = omega (arith, before);
              after = omega (arith, low, own_to);
            };
          }
    ]
      where
        more : IsSpanned marks span own keys m → IsSpanned marks span own (keys ++ first.key ∷ []) m
        more = spanned_later marks span own keys (keys ++ first.key ∷ []) (λ k c. Contains-append_left keys (first.key ∷ []) k c) m

-- all widths
pub all_found : (all : Bool) (spans : SpanSet) (span : Span) (own : Key) (count : ℕ) (keys : List Key) → length spans.widths.items ≤ count → HasFirstFound all spans span own count keys → HasAllFound all spans own keys span
all_found all spans span own count keys last first m known is =
    first known.0 m.width (let lt = known.1 in omega (arith, lt, last)) known.2 m is refl

-- one width more
pub next_found : (all : Bool) (spans : SpanSet) (span : Span) (own : Key) (count : ℕ) (old new : List Key) (width : ℕ) (d : ℕ) → slice_index_or spans.widths.items count d ≡ width → count < length spans.widths.items
    → HasFirstFound all spans span own count old → IsKept old new → HasFound all spans.marks span width own new → HasFirstFound all spans span own (count + 1) new
next_found all spans span own count old new width d at inside first kept found i w lt here = elim (earlier_or_here i count lt) [
  | inl less ↦ λ m is wide. found_later all spans.marks span own old new kept m (first i w less here m is wide)
  | inr same ↦
      let e : width ≡ w = sym at ∙ get_or_default spans.widths.items count d w inside ∙ ap (λ (j : ℕ). slice_index_or spans.widths.items j w) (sym same) ∙ here in
      subst (λ (x : ℕ). HasFound all spans.marks span x own new) e found
]
