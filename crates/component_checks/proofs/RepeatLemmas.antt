-- What is found by sets of refdes and slots is what is found.
use Rattle.std.proofs.Common.{◌≡◌, ◌∙◌, ℕ, Bool, true, false, not, ◌&&◌, cond, List, ◌++◌, Option, Some, None, refl, ap, sym, append_assoc}
use Rattle.std.specs.Prelude.{is_some}
use Rattle.std.specs.List.{filter_map, flat_map, list_any}
use Rattle.std.specs.Str.{bytes_eq}
use Rattle.printed_texts.specs.PrintedTexts.{two_words, word}
use Rattle.text_tallies.specs.PairSets.{PairData, has_pair, same_pair}
use Rattle.text_tallies.specs.TwoOfAList.{two_pass}
use Rattle.text_tallies.proofs.ListLemmas.{flat_map_same}
use Rattle.text_tallies.proofs.PairLemmas.{any_filter, any_same, clash_is, passes, two_pass_filter, two_pass_same}
use Rattle.text_tallies.specs.Levels.{found_if}
use Rattle.drc_findings.specs.declared.rule.Rule.TheVariants as drc
use Rattle.drc_findings.specs.declared.finding.Finding.{Finding}
use Rattle.drc_findings.specs.Findings.{an_error}
use Rattle.component_checks.specs.CheckedComponents.{CheckedData}
use Rattle.component_checks.specs.OnComponents.{checked_refdes, duplicate_refdes, duplicate_slot, found_on, found_on_components, is_duplicate, is_duplicate_slot, is_numbered_as, is_numbered_component, is_open_refdes, is_slotted_as, is_whole, slot_of, text_or_empty}
use Rattle.component_checks.specs.declared.repeats.Repeats.{Repeats}
use Rattle.component_checks.specs.steps.FoundBy.{duplicate_by, duplicate_slot_by, found_by, is_duplicate_by, is_duplicate_slot_by}
use Rattle.component_checks.specs.steps.Repeats.{AreRepeats, numbered_name, pair_if, slotted_pair, whole_name}

-- a refdes that is there under a condition
name_if : (q : List ℕ) (refdes : Option (List ℕ)) (b : Bool)
    → passes (bytes_eq q) (cond (is_some refdes && b) refdes None) ≡ ((is_some refdes && b) && bytes_eq q (text_or_empty refdes))
name_if q None b = refl
name_if q (Some text) true = refl
name_if q (Some text) false = refl

-- the same under one more condition
whole_if : (q : List ℕ) (refdes : Option (List ℕ)) (b w : Bool)
    → passes (bytes_eq q) (cond w (cond (is_some refdes && b) refdes None) None)
    ≡ (((is_some refdes && b) && bytes_eq q (text_or_empty refdes)) && w)
whole_if q None b true = refl
whole_if q None b false = refl
whole_if q (Some text) true true = by (bytes_eq q text)
  where
    by : (e : Bool) → e ≡ (e && true)
    by true = refl
    by false = refl
whole_if q (Some text) true false = by (bytes_eq q text)
  where
    by : (e : Bool) → false ≡ (e && false)
    by true = refl
    by false = refl
whole_if q (Some text) false true = refl
whole_if q (Some text) false false = refl

-- a refdes and a slot that are there under a condition
pair_is : (q : PairData) (refdes slot : Option (List ℕ)) (b : Bool)
    → passes (same_pair q) (cond (is_some refdes && b) (pair_if refdes slot) None)
    ≡ ((is_some refdes && b) && (is_some slot && (bytes_eq q.first (text_or_empty refdes) && bytes_eq q.second (text_or_empty slot))))
pair_is q None slot b = refl
pair_is q (Some text) None true = refl
pair_is q (Some text) (Some slot) true = refl
pair_is q (Some text) slot false = refl

-- four lists and more behind them
behind : (a b c d e : List Finding) → (a ++ (b ++ (c ++ d))) ++ e ≡ a ++ (b ++ (c ++ (d ++ e)))
behind a b c d e = append_assoc a (b ++ (c ++ d)) e ∙ ap (λ (l : List Finding). a ++ l) (append_assoc b (c ++ d) e ∙ ap (λ (l : List Finding). b ++ l) (append_assoc c d e))

module _ (cs : List CheckedData) (repeats : Repeats) (are : AreRepeats cs repeats) where
  numbered_is : (q : List ℕ) → two_pass (bytes_eq q) (filter_map numbered_name cs) ≡ two_pass (is_numbered_as q) cs
  numbered_is q =
      two_pass_filter numbered_name (bytes_eq q) cs
      ∙ two_pass_same (λ c. passes (bytes_eq q) (numbered_name c)) (is_numbered_as q) (λ c. name_if q c.refdes _) cs

  whole_is : (q : List ℕ) → list_any (bytes_eq q) (filter_map whole_name cs) ≡ list_any (λ c. is_numbered_as q c && is_whole c) cs
  whole_is q =
      any_filter whole_name (bytes_eq q) cs
      ∙ any_same (λ c. passes (bytes_eq q) (whole_name c)) (λ c. is_numbered_as q c && is_whole c) (λ c. whole_if q c.refdes _ (is_whole c)) cs

  slotted_is : (q : PairData) → has_pair repeats.slotted q ≡ two_pass (is_slotted_as q.first q.second) cs
  slotted_is q =
      are.slotted q
      ∙ two_pass_filter slotted_pair (same_pair q) cs
      ∙ two_pass_same (λ c. passes (same_pair q) (slotted_pair c)) (is_slotted_as q.first q.second) (λ c. pair_is q c.refdes c.slot _) cs

  duplicate_is : (c : CheckedData) → is_duplicate_by repeats c ≡ is_duplicate cs c
  duplicate_is c =
      rw (are.clashing (checked_refdes c), numbered_is (checked_refdes c), whole_is (checked_refdes c))
      (ap (λ (b : Bool). is_numbered_component c && (not (is_open_refdes (checked_refdes c)) && b)) (sym (clash_is (is_numbered_as (checked_refdes c)) is_whole cs)))

  duplicate_slot_is : (c : CheckedData) → is_duplicate_slot_by repeats c ≡ is_duplicate_slot cs c
  duplicate_slot_is c = rw (slotted_is (record { first = checked_refdes c; second = slot_of c })) refl

  -- on one component
  found_by-is : (c : CheckedData) → found_by repeats c ≡ found_on cs c
  found_by-is c =
      let duplicate : duplicate_by repeats c ≡ duplicate_refdes cs c = ap (λ (b : Bool). found_if b (an_error drc.DuplicateRefdes (word (checked_refdes c)))) (duplicate_is c) in
      let slot : duplicate_slot_by repeats c ≡ duplicate_slot cs c = ap (λ (b : Bool). found_if b (an_error drc.DuplicateSlot (two_words (word (checked_refdes c)) (word (slot_of c))))) (duplicate_slot_is c) in
      behind _ _ (duplicate_by repeats c) (duplicate_slot_by repeats c) _ ∙ rw (duplicate, slot) refl

  -- on all of them
  pub all_found_by : flat_map (found_by repeats) cs ≡ found_on_components cs
  all_found_by = flat_map_same (found_by repeats) (found_on cs) found_by-is cs
