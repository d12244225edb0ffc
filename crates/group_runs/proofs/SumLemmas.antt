-- How often all groups have asked, where one sheet gets another entry.
use Rattle.std.proofs.Common.{◌≡◌, ◌≤◌, ◌+◌, ℕ, Option, None, Some, arith, sym, ap, subst, ◌∙◌}
use Rattle.std.specs.List.{sum_by}
use Rattle.std.specs.Map.{remove_entry, set_value, values_of}
use Rattle.std.specs.Option.{option_map, unwrap_or}
use Rattle.std.specs.Str.{bytes_eq}
use Rattle.std.proofs.lemmas.Map.Entries.{sum_by-remove_entry, sum_by-set_value}
use Rattle.net_flood.specs.Grouping.{GroupsData}
use Rattle.group_runs.specs.Runs.{SheetName}
use Rattle.group_runs.specs.Sheets.{IsCounted, Rows, asked_of, asked_sum, row_at}

-- the sum of the other sheets
module _ (old : Rows) (sheet : SheetName) (row : Option GroupsData) (known : row_at old sheet ≡ Some row) where
  abbrev rest : ℕ
  rest = sum_by asked_of (values_of (remove_entry (bytes_eq sheet) old))

  was : asked_sum old ≡ asked_of row + rest
  was =
      let parts = sum_by-remove_entry asked_of (bytes_eq sheet) old in
      let here : unwrap_or (option_map asked_of (row_at old sheet)) 0 ≡ asked_of row = ap (λ o. unwrap_or (option_map asked_of o) 0) known in
      omega arith

  pub sum_set : (new : Rows) (next : Option GroupsData) → new ≡ set_value (bytes_eq sheet) old next → asked_sum new + asked_of row ≡ asked_sum old + asked_of next
  sum_set new next sets = ap (λ (rows : Rows). asked_sum rows + asked_of row) sets ∙ sum_by-set_value asked_of (bytes_eq sheet) old row next known

  pub counted_set : (new : Rows) (next : Option GroupsData) (steps after : ℕ) → new ≡ set_value (bytes_eq sheet) old next
      → ((rest : ℕ) → IsCounted (asked_of row + rest) steps → IsCounted (asked_of next + rest) after) → IsCounted (asked_sum old) steps → IsCounted (asked_sum new) after
  counted_set new next steps after sets counts h =
      let is : asked_sum new ≡ asked_of next + rest = let set = sum_set new next sets in let before = was in omega arith in
      subst (λ n. IsCounted n after) (sym is) (counts rest (subst (λ n. IsCounted n steps) was h))

  pub fewer_set : (new : Rows) → new ≡ set_value (bytes_eq sheet) old None → asked_sum new ≤ asked_sum old
  fewer_set new sets = let set = sum_set new None sets in let none : asked_of None ≡ 0 = λ i. 0 in omega arith

  pub same_set : (new : Rows) (next : Option GroupsData) → new ≡ set_value (bytes_eq sheet) old next → asked_of next ≡ asked_of row → asked_sum new ≤ asked_sum old
  same_set new next sets are = let set = sum_set new next sets in omega arith
