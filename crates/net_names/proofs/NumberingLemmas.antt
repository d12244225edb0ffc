-- Numbers that skip the names that are taken, one by one and all at once.
use Rattle.std.proofs.Common.{◌≡◌, ◌≢◌, ℕ, zero, suc, ◌+◌, ◌-◌, ◌^◌, ◌≤◌, ◌<◌, ◌==◌, ◌||◌, not, Bool, true, false, cond, List, [], ◌∷◌, ◌++◌, length, map, take, filter, fold, decimal, bytes_eq, Ordering, refl, sym, ap, subst, ◌∙◌, arith, inl, inr}
use Rattle.std.specs.declared.cmp.Ordering.TheVariants.{Less, Equal, Greater}
use Rattle.std.specs.List.{list_any, range_with_len, starts_with}
use Rattle.std.specs.Ordering.{is_eq, match_ordering}
use Rattle.std.specs.Set.{remove_key}
use Rattle.std.specs.BTreeMap.{is_at}
use Rattle.std.specs.BTreeSet.{insert_key}
use Rattle.std.proofs.Math.Bool.{or_assoc, or_comm, or-false}
use Rattle.std.proofs.lemmas.Bool.{cases_lt, eq-eqb}
use Rattle.std.proofs.lemmas.Fmt.{decimal_injective}
use Rattle.std.proofs.lemmas.List.{append-nil, append_assoc, append_cancel_left}
use Rattle.std.proofs.lemmas.List.Elements.{filter_agree}
use Rattle.std.proofs.lemmas.Map.Lookups.{exact_bytes}
use Rattle.std.proofs.lemmas.Map.Text.{is_eq-slice_cmp}
use Rattle.net_list.specs.declared.nets.Net.{Net}
use Rattle.net_list.specs.declared.nets.NetSort.{NetSort}
use Rattle.net_names.specs.NetClasses.{NetClassData}
use Rattle.net_names.specs.NetLists.{is_free, numbered, net_of}
use Rattle.geda_defs.specs.Order.{by_bytes, is_equal}
use Rattle.net_names.specs.steps.Numbering.{with_taken, taken_names, is_taken, free_below, AllTaken, AreNumbered, GoesOn, TakeSame, IsNextFree, numbered_bodies}
use Rattle.net_names.specs.declared.net_classes.ClassBody.{ClassBody}
use Rattle.net_names.specs.steps.Classes.{body_of, net_with}

-- what passes the test of equals is one
equal_if : (r : Ordering) → is_eq r ≡ true → r ≡ Equal
equal_if Less e = absurd (let f = e in cc)
equal_if Equal e = refl
equal_if Greater e = absurd (let f = e in cc)

-- a name that is taken out changes nothing for other numbers
removed_other : (prefix : List ℕ) (taken : List (List ℕ)) (m n : ℕ) → m < 2 ^ 64 → n < 2 ^ 64 → m ≢ n
    → is_taken prefix (remove_key (is_at (by_bytes (prefix ++ decimal n))) taken) m ≡ is_taken prefix taken m
removed_other prefix [] m n p q ne = refl
removed_other prefix (name ∷ names) m n p q ne = by (is_eq (by_bytes (prefix ++ decimal n) name)) (is_eq (by_bytes (prefix ++ decimal m) name)) refl refl (removed_other prefix names m n p q ne)
  where
    by : (a b : Bool) → is_eq (by_bytes (prefix ++ decimal n) name) ≡ a → is_eq (by_bytes (prefix ++ decimal m) name) ≡ b
        → is_taken prefix (remove_key (is_at (by_bytes (prefix ++ decimal n))) names) m ≡ is_taken prefix names m
        → is_taken prefix (cond a names (name ∷ remove_key (is_at (by_bytes (prefix ++ decimal n))) names)) m ≡ (b || is_taken prefix names m)
    by true true e f h =
        let same : prefix ++ decimal m ≡ prefix ++ decimal n = exact_bytes (prefix ++ decimal m) name (equal_if _ f) ∙ sym (exact_bytes (prefix ++ decimal n) name (equal_if _ e)) in
        absurd (ne (decimal_injective m n p q (append_cancel_left prefix (decimal m) (decimal n) same)))
    by true false e f h = refl
    by false b e f h = ap (λ (c : Bool). c || is_taken prefix (remove_key (is_at (by_bytes (prefix ++ decimal n))) names) m) f ∙ ap (λ (c : Bool). b || c) h

pub take_same : (prefix : List ℕ) (old taken : List (List ℕ)) (n : ℕ) → n < 2 ^ 64 → TakeSame prefix old taken n
    → TakeSame prefix old (remove_key (is_at (by_bytes (prefix ++ decimal n))) taken) (n + 1)
take_same prefix old taken n q same m from small = removed_other prefix taken m n small q (λ e. omega (arith, e)) ∙ same m (omega arith) small

-- the number after numbers that are taken is taken too
pub one_more : (prefix : List ℕ) (old taken : List (List ℕ)) (from n : ℕ) → n < 2 ^ 64 → AllTaken prefix old from n → TakeSame prefix old taken n
    → is_taken prefix taken n ≡ true → AllTaken prefix old from (n + 1)
one_more prefix old taken from n q skipped same e m low high = elim (cases_lt m n) [
  | inl below ↦ skipped m low below
  | inr above ↦ subst (λ (k : ℕ). is_taken prefix old k ≡ true) (omega arith) (sym (same n (omega arith) q) ∙ e)
]

-- numbers below a stop, from the first one on
opened : (prefix : List ℕ) (taken : List (List ℕ)) (n stop : ℕ) → n < stop
    → free_below prefix taken n stop ≡ cond (not (is_taken prefix taken n)) (n ∷ free_below prefix taken (n + 1) stop) (free_below prefix taken (n + 1) stop)
opened prefix taken n stop h =
    let more : stop - n ≡ suc (stop - (n + 1)) = omega arith in
    ap (λ (count : ℕ). filter (λ m. not (is_taken prefix taken m)) (range_with_len n count)) more

-- they begin with the first one that is free
free_first : (prefix : List ℕ) (taken : List (List ℕ)) (k n r stop : ℕ) → n + k ≡ r → r < stop → AllTaken prefix taken n r → is_taken prefix taken r ≡ false
    → free_below prefix taken n stop ≡ r ∷ free_below prefix taken (r + 1) stop
free_first prefix taken zero n r stop e h skipped free =
    let at : n ≡ r = omega arith in
    ap (λ (m : ℕ). free_below prefix taken m stop) at ∙ opened prefix taken r stop h ∙ rw free refl
free_first prefix taken (suc k) n r stop e h skipped free =
    opened prefix taken n stop (omega arith)
    ∙ ap (λ (b : Bool). cond (not b) (n ∷ free_below prefix taken (n + 1) stop) (free_below prefix taken (n + 1) stop)) (skipped n (omega arith) (omega arith))
    ∙ free_first prefix taken k (n + 1) r stop (omega arith) h (λ m low high. skipped m (omega arith) high) free

-- the first body takes the first number that is free
numbers_next : (prefix : List ℕ) (sort : NetSort) (old taken new : List (List ℕ)) (n r stop : ℕ) (c : ClassBody) (cs : List ClassBody)
    → r < 2 ^ 64 → r < stop → TakeSame prefix old taken n → IsNextFree prefix taken new n r
    → numbered_bodies prefix sort (free_below prefix old n stop) (c ∷ cs) ≡ net_with (prefix ++ decimal r) sort c ∷ numbered_bodies prefix sort (free_below prefix old (r + 1) stop) cs
numbers_next prefix sort old taken new n r stop c cs small below same next =
    let skipped : AllTaken prefix old n r = λ m low high. sym (same m low (omega arith)) ∙ next.skipped m low high in
    let free : is_taken prefix old r ≡ false = sym (same r next.above small) ∙ next.free in
    ap (λ (ns : List ℕ). numbered_bodies prefix sort ns (c ∷ cs)) (free_first prefix old (r - n) n r stop (omega (arith, next.above)) below skipped free)

-- and the names that are left take the same later numbers
pub take_later : (prefix : List ℕ) (old taken new : List (List ℕ)) (n r : ℕ) → TakeSame prefix old taken n → IsNextFree prefix taken new n r → TakeSame prefix old new (r + 1)
take_later prefix old taken new n r same next m low small = next.same m (omega arith) small ∙ same m (omega (arith, next.above)) small

-- what is so already is so
or_once : (a b : Bool) → (a || b) ≡ ((a || b) || a)
or_once true b = refl
or_once false true = refl
or_once false false = refl

-- a name is found where it is put in
found_insert : (text : List ℕ) (names : List (List ℕ)) (name : List ℕ)
    → list_any (is_equal by_bytes text) (insert_key by_bytes names name) ≡ (list_any (is_equal by_bytes text) names || is_equal by_bytes text name)
found_insert text [] name = or-false (is_equal by_bytes text name)
found_insert text (other ∷ names) name = by (by_bytes name other) refl (found_insert text names name)
  where
    by : (r : Ordering) → by_bytes name other ≡ r
        → list_any (is_equal by_bytes text) (insert_key by_bytes names name) ≡ (list_any (is_equal by_bytes text) names || is_equal by_bytes text name)
        → list_any (is_equal by_bytes text) (match_ordering r (name ∷ other ∷ names) (other ∷ names) (other ∷ insert_key by_bytes names name))
        ≡ (list_any (is_equal by_bytes text) (other ∷ names) || is_equal by_bytes text name)
    by Less e h = or_comm (is_equal by_bytes text name) (list_any (is_equal by_bytes text) (other ∷ names))
    by Equal e h =
        or_once (is_equal by_bytes text other) (list_any (is_equal by_bytes text) names)
        ∙ ap (λ (x : List ℕ). list_any (is_equal by_bytes text) (other ∷ names) || is_equal by_bytes text x) (sym (exact_bytes name other e))
    by Greater e h =
        ap (λ (b : Bool). is_equal by_bytes text other || b) h
        ∙ sym (or_assoc (is_equal by_bytes text other) (list_any (is_equal by_bytes text) names) (is_equal by_bytes text name))

-- a text begins with its first part
begins : (prefix rest : List ℕ) → starts_with ◌==◌ (prefix ++ rest) prefix ≡ true
begins [] rest = refl
begins (b ∷ bs) rest = rw (eq-eqb b b refl) (begins bs rest)

-- a name that does not begin with the prefix is no text of a number
no_text : (prefix rest name : List ℕ) → starts_with ◌==◌ name prefix ≡ false → is_equal by_bytes (prefix ++ rest) name ≡ false
no_text prefix rest name e = by (is_equal by_bytes (prefix ++ rest) name) refl
  where
    by : (b : Bool) → is_equal by_bytes (prefix ++ rest) name ≡ b → b ≡ false
    by false f = refl
    by true f =
        let other : starts_with ◌==◌ name prefix ≡ true = subst (λ (x : List ℕ). starts_with ◌==◌ x prefix ≡ true) (exact_bytes (prefix ++ rest) name (equal_if _ f)) (begins prefix rest) in
        sym other ∙ e

found_taken : (prefix rest : List ℕ) (taken : List (List ℕ)) (name : List ℕ)
    → list_any (is_equal by_bytes (prefix ++ rest)) (with_taken prefix taken name) ≡ (list_any (is_equal by_bytes (prefix ++ rest)) taken || bytes_eq (prefix ++ rest) name)
found_taken prefix rest taken name = by (starts_with ◌==◌ name prefix) refl ∙ ap (λ (b : Bool). list_any (is_equal by_bytes (prefix ++ rest)) taken || b) (is_eq-slice_cmp (prefix ++ rest) name)
  where
    by : (b : Bool) → starts_with ◌==◌ name prefix ≡ b
        → list_any (is_equal by_bytes (prefix ++ rest)) (cond b (insert_key by_bytes taken name) taken) ≡ (list_any (is_equal by_bytes (prefix ++ rest)) taken || is_equal by_bytes (prefix ++ rest) name)
    by true e = found_insert (prefix ++ rest) taken name
    by false e = sym (or-false (list_any (is_equal by_bytes (prefix ++ rest)) taken)) ∙ ap (λ (b : Bool). list_any (is_equal by_bytes (prefix ++ rest)) taken || b) (sym (no_text prefix rest name e))

found_all : (prefix rest : List ℕ) (taken names : List (List ℕ))
    → list_any (is_equal by_bytes (prefix ++ rest)) (fold (with_taken prefix) taken names) ≡ (list_any (is_equal by_bytes (prefix ++ rest)) taken || list_any (bytes_eq (prefix ++ rest)) names)
found_all prefix rest taken [] = sym (or-false (list_any (is_equal by_bytes (prefix ++ rest)) taken))
found_all prefix rest taken (name ∷ names) =
    found_all prefix rest (with_taken prefix taken name) names
    ∙ ap (λ (b : Bool). b || list_any (bytes_eq (prefix ++ rest)) names) (found_taken prefix rest taken name)
    ∙ or_assoc (list_any (is_equal by_bytes (prefix ++ rest)) taken) (bytes_eq (prefix ++ rest) name) (list_any (bytes_eq (prefix ++ rest)) names)

-- a key makes a list at most one longer
length_placed : {K : Type 0} (cmp : K → K → Ordering) (o : Ordering) (x k : K) (xs : List K) → length (insert_key cmp xs k) ≤ length xs + 1 → length (match_ordering o (k ∷ x ∷ xs) (x ∷ xs) (x ∷ insert_key cmp xs k)) ≤ length xs + 2
length_placed cmp Less x k xs h = omega arith
length_placed cmp Equal x k xs h = omega arith
length_placed cmp Greater x k xs h = omega arith

pub length_insert : {K : Type 0} (cmp : K → K → Ordering) (xs : List K) (k : K) → length (insert_key cmp xs k) ≤ length xs + 1
length_insert cmp [] k = omega arith
length_insert cmp (x ∷ xs) k = let h = length_placed cmp (cmp k x) x k xs (length_insert cmp xs k) in omega arith

-- keys in order are no more than they were
pub length_fold : {K : Type 0} (cmp : K → K → Ordering) (ks xs : List K) → length (fold (insert_key cmp) ks xs) ≤ length ks + length xs
length_fold cmp ks [] = omega arith
length_fold cmp ks (x ∷ xs) = let h = length_fold cmp (insert_key cmp ks x) xs in let g = length_insert cmp ks x in omega arith

length_with : (prefix : List ℕ) (taken : List (List ℕ)) (name : List ℕ) → length (with_taken prefix taken name) ≤ length taken + 1
length_with prefix taken name = by (starts_with ◌==◌ name prefix)
  where
    by : (b : Bool) → length (cond b (insert_key by_bytes taken name) taken) ≤ length taken + 1
    by true = length_insert by_bytes taken name
    by false = omega arith

-- taken names are no more than the names
length_taken : (prefix : List ℕ) (taken names : List (List ℕ)) → length (fold (with_taken prefix) taken names) ≤ length taken + length names
length_taken prefix taken [] = omega arith
length_taken prefix taken (name ∷ names) = let h = length_taken prefix (with_taken prefix taken name) names in let g = length_with prefix taken name in omega arith

pub length_taken_names : (prefix : List ℕ) (names : List (List ℕ)) → length (taken_names prefix names) ≤ length names
length_taken_names prefix names = let h = length_taken prefix [] names in omega arith

-- the numbers that no name has are those whose texts are not taken
pub free_same : (prefix : List ℕ) (names : List (List ℕ)) (ns : List ℕ) → filter (is_free prefix names) ns ≡ filter (λ n. not (is_taken prefix (taken_names prefix names) n)) ns
free_same prefix names ns = filter_agree (is_free prefix names) (λ n. not (is_taken prefix (taken_names prefix names) n)) (λ n. ap not (sym (found_all prefix (decimal n) [] names))) ns

-- numbers that are enough may be left out behind
pub numbered_take : (prefix : List ℕ) (sort : NetSort) (count : ℕ) (ns : List ℕ) (cs : List NetClassData) → length cs ≤ count
    → numbered prefix sort (take count ns) cs ≡ numbered prefix sort ns cs
numbered_take prefix sort zero [] cs h = refl
numbered_take prefix sort zero (n ∷ ns) [] h = refl
numbered_take prefix sort zero (n ∷ ns) (c ∷ cs) h = absurd (omega arith)
numbered_take prefix sort (suc count) [] cs h = refl
numbered_take prefix sort (suc count) (n ∷ ns) [] h = refl
numbered_take prefix sort (suc count) (n ∷ ns) (c ∷ cs) h = ap (λ ms. net_of (prefix ++ decimal n) sort c ∷ ms) (numbered_take prefix sort count ns cs (omega arith))

-- bodies of classes are numbered as the classes are
pub numbered_same : (prefix : List ℕ) (sort : NetSort) (ns : List ℕ) (cs : List NetClassData) → numbered_bodies prefix sort ns (map body_of cs) ≡ numbered prefix sort ns cs
numbered_same prefix sort [] [] = refl
numbered_same prefix sort [] (c ∷ cs) = refl
numbered_same prefix sort (n ∷ ns) [] = refl
numbered_same prefix sort (n ∷ ns) (c ∷ cs) = ap (λ (nets : List Net). net_of (prefix ++ decimal n) sort c ∷ nets) (numbered_same prefix sort ns cs)

-- no bodies make no nets
numbered_none : (prefix : List ℕ) (sort : NetSort) (ns : List ℕ) → numbered_bodies prefix sort ns [] ≡ []
numbered_none prefix sort [] = refl
numbered_none prefix sort (n ∷ ns) = refl

-- the nets grow by that of the first body
grows : (prefix : List ℕ) (sort : NetSort) (old taken new : List (List ℕ)) (n r stop : ℕ) (c : ClassBody) (cs left : List ClassBody)
    (net : Net) (nets grown all : List Net) → r < 2 ^ 64 → r < stop → TakeSame prefix old taken n → IsNextFree prefix taken new n r
    → net ≡ net_with (prefix ++ decimal r) sort c → grown ≡ nets ++ net ∷ [] → left ≡ c ∷ cs
    → nets ++ numbered_bodies prefix sort (free_below prefix old n stop) left ≡ all
    → grown ++ numbered_bodies prefix sort (free_below prefix old (r + 1) stop) cs ≡ all
grows prefix sort old taken new n r stop c cs left net nets grown all small below same next made pushed rest whole =
    let later = numbered_bodies prefix sort (free_below prefix old (r + 1) stop) cs in
    ap (λ (x : List Net). x ++ later) pushed
    ∙ append_assoc nets (net ∷ []) later
    ∙ ap (λ (x : Net). nets ++ x ∷ later) made
    ∙ ap (λ (x : List Net). nets ++ x) (sym (numbers_next prefix sort old taken new n r stop c cs small below same next))
    ∙ ap (λ (x : List ClassBody). nets ++ numbered_bodies prefix sort (free_below prefix old n stop) x) (sym rest)
    ∙ whole

-- so numbering goes on
pub goes_take : (prefix : List ℕ) (sort : NetSort) (old taken new : List (List ℕ)) (n r : ℕ) (body : ClassBody) (bs left all : List ClassBody) (net : Net) (first nets grown : List Net)
    → r < 2 ^ 64 → TakeSame prefix old taken n → IsNextFree prefix taken new n r
    → net ≡ net_with (prefix ++ decimal r) sort body → grown ≡ nets ++ net ∷ [] → left ≡ body ∷ bs
    → GoesOn prefix sort old (length taken) n first nets all left → GoesOn prefix sort old (length new) (r + 1) first grown all bs
goes_take prefix sort old taken new n r body bs left all net first nets grown small same next made pushed e h = record {
  room = omega (arith, h.room, next.fewer, ap length e);
  rest = λ stop enough.
      let below : r < stop = omega (arith, enough, h.room, next.fewer, ap length e) in
      grows prefix sort old taken new n r stop body bs left net nets grown (first ++ numbered_bodies prefix sort (free_below prefix old 1 stop) all) small below same next made pushed e (h.rest stop enough);
}

-- and after all bodies it is done
pub goes_last : (prefix : List ℕ) (sort : NetSort) (taken : List (List ℕ)) (more next : ℕ) (first nets : List Net) (all : List ClassBody)
    → GoesOn prefix sort taken more next first nets all [] → AreNumbered prefix sort taken all first nets
goes_last prefix sort taken more next first nets all h = λ stop enough.
    sym (append-nil nets)
    ∙ ap (λ (xs : List Net). nets ++ xs) (sym (numbered_none prefix sort (free_below prefix taken next stop)))
    ∙ h.rest stop enough
