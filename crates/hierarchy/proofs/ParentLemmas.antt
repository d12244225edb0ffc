-- The places of the ways on the way to the last one, and the parent of the next.
use Rattle.std.proofs.Common.{◌≡◌, ◌≢◌, ◌==◌, ◌&&◌, ◌<◌, ◌≤◌, ◌+◌, ◌-◌, ℕ, zero, suc, Bool, true, false, List, [], ◌∷◌, ◌++◌, Some, length, get_or, take, drop, refl, sym, ap, subst, ◌∙◌, append_assoc, length-append, inl, inr, arith}
use Rattle.std.specs.Prelude.{AllPairs}
use Rattle.std.specs.List.{position, slice_get}
use Rattle.std.specs.Str.{bytes_eq}
use Rattle.std.proofs.lemmas.Bool.{cases_lt, eq-eqb, eqb-true, false≢true, ne_eqb, and_parts}
use Rattle.std.proofs.lemmas.List.{append-nil, get_or-take, get_or_push}
use Rattle.geda_defs.proofs.Bytes.{bytes_true, bytes_same}
use Rattle.hierarchy.specs.declared.way.Step.{Step}
use Rattle.hierarchy.specs.Ways.{WayData, extended}
use Rattle.hierarchy.specs.Instances.{is_upper, parent_of, same_step, same_steps}
use Rattle.hierarchy.specs.steps.Parents.{AllFollow, AreInOrder, ArePlaces, IsBelow, IsReady, StandsAt, parent_in}
use Rattle.hierarchy.proofs.PlaceLemmas.{position_at}

and_true : (a b : Bool) → a ≡ true → b ≡ true → (a && b) ≡ true
and_true a b e f = rw (e, f) refl

step_same : (s t : Step) → same_step s t ≡ true → s ≡ t
step_same s t e =
    let first = and_parts (s.id == t.id) (bytes_eq s.refdes t.refdes && (s.sheet == t.sheet)) e in
    let second = and_parts (bytes_eq s.refdes t.refdes) (s.sheet == t.sheet) first.1 in
    let ids : s.id ≡ t.id = eqb-true s.id t.id first.0 in
    let names : s.refdes ≡ t.refdes = bytes_same s.refdes t.refdes second.0 in
    let sheets : s.sheet ≡ t.sheet = eqb-true s.sheet t.sheet second.1 in
    λ i. record { id = ids i; refdes = names i; sheet = sheets i }

step_itself : (s : Step) → same_step s s ≡ true
step_itself s =
    and_true (s.id == s.id) (bytes_eq s.refdes s.refdes && (s.sheet == s.sheet)) (eq-eqb s.id s.id refl)
    (and_true (bytes_eq s.refdes s.refdes) (s.sheet == s.sheet) (bytes_true s.refdes s.refdes refl) (eq-eqb s.sheet s.sheet refl))

steps_same : (ss ts : List Step) → same_steps ss ts ≡ true → ss ≡ ts
steps_same [] [] e = refl
steps_same [] (t ∷ ts) e = absurd (false≢true e)
steps_same (s ∷ ss) [] e = absurd (false≢true e)
steps_same (s ∷ ss) (t ∷ ts) e =
    let parts = and_parts (same_step s t) (same_steps ss ts) e in
    let head : s ≡ t = step_same s t parts.0 in
    let tail : ss ≡ ts = steps_same ss ts parts.1 in
    λ i. head i ∷ tail i

steps_itself : (ss : List Step) → same_steps ss ss ≡ true
steps_itself [] = refl
steps_itself (s ∷ ss) = and_true (same_step s s) (same_steps ss ss) (step_itself s) (steps_itself ss)

-- all elements but the last
take_front : (ss : List Step) (s : Step) → take (length ss) (ss ++ s ∷ []) ≡ ss
take_front [] s = refl
take_front (x ∷ xs) s = ap (λ (ys : List Step). x ∷ ys) (take_front xs s)

before_last : (ss : List Step) (s : Step) → take (length (ss ++ s ∷ []) - 1) (ss ++ s ∷ []) ≡ ss
before_last ss s =
    let len = length-append ss (s ∷ []) in
    let e : length (ss ++ s ∷ []) - 1 ≡ length ss = omega arith in
    ap (λ (n : ℕ). take n (ss ++ s ∷ [])) e ∙ take_front ss s

-- a way is the upper one of its child, and nothing else is
upper_is : (t : WayData) (s : Step) → is_upper (extended t s) t ≡ true
upper_is t s =
    and_true (t.root == t.root) (same_steps t.steps (take (length (t.steps ++ s ∷ []) - 1) (t.steps ++ s ∷ []))) (eq-eqb t.root t.root refl)
    (rw (before_last t.steps s) (steps_itself t.steps))

only_upper : (t : WayData) (s : Step) (w : WayData) → is_upper (extended t s) w ≡ true → w ≡ t
only_upper t s w e =
    let parts = and_parts (w.root == t.root) (same_steps w.steps (take (length (t.steps ++ s ∷ []) - 1) (t.steps ++ s ∷ []))) e in
    let roots : w.root ≡ t.root = eqb-true w.root t.root parts.0 in
    let steps : w.steps ≡ t.steps = steps_same w.steps (take (length (t.steps ++ s ∷ []) - 1) (t.steps ++ s ∷ [])) parts.1 ∙ before_last t.steps s in
    λ i. record { root = roots i; steps = steps i }

-- the start of a list with one more element
begins : (xs rest ts : List Step) (s : Step) → xs ++ rest ≡ ts ++ s ∷ [] → length xs < length ts + 1 → (more : List Step) × (ts ≡ xs ++ more)
begins [] rest ts s e lt = (ts, refl)
begins (x ∷ xs) rest [] s e lt = absurd (omega arith)
begins (x ∷ xs) rest (t ∷ ts) s e lt =
    let head : x ≡ t = ap (λ (l : List Step). get_or l 0 x) e in
    let tail : xs ++ rest ≡ ts ++ s ∷ [] = ap (λ (l : List Step). drop 1 l) e in
    let inner = begins xs rest ts s tail (omega arith) in
    (inner.0, (let same : ts ≡ xs ++ inner.0 = inner.1 in λ i. sym head i ∷ same i))

no_rest : (xs rest ys : List Step) → xs ++ rest ≡ ys → length ys ≤ length xs → xs ≡ ys
no_rest xs [] ys e le = sym (append-nil xs) ∙ e
no_rest xs (r ∷ rs) ys e le =
    let len = length-append xs (r ∷ rs) in
    let same = ap length e in
    absurd (omega arith)

-- the rest of a list from an element on
drop_next : {X : Type 0} (xs : List X) (k : ℕ) (x : X) → k < length xs → x ≡ get_or xs k x → drop k xs ≡ x ∷ drop (k + 1) xs
drop_next [] k x h e = absurd (omega arith)
drop_next {X} (z ∷ zs) zero x h e = ap (λ (y : X). y ∷ zs) (sym e)
drop_next {X} (z ∷ zs) (suc k) x h e =
    let n : suc k + 1 ≡ suc (k + 1) = omega arith in
    drop_next zs k x (omega arith) e ∙ sym (ap (λ (m : ℕ). x ∷ drop m (z ∷ zs)) n)

length_take : (n : ℕ) (xs : List ℕ) → n ≤ length xs → length (take n xs) ≡ n
length_take zero xs h = refl
length_take (suc n) [] h = absurd (omega arith)
length_take (suc n) (x ∷ xs) h = ap suc (length_take n xs (omega arith))

get_front : (xs : List ℕ) (y : ℕ) (i : ℕ) (d : ℕ) → i < length xs → get_or (xs ++ y ∷ []) i d ≡ get_or xs i d
get_front [] y i d h = absurd (omega arith)
get_front (x ∷ xs) y zero d h = refl
get_front (x ∷ xs) y (suc i) d h = get_front xs y i d (omega arith)

slice_get_at : (xs : List ℕ) (i : ℕ) (d : ℕ) → i < length xs → slice_get xs i ≡ Some (get_or xs i d)
slice_get_at [] i d h = absurd (omega arith)
slice_get_at (x ∷ xs) zero d h = refl
slice_get_at (x ∷ xs) (suc i) d h = slice_get_at xs i d (omega arith)

module _ (ws : List WayData) (k : ℕ) (v : WayData) (h : k < length ws) (here : (d : WayData) → get_or ws k d ≡ v) where
  -- a root is on the way to itself alone
  root_places : (entered : List ℕ) → v.steps ≡ [] → ArePlaces ws v (take (length v.steps) entered ++ k ∷ [])
  root_places entered none =
      let zero_steps : length v.steps ≡ 0 = ap length none in
      let alone : take (length v.steps) entered ++ k ∷ [] ≡ k ∷ [] = ap (λ (n : ℕ). take n entered ++ k ∷ []) zero_steps in
      record {
        each = λ t below.
            let e : t.steps ++ below.rest ≡ [] = sym below.goes_on ∙ none in
            let steps : t.steps ≡ [] = no_rest t.steps below.rest [] e (omega arith) in
            let same : v ≡ t = (let r : v.root ≡ t.root = below.same_root in let q : v.steps ≡ t.steps = none ∙ sym steps in λ i. record { root = r i; steps = q i }) in
            let at : get_or (take (length v.steps) entered ++ k ∷ []) (length t.steps) 0 ≡ k = rw (alone, ap length steps) refl in
            record { within = rw at h; same = λ d. ap (λ (n : ℕ). get_or ws n d) at ∙ here d ∙ same };
        count = ap length alone ∙ (let e : 1 ≡ length v.steps + 1 = omega arith in e);
      }

  -- a child is behind its upper ways
  child_places : (entered : List ℕ) (u t : WayData) (s : Step) → ArePlaces ws u entered → IsBelow t u → v ≡ extended t s → ArePlaces ws v (take (length v.steps) entered ++ k ∷ [])
  child_places entered u t s places below is =
      let v_steps : v.steps ≡ t.steps ++ s ∷ [] = ap (λ (w : WayData). w.steps) is in
      let v_root : v.root ≡ t.root = ap (λ (w : WayData). w.root) is in
      let v_len : length v.steps ≡ length t.steps + 1 = ap length v_steps ∙ length-append t.steps (s ∷ []) in
      let u_len : length u.steps ≡ length t.steps + length below.rest = ap length below.goes_on ∙ length-append t.steps below.rest in
      let fits = length_take (length v.steps) entered (omega (arith, places.count, v_len, u_len)) in
      let all = take (length v.steps) entered ++ k ∷ [] in
      let count : length all ≡ length v.steps + 1 = length-append (take (length v.steps) entered) (k ∷ []) ∙ ap (λ (n : ℕ). n + 1) fits in
      record {
        each = λ r under. elim (cases_lt (length r.steps) (length v.steps)) [
          | inl lt ↦
              let start = begins r.steps under.rest t.steps s (sym under.goes_on ∙ v_steps) (omega arith) in
              let goes : u.steps ≡ r.steps ++ (start.0 ++ below.rest) = below.goes_on ∙ ap (λ (ss : List Step). ss ++ below.rest) start.1 ∙ append_assoc r.steps start.0 below.rest in
              let up : IsBelow r u = record { same_root = below.same_root ∙ sym v_root ∙ under.same_root; rest = start.0 ++ below.rest; goes_on = goes } in
              let at : get_or all (length r.steps) 0 ≡ get_or entered (length r.steps) 0 = get_front (take (length v.steps) entered) k (length r.steps) 0 (omega (arith, fits, lt)) ∙ get_or-take (length v.steps) entered (length r.steps) 0 lt in
              subst (λ (n : ℕ). StandsAt ws n r) (sym at) (places.each r up)
          | inr le ↦
              let steps : r.steps ≡ v.steps = no_rest r.steps under.rest v.steps (sym under.goes_on) le in
              let same : v ≡ r = (let e : v.root ≡ r.root = under.same_root in let f : v.steps ≡ r.steps = sym steps in λ i. record { root = e i; steps = f i }) in
              let at : get_or all (length r.steps) 0 ≡ k = get_or_push (take (length v.steps) entered) k 0 (length r.steps) (fits ∙ sym (ap length steps)) in
              record { within = rw at h; same = λ d. ap (λ (n : ℕ). get_or ws n d) at ∙ here d ∙ same }
        ];
        count = count;
      }

  -- after one more way
  pub ready_next : (entered : List ℕ) → v ≡ get_or ws k v → IsReady ws k entered → IsReady ws (k + 1) (take (length v.steps) entered ++ k ∷ [])
  ready_next entered e ready = elim ready [
    | inl start ↦
        let run : AreInOrder (v ∷ drop (k + 1) ws) = subst AreInOrder (drop_next ws k v h e) start in
        inr (v, root_places entered run.0, run.1)
    | inr (u, places, follow) ↦
        let run : AllFollow u (v ∷ drop (k + 1) ws) = subst (AllFollow u) (drop_next ws k v h e) follow in
        inr (v, (elim run.0 [ inl none ↦ root_places entered none | inr (t, s, below, is) ↦ child_places entered u t s places below is ]), run.1)
  ]

  root_parent : (entered : List ℕ) → v.steps ≡ [] → parent_in entered v ≡ parent_of ws v
  root_parent entered none = rw (ap length none) refl

  child_parent : (entered : List ℕ) (u t : WayData) (s : Step) → AllPairs ◌≢◌ ws → ArePlaces ws u entered → IsBelow t u → v ≡ extended t s → parent_in entered v ≡ parent_of ws v
  child_parent entered u t s once places below is =
      let v_len : length v.steps ≡ length t.steps + 1 = ap (λ (w : WayData). length w.steps) is ∙ length-append t.steps (s ∷ []) in
      let u_len : length u.steps ≡ length t.steps + length below.rest = ap length below.goes_on ∙ length-append t.steps below.rest in
      let at = places.each t below in
      let j = get_or entered (length t.steps) 0 in
      let here : is_upper v (get_or ws j t) ≡ true = rw (at.same t, is) (upper_is t s) in
      let found : position (is_upper v) ws ≡ Some j = position_at (is_upper v) ws j t at.within (λ i lt. off i j lt at.within (at.same t)) here in
      let read : slice_get entered (length v.steps - 1) ≡ Some j = (let e : length v.steps - 1 ≡ length t.steps = omega arith in ap (slice_get entered) e ∙ slice_get_at entered (length t.steps) 0 (omega (arith, places.count, u_len))) in
      let some : (length v.steps == 0) ≡ false = filled (length v.steps) (length t.steps) v_len in
      rw (some, read, found) refl
    where
      filled : (n m : ℕ) → n ≡ m + 1 → (n == 0) ≡ false
      filled zero m e = absurd (omega arith)
      filled (suc n) m e = ne_eqb (suc n) 0 (λ z. absurd (omega arith))

      off : (i j : ℕ) → i < j → j < length ws → get_or ws j t ≡ t → is_upper v (get_or ws i t) ≡ false
      off i j lt within same = by (is_upper v (get_or ws i t)) refl
        where
          by : (b : Bool) → is_upper v (get_or ws i t) ≡ b → is_upper v (get_or ws i t) ≡ false
          by true e = absurd (once i j t lt within (only_upper t s (get_or ws i t) (subst (λ (w : WayData). is_upper w (get_or ws i t) ≡ true) is e) ∙ sym same))
          by false e = e

  -- the parent of the next way
  pub parent_next : (entered : List ℕ) → AllPairs ◌≢◌ ws → v ≡ get_or ws k v → IsReady ws k entered → parent_in entered v ≡ parent_of ws v
  parent_next entered once e ready = elim ready [
    | inl start ↦
        let run : AreInOrder (v ∷ drop (k + 1) ws) = subst AreInOrder (drop_next ws k v h e) start in
        root_parent entered run.0
    | inr (u, places, follow) ↦
        let run : AllFollow u (v ∷ drop (k + 1) ws) = subst (AllFollow u) (drop_next ws k v h e) follow in
        elim run.0 [ inl none ↦ root_parent entered none | inr (t, s, below, is) ↦ child_parent entered u t s once places below is ]
  ]

-- an element that was read is there by any default
pub here_at : (ws : List WayData) (k : ℕ) (v : WayData) → k < length ws → v ≡ get_or ws k v → (d : WayData) → get_or ws k d ≡ v
here_at [] k v h e d = absurd (omega arith)
here_at (w ∷ ws) zero v h e d = sym e
here_at (w ∷ ws) (suc k) v h e d = here_at ws k v (omega arith) e d
