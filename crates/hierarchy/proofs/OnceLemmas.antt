-- Each way stands once in the list, where ids stand once on a sheet and sources once in a component.
use Rattle.std.proofs.Common.{◌≡◌, ◌≢◌, ◌+◌, ℕ, zero, suc, not, List, [], ◌∷◌, ◌++◌, Option, Some, None, length, get_or, map, refl, sym, ap, subst, ◌∙◌, append_assoc, length-append, arith}
use Rattle.std.specs.Prelude.{All, AllPairs, flat_map, filter_map}
use Rattle.std.specs.List.{cons_option, range_with_len}
use Rattle.std.proofs.lemmas.List.{append-nil}
use Rattle.std.proofs.lemmas.List.Elements.{All-from_get_or, All-append, All-cons, All-head, All-tail, All-weaker}
use Rattle.std.proofs.lemmas.List.Kept.{AllPairs-cons, AllPairs-filter}
use Rattle.std.proofs.lemmas.List.FromFn.{get_or-range_with_len, length-range_with_len}
use Rattle.hierarchy.specs.declared.table.Source.{Source}
use Rattle.hierarchy.specs.declared.way.Step.{Step}
use Rattle.hierarchy.specs.SheetTable.{TableSheetData, sheet_at, is_named, roots}
use Rattle.hierarchy.specs.Ways.{WayData, last_sheet, step_to, steps_by, component_steps, next_steps, extended, children, with_descendants, way_at, ways}
use Rattle.hierarchy.specs.steps.Parents.{IsBelow}
use Rattle.hierarchy.proofs.ListLemmas.{all_none, all_map, all_flat_map, all_filter_map}
use Rattle.hierarchy.proofs.WayLemmas.{step_facts}

-- two sources name two sheets, where both name one
abbrev pub NameApart : Option ℕ → Option ℕ → Type 0
NameApart None other = Unit {0}
NameApart (Some a) None = Unit {0}
NameApart (Some a) (Some b) = a ≢ b

-- each id stands once on a sheet, and each source once in a component
pub record StandOnce (sheet : TableSheetData) : Type 0 where
  pub ids : AllPairs (λ c d. c.id ≢ d.id) sheet.components
  pub sources : All (λ c. AllPairs (λ s t. NameApart s.sheet t.sheet) c.sources) sheet.components

-- so it is on all sheets
abbrev pub AllStandOnce : List TableSheetData → Type 0
AllStandOnce sheets = (place : ℕ) → StandOnce (sheet_at sheets place)

module _ {X : Type 0} (R : X → X → Type 0) where
  pub pairs_none : AllPairs R []
  pairs_none i j d a b = absurd (omega arith)

  pairs_head : (x : X) (xs : List X) → AllPairs R (x ∷ xs) → All (R x) xs
  pairs_head x xs pairs k d h = pairs 0 (suc k) d (omega arith) (omega arith)

  pairs_tail : (x : X) (xs : List X) → AllPairs R (x ∷ xs) → AllPairs R xs
  pairs_tail x xs pairs i j d a b = pairs (suc i) (suc j) d (omega arith) (omega arith)

  pairs_append : (xs ys : List X) → AllPairs R xs → AllPairs R ys → All (λ x. All (R x) ys) xs → AllPairs R (xs ++ ys)
  pairs_append [] ys p q cross = q
  pairs_append (x ∷ xs) ys p q cross =
      AllPairs-cons R x (xs ++ ys) (All-append (R x) xs ys (pairs_head x xs p) (All-head (λ x. All (R x) ys) x xs cross))
      (pairs_append xs ys (pairs_tail x xs p) q (All-tail (λ x. All (R x) ys) x xs cross))

-- pairs of the images of a list: in one image, and in two
pairs_flat_map : {X Y : Type 0} (R : Y → Y → Type 0) (f : X → List Y) (xs : List X) → All (λ x. AllPairs R (f x)) xs
    → AllPairs (λ x z. All (λ y. All (R y) (f z)) (f x)) xs → AllPairs R (flat_map f xs)
pairs_flat_map R f [] each cross = pairs_none R
pairs_flat_map {X} R f (x ∷ xs) each cross =
    let apart : X → X → Type 0 = λ x z. All (λ y. All (R y) (f z)) (f x) in
    pairs_append R (f x) (flat_map f xs) (All-head (λ x. AllPairs R (f x)) x xs each)
    (pairs_flat_map R f xs (All-tail (λ x. AllPairs R (f x)) x xs each) (pairs_tail apart x xs cross))
    (λ k d h. all_flat_map (λ z. All (λ y. All (R y) (f z)) (f x)) (R (get_or (f x) k d)) f (λ z all. all k d h) xs (pairs_head apart x xs cross))

pub pairs_map : {X Y : Type 0} (R : Y → Y → Type 0) (f : X → Y) (xs : List X) → AllPairs (λ x z. R (f x) (f z)) xs → AllPairs R (map f xs)
pairs_map R f [] pairs = pairs_none R
pairs_map {X} R f (x ∷ xs) pairs =
    let apart : X → X → Type 0 = λ x z. R (f x) (f z) in
    AllPairs-cons R (f x) (map f xs) (all_map (R (f x)) f xs (pairs_head apart x xs pairs)) (pairs_map R f xs (pairs_tail apart x xs pairs))

pairs_option : {Y : Type 0} (R : Y → Y → Type 0) (o : Option Y) (ys : List Y) → AllPairs R ys → ((y : Y) → o ≡ Some y → All (R y) ys) → AllPairs R (cons_option o ys)
pairs_option R None ys pairs to = pairs
pairs_option R (Some y) ys pairs to = AllPairs-cons R y ys (to y refl) pairs

pub pairs_filter_map : {X Y : Type 0} (Q : X → X → Type 0) (R : Y → Y → Type 0) (h : X → Option Y) → ((x z : X) (y v : Y) → Q x z → h x ≡ Some y → h z ≡ Some v → R y v)
    → (xs : List X) → AllPairs Q xs → AllPairs R (filter_map h xs)
pairs_filter_map Q R h to [] pairs = pairs_none R
pairs_filter_map Q R h to (x ∷ xs) pairs =
    pairs_option R (h x) (filter_map h xs) (pairs_filter_map Q R h to xs (pairs_tail Q x xs pairs))
    (λ y e. all_filter_map (Q x) (R y) h (λ z v q f. to x z y v q e f) xs (pairs_head Q x xs pairs))

pub pairs_weaker : {X : Type 0} (Q R : X → X → Type 0) → ((x y : X) → Q x y → R x y) → (xs : List X) → AllPairs Q xs → AllPairs R xs
pairs_weaker Q R to xs pairs i j d a b = to (get_or xs i d) (get_or xs j d) (pairs i j d a b)

range_once : (a n : ℕ) → AllPairs ◌≢◌ (range_with_len a n)
range_once a zero = pairs_none ◌≢◌
range_once a (suc n) =
    AllPairs-cons ◌≢◌ a (range_with_len (a + 1) n)
    (All-from_get_or (λ x. a ≢ x) (range_with_len (a + 1) n) 0 (λ k h e.
    let len = length-range_with_len (a + 1) n in
    let at = get_or-range_with_len (a + 1) n k 0 (omega arith) in
    absurd (omega arith)))
    (range_once (a + 1) n)

pub below_itself : (u : WayData) → IsBelow u u
below_itself u = record { same_root = refl; rest = []; goes_on = sym (append-nil u.steps) }

pub below_extended : (u : WayData) (s : Step) (v : WayData) → IsBelow (extended u s) v → IsBelow u v
below_extended u s v b = record { same_root = b.same_root; rest = s ∷ b.rest; goes_on = b.goes_on ∙ append_assoc u.steps (s ∷ []) b.rest }

-- the step behind some steps
step_behind : (ss : List Step) (t : Step) (ts : List Step) (d : Step) → get_or ((ss ++ t ∷ []) ++ ts) (length ss) d ≡ t
step_behind [] t ts d = refl
step_behind (s ∷ ss) t ts d = step_behind ss t ts d

-- ways below two steps of a way are two
apart_below : (w : WayData) (s t : Step) (u v : WayData) → s ≢ t → IsBelow (extended w s) u → IsBelow (extended w t) v → u ≢ v
apart_below w s t u v ne a b e =
    ne (sym (step_behind w.steps s a.rest s) ∙ ap (λ (ss : List Step). get_or ss (length w.steps) s) (sym a.goes_on ∙ ap (λ (x : WayData). x.steps) e ∙ b.goes_on) ∙ step_behind w.steps t b.rest s)

module _ (sheets : List TableSheetData) where
  pub descendants_below : (n : ℕ) (w : WayData) → All (IsBelow w) (with_descendants sheets n w)
  descendants_below zero w = All-cons (IsBelow w) w [] (below_itself w) (all_none (IsBelow w))
  descendants_below (suc n) w =
      All-cons (IsBelow w) w (flat_map (with_descendants sheets n) (children sheets w)) (below_itself w)
      (all_flat_map (λ v. (s : Step) × (v ≡ extended w s)) (IsBelow w) (with_descendants sheets n)
      (λ v made. All-weaker (IsBelow v) (IsBelow w) (λ u b. below_extended w made.0 u (subst (λ (x : WayData). IsBelow x u) made.1 b)) (with_descendants sheets n v) (descendants_below n v))
      (children sheets w) (all_map (λ v. (s : Step) × (v ≡ extended w s)) (extended w) (next_steps sheets w) (λ k d h. (get_or (next_steps sheets w) k d, refl))))

  -- the steps that go on from a way are each another
  abbrev Others : Step → Step → Type 0
  Others s t = s ≢ t

  made_of : (w : WayData) (id : ℕ) (refdes : List ℕ) (sheet : Option ℕ) (s : Step) → step_to w id refdes sheet ≡ Some s → (sheet ≡ Some s.sheet) × (id ≡ s.id)
  made_of w id refdes sheet s e = let facts = step_facts sheets w id refdes sheet s e in (facts.0, facts.2)

  names_apart : (a b : Option ℕ) (m n : ℕ) → NameApart a b → a ≡ Some m → b ≡ Some n → m ≢ n
  names_apart None b m n apart e f = absurd (let h : None ≡ Some m = e in cc)
  names_apart (Some x) None m n apart e f = absurd (let h : None ≡ Some n = f in cc)
  names_apart (Some x) (Some y) m n apart e f = λ same. apart (let g : x ≡ m = cc in let h : y ≡ n = cc in g ∙ same ∙ sym h)

  one_component : (w : WayData) (id : ℕ) (sources : List Source) (refdes : Option (List ℕ)) → AllPairs (λ s t. NameApart s.sheet t.sheet) sources → AllPairs Others (steps_by w id sources refdes)
  one_component w id sources None apart = pairs_none Others
  one_component w id sources (Some refdes) apart =
      pairs_filter_map (λ s t. NameApart s.sheet t.sheet) Others (λ s. step_to w id refdes s.sheet)
      (λ x z y v q e f same. names_apart x.sheet z.sheet y.sheet v.sheet q (made_of w id refdes x.sheet y e).0 (made_of w id refdes z.sheet v f).0 (ap (λ (s : Step). s.sheet) same)) sources apart

  ids_of : (w : WayData) (id : ℕ) (sources : List Source) (refdes : Option (List ℕ)) → All (λ s. id ≡ s.id) (steps_by w id sources refdes)
  ids_of w id sources None = all_none (λ s. id ≡ s.id)
  ids_of w id sources (Some refdes) =
      all_filter_map (λ _. Unit {0}) (λ s. id ≡ s.id) (λ s. step_to w id refdes s.sheet) (λ x y _ e. (made_of w id refdes x.sheet y e).1) sources (λ k d h. tt)

  next_once : (w : WayData) → StandOnce (sheet_at sheets (last_sheet w)) → AllPairs Others (next_steps sheets w)
  next_once w once =
      pairs_flat_map Others (component_steps w) (sheet_at sheets (last_sheet w)).components
      (All-weaker (λ c. AllPairs (λ s t. NameApart s.sheet t.sheet) c.sources) (λ c. AllPairs Others (component_steps w c)) (λ c apart. one_component w c.id c.sources c.refdes apart) (sheet_at sheets (last_sheet w)).components once.sources)
      (pairs_weaker (λ c d. c.id ≢ d.id) (λ c e. All (λ s. All (Others s) (component_steps w e)) (component_steps w c))
      (λ c e ne k d h m f g same. ne (ids_of w c.id c.sources c.refdes k d h ∙ ap (λ (s : Step). s.id) same ∙ sym (ids_of w e.id e.sources e.refdes m f g)))
      (sheet_at sheets (last_sheet w)).components once.ids)

  shorter : (w : WayData) (s : Step) (v : WayData) → IsBelow (extended w s) v → w ≢ v
  shorter w s v b e =
      let len = ap (λ (x : WayData). length x.steps) e in
      let more = ap length b.goes_on in
      let a = length-append (w.steps ++ s ∷ []) b.rest in
      let c = length-append w.steps (s ∷ []) in
      absurd (omega arith)

  below_once : AllStandOnce sheets → (n : ℕ) (w : WayData) → AllPairs ◌≢◌ (with_descendants sheets n w)
  below_once once zero w = AllPairs-cons ◌≢◌ w [] (all_none (λ v. w ≢ v)) (pairs_none ◌≢◌)
  below_once once (suc n) w =
      AllPairs-cons ◌≢◌ w (flat_map (with_descendants sheets n) (children sheets w))
      (all_flat_map (λ v. (s : Step) × (v ≡ extended w s)) (λ v. w ≢ v) (with_descendants sheets n)
      (λ v made. All-weaker (IsBelow v) (λ u. w ≢ u) (λ u b. shorter w made.0 u (subst (λ (x : WayData). IsBelow x u) made.1 b)) (with_descendants sheets n v) (descendants_below n v))
      (children sheets w) (all_map (λ v. (s : Step) × (v ≡ extended w s)) (extended w) (next_steps sheets w) (λ k d h. (get_or (next_steps sheets w) k d, refl))))
      (pairs_flat_map ◌≢◌ (with_descendants sheets n) (children sheets w) (λ k d h. below_once once n (get_or (children sheets w) k d))
      (pairs_map (λ x z. All (λ y. All (λ v. y ≢ v) (with_descendants sheets n z)) (with_descendants sheets n x)) (extended w) (next_steps sheets w)
      (pairs_weaker Others (λ s t. All (λ y. All (λ v. y ≢ v) (with_descendants sheets n (extended w t))) (with_descendants sheets n (extended w s)))
      (λ s t ne. λ k d h m f g. apart_below w s t (get_or (with_descendants sheets n (extended w s)) k d) (get_or (with_descendants sheets n (extended w t)) m f) ne (descendants_below n (extended w s) k d h) (descendants_below n (extended w t) m f g))
      (next_steps sheets w) (next_once w (once (last_sheet w))))))

  roots_once : AllPairs ◌≢◌ (roots sheets)
  roots_once = AllPairs-filter ◌≢◌ (λ place. not (is_named sheets place)) (range_with_len 0 (length sheets)) (range_once 0 (length sheets))

  -- each way stands once
  pub ways_once : AllStandOnce sheets → AllPairs ◌≢◌ (ways sheets)
  ways_once once =
      let n = length sheets in
      pairs_flat_map ◌≢◌ (with_descendants sheets n) (map way_at (roots sheets)) (λ k d h. below_once once n (get_or (map way_at (roots sheets)) k d))
      (pairs_map (λ x z. All (λ y. All (λ v. y ≢ v) (with_descendants sheets n z)) (with_descendants sheets n x)) way_at (roots sheets)
      (pairs_weaker ◌≢◌ (λ p q. All (λ y. All (λ v. y ≢ v) (with_descendants sheets n (way_at q))) (with_descendants sheets n (way_at p)))
      (λ p q ne. λ k d h m f g e. ne (sym (descendants_below n (way_at p) k d h).same_root ∙ ap (λ (w : WayData). w.root) e ∙ (descendants_below n (way_at q) m f g).same_root))
      (roots sheets) roots_once))
