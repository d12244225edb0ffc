-- What matchit's walk finds among rows of which each is a text, or a text and then a parameter, and no two
-- take one path: the one row that takes the path.
use Rattle.std.proofs.Common.{◌≡◌, ℕ, zero, suc, ◌-◌, Bool, true, false, ◌&&◌, ◌||◌, not, ◌==◌, cond, List, [], ◌∷◌, length, Option, Some, None, refl, sym, ap, ◌∙◌, subst, arith}
use Rattle.std.proofs.lemmas.Bool.{eqb-true, eq-eqb}
use Rattle.matchit.specs.Rows.{RowsOf}
use Rattle.matchit.specs.Seek.{seek, own, step, or_else, has_slash, segment, longest_from, param_step}

abbrev pub is_nil : List ℕ → Bool
is_nil [] = true
is_nil (x ∷ xs) = false

-- the pattern takes the path
abbrev pub takes : List ℕ → List ℕ → Bool
takes [] path = is_nil path
takes (x ∷ p) [] = false
takes (x ∷ p) (b ∷ path) = cond (x == 256) (cond (x == b) (takes p path) false || not (has_slash (b ∷ path))) (cond (x == b) (takes p path) false)

-- bytes, and at the end perhaps a parameter
abbrev pub simple : List ℕ → Bool
simple [] = true
simple (x ∷ p) = cond (x == 256) (is_nil p) (cond (x == 257) false (simple p))

-- the patterns differ before a parameter, or one ends where the other goes on
abbrev pub apart : List ℕ → List ℕ → Bool
apart [] [] = false
apart [] (y ∷ q) = true
apart (x ∷ p) [] = true
apart (x ∷ p) (y ∷ q) = cond (x == 256) false (cond (y == 256) false (cond (x == y) (apart p q) true))

and0 : (a b : Bool) → (a && b) ≡ true → a ≡ true
and0 true b h = refl
and0 false b h = absurd (let k = h in cc)

and1 : (a b : Bool) → (a && b) ≡ true → b ≡ true
and1 true b h = h
and1 false b h = absurd (let k = h in cc)

no_less : (n : ℕ) → suc n - 1 ≡ n
no_less n = omega arith

module _ {K : Type 0} where
  abbrev pub all_apart : List ℕ → RowsOf K → Bool
  all_apart p [] = true
  all_apart p ((q, k) ∷ rs) = apart p q && all_apart p rs

  abbrev pub good : RowsOf K → Bool
  good [] = true
  good ((p, k) ∷ rs) = simple p && (all_apart p rs && good rs)

  abbrev pub ends_only : RowsOf K → Bool
  ends_only [] = true
  ends_only ((p, k) ∷ rs) = is_nil p && ends_only rs

  -- the first row that takes the path
  abbrev pub found : RowsOf K → List ℕ → Option K
  found [] path = None
  found ((p, k) ∷ rs) path = cond (takes p path) (Some k) (found rs path)

  abbrev pub no_rows : RowsOf K
  no_rows = []

  pub seek_none : (n : ℕ) (path : List ℕ) → seek n no_rows path ≡ None
  unfolding seek param_step
  seek_none zero [] = refl
  seek_none (suc n) [] = refl
  seek_none (suc n) (b ∷ path) = seek_none n path
  seek_none zero (b ∷ path) = go (has_slash (b ∷ path)) (seek_none 0 path) (seek_none (length (b ∷ path) - 1) path)
    where
      go : (s : Bool) → seek 0 no_rows path ≡ None → seek (length (b ∷ path) - 1) no_rows path ≡ None
          → or_else (seek 0 no_rows path) (or_else (seek ((cond {A = ℕ × RowsOf K} s (0, no_rows) (length (b ∷ path), no_rows)).0 - 1) (cond {A = ℕ × RowsOf K} s (0, no_rows) (length (b ∷ path), no_rows)).1 path) None) ≡ None
      go true h i = rw h refl
      go false h i = rw h (rw i refl)

  -- past the bytes that it skips the walk is where it was
  pub seek_skip : (rs : RowsOf K) (path : List ℕ) → seek (length path) rs path ≡ own rs
  unfolding seek
  seek_skip rs [] = refl
  seek_skip rs (b ∷ path) = seek_skip rs path

  pub longest_ends : (seg : List ℕ) (rs : RowsOf K) → ends_only rs ≡ true → longest_from seg [] rs ≡ []
  longest_ends seg [] h = refl
  longest_ends seg (([], k) ∷ rs) h = longest_ends seg rs h
  longest_ends seg ((x ∷ p, k) ∷ rs) h = absurd (let i = h in cc)

  -- the rest of a row with a parameter is nothing
  pub param_ends : (rs : RowsOf K) → good rs ≡ true → ends_only (step 256 rs) ≡ true
  param_ends [] g = refl
  param_ends (([], k) ∷ rs) g = param_ends rs (and1 _ _ g)
  param_ends ((x ∷ p, k) ∷ rs) g = go (x == 256) refl (param_ends rs (and1 _ _ (and1 _ _ g)))
    where
      go : (f : Bool) → (x == 256) ≡ f → ends_only (step 256 rs) ≡ true → ends_only (cond f ((p, k) ∷ step 256 rs) (step 256 rs)) ≡ true
      go false e tail = tail
      go true e tail = let s : is_nil p ≡ true = subst (λ f. cond f (is_nil p) (cond (x == 257) false (simple p)) ≡ true) e (and0 _ _ g) in rw s tail

  -- no row has a catch-all
  pub catch_none : (rs : RowsOf K) → good rs ≡ true → own (step 257 rs) ≡ None
  catch_none [] g = refl
  catch_none (([], k) ∷ rs) g = catch_none rs (and1 _ _ g)
  catch_none ((x ∷ p, k) ∷ rs) g = go (x == 257) refl (x == 256) refl (catch_none rs (and1 _ _ (and1 _ _ g)))
    where
      go : (f : Bool) → (x == 257) ≡ f → (e : Bool) → (x == 256) ≡ e → own (step 257 rs) ≡ None → own (cond f ((p, k) ∷ step 257 rs) (step 257 rs)) ≡ None
      go false h e i tail = tail
      go true h true i tail = let a = eqb-true x 257 h in let b = eqb-true x 256 i in absurd (omega (arith, a, b))
      go true h false i tail =
          let s : cond (x == 257) false (simple p) ≡ true = subst (λ e. cond e (is_nil p) (cond (x == 257) false (simple p)) ≡ true) i (and0 _ _ g) in
          let t : false ≡ true = subst (λ f. cond f false (simple p) ≡ true) h s in
          absurd (let u = t in cc)

  -- what a parameter takes
  pub param_walk : (rs : RowsOf K) (b : ℕ) (path : List ℕ) → ends_only rs ≡ true
      → seek ((param_step rs (b ∷ path)).0 - 1) (param_step rs (b ∷ path)).1 path ≡ cond (has_slash (b ∷ path)) None (own rs)
  unfolding param_step
  param_walk rs b path h = rw (longest_ends (segment (b ∷ path)) rs h) (go (has_slash (b ∷ path)))
    where
      go : (s : Bool) → seek ((cond {A = ℕ × RowsOf K} s (0, no_rows) (length (b ∷ path), rs)).0 - 1) (cond {A = ℕ × RowsOf K} s (0, no_rows) (length (b ∷ path), rs)).1 path ≡ cond s None (own rs)
      go true = seek_none 0 path
      go false = rw (no_less (length path)) (seek_skip rs path)

  -- beside a row that is one parameter there are only ends
  pub nil_step : (x b : ℕ) (rs : RowsOf K) → (x == 256) ≡ true → all_apart (x ∷ []) rs ≡ true → step b rs ≡ []
  nil_step x b [] e h = refl
  nil_step x b (([], k) ∷ rs) e h = nil_step x b rs e h
  nil_step x b ((y ∷ q, k) ∷ rs) e h =
      let t : false ≡ true = subst (λ f. cond f false (cond (y == 256) false (cond (x == y) (apart [] q) true)) ≡ true) e (and0 _ _ h) in
      absurd (let u = t in cc)

  pub nil_found : (x b : ℕ) (path : List ℕ) (rs : RowsOf K) → (x == 256) ≡ true → all_apart (x ∷ []) rs ≡ true → found rs (b ∷ path) ≡ None
  nil_found x b path [] e h = refl
  nil_found x b path (([], k) ∷ rs) e h = nil_found x b path rs e h
  nil_found x b path ((y ∷ q, k) ∷ rs) e h =
      let t : false ≡ true = subst (λ f. cond f false (cond (y == 256) false (cond (x == y) (apart [] q) true)) ≡ true) e (and0 _ _ h) in
      absurd (let u = t in cc)

  apart_step : (x b : ℕ) (p : List ℕ) (rs : RowsOf K) → (x == 256) ≡ false → (x == b) ≡ true → all_apart (x ∷ p) rs ≡ true → all_apart p (step b rs) ≡ true
  apart_step x b p [] f e h = refl
  apart_step x b p (([], k) ∷ rs) f e h = apart_step x b p rs f e h
  apart_step x b p ((y ∷ q, k) ∷ rs) f e h = go (y == b) refl (apart_step x b p rs f e (and1 _ _ h))
    where
      here : cond (y == 256) false (cond (x == y) (apart p q) true) ≡ true
      here = subst (λ g. cond g false (cond (y == 256) false (cond (x == y) (apart p q) true)) ≡ true) f (and0 _ _ h)

      go : (d : Bool) → (y == b) ≡ d → all_apart p (step b rs) ≡ true → all_apart p (cond d ((q, k) ∷ step b rs) (step b rs)) ≡ true
      go false i tail = tail
      go true i tail = inner (y == 256) refl
        where
          same : (x == y) ≡ true
          same = eq-eqb x y (eqb-true x b e ∙ sym (eqb-true y b i))

          inner : (c : Bool) → (y == 256) ≡ c → (apart p q && all_apart p (step b rs)) ≡ true
          inner true j = let t : false ≡ true = subst (λ g. cond g false (cond (x == y) (apart p q) true) ≡ true) j here in absurd (let u = t in cc)
          inner false j =
              let t : cond (x == y) (apart p q) true ≡ true = subst (λ g. cond g false (cond (x == y) (apart p q) true) ≡ true) j here in
              let a : apart p q ≡ true = subst (λ g. cond g (apart p q) true ≡ true) same t in
              rw a tail

  step_good : (b : ℕ) (rs : RowsOf K) → good rs ≡ true → good (step b rs) ≡ true
  step_good b [] g = refl
  step_good b (([], k) ∷ rs) g = step_good b rs (and1 _ _ g)
  step_good b ((x ∷ p, k) ∷ rs) g = go (x == b) refl (x == 256) refl (step_good b rs (and1 _ _ (and1 _ _ g)))
    where
      others : all_apart (x ∷ p) rs ≡ true
      others = and0 (all_apart (x ∷ p) rs) (good rs) (and1 (simple (x ∷ p)) (all_apart (x ∷ p) rs && good rs) g)

      go : (e : Bool) → (x == b) ≡ e → (f : Bool) → (x == 256) ≡ f → good (step b rs) ≡ true → good (cond e ((p, k) ∷ step b rs) (step b rs)) ≡ true
      go false i f j tail = tail
      go true i false j tail =
          let s : cond (x == 257) false (simple p) ≡ true = subst (λ f. cond f (is_nil p) (cond (x == 257) false (simple p)) ≡ true) j (and0 _ _ g) in
          let t : simple p ≡ true = inner (x == 257) s in
          rw t (rw (apart_step x b p rs j i others) tail)
        where
          inner : (c : Bool) → cond c false (simple p) ≡ true → simple p ≡ true
          inner false s = s
          inner true s = absurd (let u = s in cc)
      go true i true j tail = ends p others (subst (λ f. cond f (is_nil p) (cond (x == 257) false (simple p)) ≡ true) j (and0 _ _ g))
        where
          ends : (p : List ℕ) → all_apart (x ∷ p) rs ≡ true → is_nil p ≡ true → good ((p, k) ∷ step b rs) ≡ true
          ends [] o n = rw (nil_step x b rs j o) refl
          ends (y ∷ p) o n = absurd (let u = n in cc)

  own_found : (rs : RowsOf K) → own rs ≡ found rs []
  own_found [] = refl
  own_found (([], k) ∷ rs) = refl
  own_found ((x ∷ p, k) ∷ rs) = own_found rs

  -- one byte on
  level : (b : ℕ) (path : List ℕ) (rs : RowsOf K) → good rs ≡ true
      → or_else (found (step b rs) path) (cond (has_slash (b ∷ path)) None (own (step 256 rs))) ≡ found rs (b ∷ path)
  level b path [] g = go (has_slash (b ∷ path))
    where
      none : Option K
      none = None

      go : (s : Bool) → or_else none (cond s None none) ≡ none
      go true = refl
      go false = refl
  level b path (([], k) ∷ rs) g = level b path rs (and1 _ _ g)
  level b path ((x ∷ p, k) ∷ rs) g = go (x == 256) refl (x == b) (has_slash (b ∷ path)) refl (level b path rs (and1 _ _ (and1 _ _ g)))
    where
      others : all_apart (x ∷ p) rs ≡ true
      others = and0 (all_apart (x ∷ p) rs) (good rs) (and1 (simple (x ∷ p)) (all_apart (x ∷ p) rs && good rs) g)

      plain : (t : Bool) (lit par rest : Option K) → or_else lit par ≡ rest → or_else (cond t (Some k) lit) par ≡ cond t (Some k) rest
      plain true lit par rest h = refl
      plain false lit par rest h = h

      with_param : (t s : Bool) (lit rest : Option K) → lit ≡ None → rest ≡ None → or_else (cond t (Some k) lit) (cond s None (Some k)) ≡ cond (t || not s) (Some k) rest
      with_param true s lit rest a c = refl
      with_param false true lit rest a c = rw a (sym c)
      with_param false false lit rest a c = rw a refl

      ends : (p : List ℕ) (e s : Bool) → (x == 256) ≡ true → all_apart (x ∷ p) rs ≡ true → is_nil p ≡ true
          → or_else (found (cond e ((p, k) ∷ step b rs) (step b rs)) path) (cond s None (own ((p, k) ∷ step 256 rs))) ≡ cond (cond e (takes p path) false || not s) (Some k) (found rs (b ∷ path))
      ends [] true s j o n = with_param (is_nil path) s (found (step b rs) path) (found rs (b ∷ path)) (ap (λ r. found r path) (nil_step x b rs j o)) (nil_found x b path rs j o)
      ends [] false s j o n = with_param false s (found (step b rs) path) (found rs (b ∷ path)) (ap (λ r. found r path) (nil_step x b rs j o)) (nil_found x b path rs j o)
      ends (y ∷ p) e s j o n = absurd (let u = n in cc)

      go : (f : Bool) → (x == 256) ≡ f → (e : Bool) (s : Bool) → has_slash (b ∷ path) ≡ s
          → or_else (found (step b rs) path) (cond (has_slash (b ∷ path)) None (own (step 256 rs))) ≡ found rs (b ∷ path)
          → or_else (found (cond e ((p, k) ∷ step b rs) (step b rs)) path) (cond s None (own (cond f ((p, k) ∷ step 256 rs) (step 256 rs))))
          ≡ cond (cond f (cond e (takes p path) false || not s) (cond e (takes p path) false)) (Some k) (found rs (b ∷ path))
      go false j true s i tail = plain (takes p path) (found (step b rs) path) (cond s None (own (step 256 rs))) (found rs (b ∷ path)) (subst (λ s. or_else (found (step b rs) path) (cond s None (own (step 256 rs))) ≡ found rs (b ∷ path)) i tail)
      go false j false s i tail = subst (λ s. or_else (found (step b rs) path) (cond s None (own (step 256 rs))) ≡ found rs (b ∷ path)) i tail
      go true j e s i tail = ends p e s j others (subst (λ f. cond f (is_nil p) (cond (x == 257) false (simple p)) ≡ true) j (and0 _ _ g))

  pub walk : (rs : RowsOf K) (path : List ℕ) → good rs ≡ true → seek 0 rs path ≡ found rs path
  unfolding seek
  walk rs [] g = own_found rs
  walk rs (b ∷ path) g =
      three (walk (step b rs) path (step_good b rs g)) (param_walk (step 256 rs) b path (param_ends rs g)) (catch_none rs g)
      ∙ level b path rs g
    where
      last_none : (o : Option K) → or_else o None ≡ o
      last_none None = refl
      last_none (Some k) = refl

      three : {l m q l2 m2 : Option K} → l ≡ l2 → m ≡ m2 → q ≡ None → or_else l (or_else m q) ≡ or_else l2 m2
      three {m2 = m2} a c d = rw a (rw c (rw d (rw (last_none m2) refl)))
