-- Packages by the ranks of parts, with what all parts tell of them, are the packages of these parts.
use Rattle.std.proofs.Common.{◌≡◌, ◌⊎◌, ℕ, suc, ◌+◌, ◌<◌, ◌==◌, Bool, true, false, cond, List, [], ◌∷◌, ◌++◌, length, map, get_or, Option, Some, None, refl, sym, ap, subst, ◌∙◌, arith, inl, inr}
use Rattle.std.specs.Prelude.{All, slice_index, slice_index_or}
use Rattle.std.specs.declared.cmp.Ordering.{Ordering}
use Rattle.std.specs.declared.cmp.Ordering.TheVariants.{Less, Equal, Greater}
use Rattle.std.specs.Cmp.{nat_cmp_total, tied_itself}
use Rattle.std.specs.List.{cons_option, filter_map, find, slice_get}
use Rattle.std.specs.Option.{option_or, option_to_list}
use Rattle.std.specs.Ordering.{is_eq, nat_cmp}
use Rattle.std.specs.Str.{bytes_eq}
use Rattle.std.proofs.lemmas.Bool.{cases_eq, eq-eqb, ne_eqb}
use Rattle.std.proofs.lemmas.List.{get_or-map, get_or-set_other, get_or-set_same, get_or_default, length-map, length-set, same_lists}
use Rattle.std.proofs.lemmas.List.Elements.{All-append, All-cons, All-get_or, All-nil}
use Rattle.std.proofs.lemmas.Map.Lookups.{exact_bytes, exact_unsigned}
use Rattle.std.proofs.lemmas.Map.Text.{is_eq-slice_cmp}
use Rattle.std.proofs.lemmas.Slice.Eq.{bytes_eq-Decides}
use Rattle.geda_defs.proofs.Bytes.{bytes_same}
use Rattle.geda_defs.specs.Order.{by_bytes, is_equal, once_in_order}
use Rattle.geda_defs.proofs.OnceLaws.{is_once_in_order, option_or-assoc, option_or-none}
use Rattle.rank_order.specs.Chains.{AreChains, IsWalk}
use Rattle.rank_order.specs.Keys.{AreRanks}
use Rattle.rank_order.specs.Ranks.{places_from}
use Rattle.rank_order.proofs.KeyLemmas.{rising_compares}
use Rattle.rank_order.proofs.RankedKeys.{rank_below, rank_reads}
use Rattle.net_list.specs.declared.package.Package.{Package}
use Rattle.flat_rows.specs.Keyed.{Keyed, keyed_at, keyed_from}
use Rattle.net_names.specs.Packages.{attr_in_package, package_attr, package_of, packages_by}
use Rattle.net_names.specs.declared.packages.Attribute.{Attribute}
use Rattle.net_names.specs.declared.packages.Attribute.TheVariants.{Device, Value, Footprint}
use Rattle.net_names.specs.steps.Orders.{by_bytes_total}
use Rattle.net_names.specs.steps.PackageRows.{bare_package, with_keyed, with_text, with_texts}

-- ---- one refdes

-- what is refuted is false
refuted : (b : Bool) → (b ≡ true → ⊥) → b ≡ false
refuted true h = absurd (h refl)
refuted false h = refl

-- the order finds equal bytes alone
equal_false : (a b : List ℕ) → bytes_eq a b ≡ false → is_equal by_bytes b a ≡ false
equal_false a b e = is_eq-slice_cmp b a ∙ refuted (bytes_eq b a) (λ h.
    let there : bytes_eq a b ≡ true = (bytes_eq-Decides a b).1 (sym (bytes_same b a h)) in
    let clash : true ≡ false = sym there ∙ e in
    cc)

-- what a part tells
abbrev Tells : Type 0
Tells = Package → Option (List ℕ)

first_cons : (v : Option (List ℕ)) (vs : List (List ℕ)) → slice_get (cons_option v vs) 0 ≡ option_or v (slice_get vs 0)
first_cons None vs = refl
first_cons (Some v) vs = refl

-- the attribute of a package is that of the first part, else of the others
first_of : (q : List ℕ) (f : Tells) (part : Package) (parts : List Package) → package_attr (part ∷ parts) q f ≡ option_or (attr_in_package q f part) (package_attr parts q f)
first_of q f part parts = first_cons (attr_in_package q f part) (filter_map (attr_in_package q f) parts)

-- the refdes of each part
abbrev refdeses : List Package → List (List ℕ)
refdeses parts = map (λ part. part.refdes) parts

-- ---- texts of one rank

-- the first text of the parts of a rank
abbrev first_text : List ℕ → ℕ → List (Keyed (List ℕ)) → Option (List ℕ)
first_text ranks r [] = None
first_text ranks r (t ∷ ts) = cond (slice_index ranks t.1 == r) (Some t.0) (first_text ranks r ts)

-- where a rank tells a refdes, this is the attribute of its package
first_is : (f : Tells) (q : List ℕ) (ranks : List ℕ) (r place : ℕ) (parts : List Package)
    → ((j k : ℕ) → j < length parts → k ≡ place + j → (slice_index ranks k == r) ≡ bytes_eq (get_or (refdeses parts) j []) q)
    → first_text ranks r (keyed_from (λ p. option_to_list (f p)) place parts) ≡ package_attr parts q f
first_is f q ranks r place [] told = refl
first_is f q ranks r place (part ∷ parts) told =
    by (f part) (bytes_eq part.refdes q) (told 0 place (omega arith) (omega arith)) (first_is f q ranks r (place + 1) parts (λ j k lt e. told (suc j) k (omega (arith, lt)) (omega (arith, e))))
    ∙ sym (first_of q f part parts)
  where
    rest : List (Keyed (List ℕ))
    rest = keyed_from (λ p. option_to_list (f p)) (place + 1) parts

    by : (o : Option (List ℕ)) (b : Bool) → (slice_index ranks place == r) ≡ b → first_text ranks r rest ≡ package_attr parts q f
        → first_text ranks r (keyed_at place (option_to_list o) ++ rest) ≡ option_or (cond b o None) (package_attr parts q f)
    by None true e h = h
    by None false e h = h
    by (Some text) true e h = rw e refl
    by (Some text) false e h = rw e h

with_none : (a : Attribute) (p : Package) → with_text a p None ≡ p
with_none Device p = rw (option_or-none p.device) refl
with_none Value p = rw (option_or-none p.value) refl
with_none Footprint p = rw (option_or-none p.footprint) refl

-- what is there stays
with_first : (a : Attribute) (p : Package) (text : List ℕ) (o : Option (List ℕ)) → with_text a (with_text a p (Some text)) o ≡ with_text a p (Some text)
with_first Device p text o = rw (option_or-assoc p.device (Some text) o) refl
with_first Value p text o = rw (option_or-assoc p.value (Some text) o) refl
with_first Footprint p text o = rw (option_or-assoc p.footprint (Some text) o) refl

texts_length : (a : Attribute) (ranks : List ℕ) (packages : List Package) (ts : List (Keyed (List ℕ))) → length (with_texts a ranks packages ts) ≡ length packages
texts_length a ranks packages [] = refl
texts_length a ranks packages (t ∷ ts) = texts_length a ranks (with_keyed a ranks packages t) ts ∙ length-set packages _ _

texts_count : (a : Attribute) (ranks : List ℕ) (old new : List Package) (ts : List (Keyed (List ℕ))) (count : ℕ) → new ≡ with_texts a ranks old ts → length old ≡ count → length new ≡ count
texts_count a ranks old new ts count e h = ap length e ∙ texts_length a ranks old ts ∙ h

one_text : (a : Attribute) (ranks : List ℕ) (packages : List Package) (t : Keyed (List ℕ)) (r : ℕ) → r < length packages
    → get_or (with_keyed a ranks packages t) r (bare_package []) ≡ cond (slice_index ranks t.1 == r) (with_text a (get_or packages r (bare_package [])) (Some t.0)) (get_or packages r (bare_package []))
one_text a ranks packages t r h = elim (cases_eq (slice_index ranks t.1) r) [
  | inl e ↦ rw (e, get_or-set_same packages r (with_text a (get_or packages r (bare_package [])) (Some t.0)) (bare_package []) h, eq-eqb r r refl) refl
  | inr ne ↦ rw (
    get_or-set_other packages (slice_index ranks t.1) r (with_text a (get_or packages (slice_index ranks t.1) (bare_package [])) (Some t.0)) (bare_package []) (λ x. ne (sym x)),
    ne_eqb (slice_index ranks t.1) r ne,
  ) refl
]

-- the package of a rank has the first text of it
texts_at : (a : Attribute) (ranks : List ℕ) (r : ℕ) (packages : List Package) (ts : List (Keyed (List ℕ))) → r < length packages
    → get_or (with_texts a ranks packages ts) r (bare_package []) ≡ with_text a (get_or packages r (bare_package [])) (first_text ranks r ts)
texts_at a ranks r packages [] h = sym (with_none a (get_or packages r (bare_package [])))
texts_at a ranks r packages (t ∷ ts) h =
    let more = with_keyed a ranks packages t in
    texts_at a ranks r more ts (subst (λ (n : ℕ). r < n) (sym (length-set packages _ _)) h)
    ∙ ap (λ (p : Package). with_text a p (first_text ranks r ts)) (one_text a ranks packages t r h)
    ∙ by (slice_index ranks t.1 == r)
  where
    known : Package
    known = get_or packages r (bare_package [])

    by : (b : Bool) → with_text a (cond b (with_text a known (Some t.0)) known) (first_text ranks r ts) ≡ with_text a known (cond b (Some t.0) (first_text ranks r ts))
    by true = with_first a known t.0 (first_text ranks r ts)
    by false = refl

-- ---- the first place of a rank

-- a list begins with a place, counted from another one, of a key
abbrev Begins : List ℕ → ℕ → List (List ℕ) → List ℕ → Type 0
Begins [] s keys q = ⊥
Begins (p ∷ ps) s keys q = (j : ℕ) × (p ≡ s + j) × (j < length keys) × (get_or keys j [] ≡ q)

begins_on : (ps : List ℕ) (s : ℕ) (key : List ℕ) (keys : List (List ℕ)) (q : List ℕ) → Begins ps (s + 1) keys q → Begins ps s (key ∷ keys) q
begins_on [] s key keys q b = b
begins_on (p ∷ ps) s key keys q b = (suc b.0, omega (arith, b.1), omega (arith, b.2), b.3)

-- where a rank tells a key that is there, its places begin with one of it
begins : (q : List ℕ) (r s : ℕ) (ranks : List ℕ) (keys : List (List ℕ)) → length ranks ≡ length keys
    → ((j : ℕ) → j < length keys → (slice_index ranks j == r) ≡ bytes_eq (get_or keys j []) q) → find (is_equal by_bytes q) keys ≡ Some q → Begins (places_from s ranks r) s keys q
begins q r s [] [] len told e = absurd (let clash : None ≡ Some q = e in cc)
begins q r s [] (key ∷ keys) len told e = absurd (omega (arith, len))
begins q r s (rank ∷ ranks) [] len told e = absurd (omega (arith, len))
begins q r s (rank ∷ ranks) (key ∷ keys) len told e =
    by (rank == r) (told 0 (omega arith)) (λ found. begins q r (s + 1) ranks keys (omega (arith, len)) (λ j lt. told (suc j) (omega (arith, lt))) found)
  where
    goes_on : bytes_eq key q ≡ false → find (is_equal by_bytes q) keys ≡ Some q
    goes_on other = sym (ap (λ (b : Bool). cond b (Some key) (find (is_equal by_bytes q) keys)) (equal_false key q other)) ∙ e

    by : (b : Bool) → b ≡ bytes_eq key q → (find (is_equal by_bytes q) keys ≡ Some q → Begins (places_from (s + 1) ranks r) (s + 1) keys q)
        → Begins (cond b (s ∷ places_from (s + 1) ranks r) (places_from (s + 1) ranks r)) s (key ∷ keys) q
    by true same rest = (0, omega arith, omega arith, bytes_same key q (sym same))
    by false other rest = begins_on (places_from (s + 1) ranks r) s key keys q (rest (goes_on (sym other)))

-- ---- places of what has keys

keyed_own : {K : Type 0} (n place : ℕ) (ks : List K) → place < n → All (λ k. k.1 < n) (keyed_at place ks)
keyed_own {K} n place [] h = All-nil (λ (k : Keyed K). k.1 < n)
keyed_own {K} n place (k ∷ ks) h = All-cons (λ (k : Keyed K). k.1 < n) (k, place) (keyed_at place ks) h (keyed_own n place ks h)

keyed_below : {C K : Type 0} (keys : C → List K) (n place : ℕ) (cs : List C) → place + length cs ≡ n → All (λ k. k.1 < n) (keyed_from keys place cs)
keyed_below {C} {K} keys n place [] e = All-nil (λ (k : Keyed K). k.1 < n)
keyed_below {C} {K} keys n place (c ∷ cs) e =
    All-append (λ (k : Keyed K). k.1 < n) (keyed_at place (keys c)) (keyed_from keys (place + 1) cs) (keyed_own n place (keys c) (omega (arith, e)))
    (keyed_below keys n (place + 1) cs (omega (arith, e)))

-- ---- all of them

equal_places : (a b : ℕ) → (a == b) ≡ is_eq (nat_cmp a b)
equal_places a b = by (cases_eq a b)
  where
    other : (r : Ordering) → (r ≡ Equal → ⊥) → is_eq r ≡ false
    other Less h = refl
    other Equal h = absurd (h refl)
    other Greater h = refl

    by : (a ≡ b) ⊎ (a ≡ b → ⊥) → (a == b) ≡ is_eq (nat_cmp a b)
    by (inl e) = eq-eqb a b e ∙ sym (ap is_eq (ap (nat_cmp a) (sym e) ∙ tied_itself nat_cmp_total a))
    by (inr ne) = ne_eqb a b ne ∙ sym (other (nat_cmp a b) (λ e. ne (exact_unsigned a b e)))

-- ranks of refdeses
module _ (keys : List (List ℕ)) (ranks : List ℕ) (count : ℕ) (are : AreRanks by_bytes keys ranks count) where
  abbrev listed : List (List ℕ)
  listed = once_in_order by_bytes keys

  pub ranks_fit : All (λ rank. rank < count) ranks
  ranks_fit = λ k d h.
      let inside : k < length keys = omega (arith, h, are.len) in
      subst (λ (n : ℕ). n < count) (get_or_default ranks k 0 d h) (rank_below by_bytes_total keys ranks count are k inside)

  pub ranks_fit_in : (packages : List Package) → length packages ≡ count → All (λ rank. rank < length packages) ranks
  ranks_fit_in packages e = subst (λ (n : ℕ). All (λ rank. rank < n) ranks) (sym e) ranks_fit

  pub bare_count : (first : List Package) → first ≡ map bare_package listed → length first ≡ count
  bare_count first begun = ap length begun ∙ length-map listed bare_package ∙ sym are.all

  tells : (r : ℕ) → r < count → (j : ℕ) → j < length keys → (slice_index ranks j == r) ≡ bytes_eq (get_or keys j []) (get_or listed r [])
  tells r h j inside =
      let rank = slice_index ranks j in
      let below : rank < length listed = subst (λ (n : ℕ). rank < n) are.all (rank_below by_bytes_total keys ranks count are j inside) in
      let here : get_or listed rank [] ≡ get_or keys j [] = exact_bytes (get_or listed rank []) (get_or keys j []) (rank_reads by_bytes_total keys ranks count are j [] inside) in
      equal_places rank r
      ∙ ap is_eq (rising_compares by_bytes_total listed rank r [] (is_once_in_order by_bytes_total keys).rising below (subst (λ (n : ℕ). r < n) are.all h))
      ∙ ap (λ (x : List ℕ). is_eq (by_bytes x (get_or listed r []))) here
      ∙ is_eq-slice_cmp (get_or keys j []) (get_or listed r [])

  stands : (r : ℕ) → r < count → find (is_equal by_bytes (get_or listed r [])) keys ≡ Some (get_or listed r [])
  stands r h = All-get_or (λ y. find (is_equal by_bytes y) keys ≡ Some y) listed r [] (subst (λ (n : ℕ). r < n) are.all h) (is_once_in_order by_bytes_total keys).first

  -- at the first place of a rank stands its refdes
  record IsAt (place r : ℕ) : Type 0 where
    inside : place < length keys
    reads : get_or keys place [] ≡ get_or listed r []

  module _ (heads nexts : List ℕ) (chains : AreChains ranks count heads nexts) where
    first_at : (r : ℕ) → r < count → IsAt (slice_index heads r) r
    first_at r h = by (places_from 0 ranks r) (chains.walk r h) (begins (get_or listed r []) r 0 ranks keys are.len (tells r h) (stands r h))
      where
        by : (ps : List ℕ) → IsWalk nexts (slice_index heads r) ps → Begins ps 0 keys (get_or listed r []) → IsAt (slice_index heads r) r
        by [] walk b = absurd b
        by (p ∷ ps) walk b =
            let at : b.0 ≡ slice_index heads r = omega (arith, walk.0, b.1) in
            record {
              inside = subst (λ (n : ℕ). n < length keys) at b.2;
              reads = subst (λ (n : ℕ). get_or keys n [] ≡ get_or listed r []) at b.3;
            }

    pub firsts_fit : All (λ place. place < length keys) heads
    firsts_fit = λ k d h. subst (λ (n : ℕ). n < length keys) (get_or_default heads k 0 d h) (first_at k (omega (arith, h, chains.all_ranks))).inside

    -- the refdeses at the first places are all refdeses in order
    pub firsts_are : map (λ place. bare_package (slice_index_or keys place [])) heads ≡ map bare_package listed
    firsts_are =
        let bare_at : ℕ → Package = λ place. bare_package (slice_index_or keys place []) in
        let count_heads : length (map bare_at heads) ≡ length heads = length-map heads bare_at in
        let count_listed : length (map bare_package listed) ≡ length listed = length-map listed bare_package in
        same_lists (map bare_at heads) (map bare_package listed) (count_heads ∙ chains.all_ranks ∙ are.all ∙ sym count_listed) (λ r d lt.
        let inside : r < length heads = omega (arith, lt, count_heads) in
        let h : r < count = omega (arith, inside, chains.all_ranks) in
        get_or-map bare_at heads r 0 d inside
        ∙ ap bare_package (first_at r h).reads
        ∙ sym (get_or-map bare_package listed r [] d (subst (λ (n : ℕ). r < n) are.all h)))

module _ (parts : List Package) (ranks : List ℕ) (count : ℕ) (are : AreRanks by_bytes (map (λ p. p.refdes) parts) ranks count) where
  abbrev names : List (List ℕ)
  names = once_in_order by_bytes (map (λ p. p.refdes) parts)

  -- what a list of texts tells of each rank
  told_of : (f : Tells) (r : ℕ) → r < count → first_text ranks r (keyed_from (λ p. option_to_list (f p)) 0 parts) ≡ package_attr parts (get_or names r []) f
  told_of f r h = first_is f (get_or names r []) ranks r 0 parts (λ j k lt e.
      let at : k ≡ j = omega (arith, e) in
      ap (λ (i : ℕ). slice_index ranks i == r) at
      ∙ tells (map (λ p. p.refdes) parts) ranks count are r h j (omega (arith, lt, length-map parts (λ (p : Package). p.refdes))))

  -- the places of what parts tell are places of ranks
  pub places_fit : (f : Tells) → All (λ t. t.1 < length ranks) (keyed_from (λ p. option_to_list (f p)) 0 parts)
  places_fit f = keyed_below (λ p. option_to_list (f p)) (length ranks) 0 parts (let e : 0 + length parts ≡ length ranks = omega (arith, are.len, length-map parts (λ (p : Package). p.refdes)) in e)

  -- packages with the texts of all parts are theirs
  module _ (first second third fourth : List Package) (begun : first ≡ map bare_package names)
      (devices : second ≡ with_texts Device ranks first (keyed_from (λ p. option_to_list p.device) 0 parts))
      (values : third ≡ with_texts Value ranks second (keyed_from (λ p. option_to_list p.value) 0 parts))
      (footprints : fourth ≡ with_texts Footprint ranks third (keyed_from (λ p. option_to_list p.footprint) 0 parts)) where
    first_count : length first ≡ count
    first_count = bare_count (map (λ p. p.refdes) parts) ranks count are first begun

    second_count : length second ≡ count
    second_count = texts_count Device ranks first second (keyed_from (λ p. option_to_list p.device) 0 parts) count devices first_count

    third_count : length third ≡ count
    third_count = texts_count Value ranks second third (keyed_from (λ p. option_to_list p.value) 0 parts) count values second_count

    fourth_count : length fourth ≡ count
    fourth_count = texts_count Footprint ranks third fourth (keyed_from (λ p. option_to_list p.footprint) 0 parts) count footprints third_count

    package_at : (r : ℕ) → r < count → get_or fourth r (bare_package []) ≡ package_of parts (get_or names r [])
    package_at r h =
        let inside : r < length names = subst (λ (n : ℕ). r < n) are.all h in
        let one = ap (λ (ps : List Package). get_or ps r (bare_package [])) begun ∙ get_or-map bare_package names r [] (bare_package []) inside in
        let two = ap (λ (ps : List Package). get_or ps r (bare_package [])) devices ∙ texts_at Device ranks r first (keyed_from (λ p. option_to_list p.device) 0 parts) (omega (arith, h, first_count)) in
        let three = ap (λ (ps : List Package). get_or ps r (bare_package [])) values ∙ texts_at Value ranks r second (keyed_from (λ p. option_to_list p.value) 0 parts) (omega (arith, h, second_count)) in
        let four = ap (λ (ps : List Package). get_or ps r (bare_package [])) footprints ∙ texts_at Footprint ranks r third (keyed_from (λ p. option_to_list p.footprint) 0 parts) (omega (arith, h, third_count)) in
        four ∙ rw (three, two, one, told_of (λ p. p.device) r h, told_of (λ p. p.value) r h, told_of (λ p. p.footprint) r h) refl

    pub packages_are : fourth ≡ packages_by parts
    packages_are =
        let count_names : length (map (package_of parts) names) ≡ length names = length-map names (package_of parts) in
        same_lists fourth (map (package_of parts) names) (fourth_count ∙ are.all ∙ sym count_names) (λ r d lt.
        let h : r < count = omega (arith, lt, fourth_count) in
        get_or_default fourth r d (bare_package []) lt ∙ package_at r h ∙ sym (get_or-map (package_of parts) names r [] d (subst (λ (n : ℕ). r < n) are.all h)))
