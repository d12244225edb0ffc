-- The map of conductors, as a finite map and against the grid.
use Rattle.std.proofs.Common.{rules, ◌≡◌, ◌≢◌, ◌⊎◌, inl, inr, Bool, true, false, cond, [], ◌∷◌, Option, Some, None, Result, Ok, Err, OnErr, OnOk, is_err, refl, sym, ap, subst, ◌∙◌}
use Rattle.std.specs.Option.{unwrap_or}
use Rattle.std.specs.Cmp.{IsEquivalence, eq_by_cmp_equiv}
use Rattle.std.specs.Cmp.Rules.{comparing}
use Rattle.std.specs.Ordering.{eq_by_cmp}
use Rattle.std.specs.FinMap.{from_entries, get, insert, remove, get-from_entries, get-insert, get-remove, same_map, find}
use Rattle.std.proofs.lemmas.Map.Views.{tells_apart}
use Rattle.geda_geom.specs.declared.conductor.Key.{Key}
use Rattle.geda_geom.specs.declared.conductor.Conductor.{Conductor}
use Rattle.geda_geom.specs.declared.conductor.Point.{Point}
use Rattle.touch_index.specs.declared.grid.Grid.{Grid}
use Rattle.touch_index.specs.declared.grid.LinePoint.{LinePoint}
use Rattle.touch_index.specs.declared.spans.Mark.{Mark}
use Rattle.geda_geom.specs.Keys.{by_key}
use Rattle.touch_index.specs.steps.Strips.{KeepsStrips, KeepsOtherKeys}
use Rattle.touch_index.specs.steps.Grid.{Covers, column_point, ends_of, row_point}
use Rattle.touch_index.specs.steps.Drawn.{AddsMarks, AreDrawn, HasNoMarks, HasPlaces, IsDrawn, IsMarkOf, LosesMarks}
use Rattle.touch_index.specs.steps.Sifting.{Entries, DifferAt, IsIndexed, conductor_at, is_same_key}
use Rattle.touch_index.proofs.DrawnLemmas.{along_key}
use Rattle.touch_index.proofs.GridLemmas.{covers_later}
use Rattle.touch_index.proofs.StripLemmas.{no_mark}
use Rattle.geda_geom.proofs.KeyLemmas.{by_key_total, exact_keys}

-- keys are the same where they compare equal
pub key_ties : (x y : Key) → is_same_key x y ≡ eq_by_cmp by_key x y
key_ties = search (comparing, rules)

pub same_key_equiv : IsEquivalence is_same_key
same_key_equiv = search (comparing, rules)

pub same_key_exact : (x y : Key) → is_same_key x y ≡ true → x ≡ y
same_key_exact x y e = tells_apart exact_keys x y (sym (key_ties x y) ∙ e)

pub key_or_apart : (a b : Key) → (a ≡ b) ⊎ (a ≢ b)
key_or_apart a b = go (is_same_key a b) refl
  where
    go : (t : Bool) → is_same_key a b ≡ t → (a ≡ b) ⊎ (a ≢ b)
    go true e = inl (same_key_exact a b e)
    go false e = inr (λ s. let p : true ≡ false = sym (same_key_equiv.refl a) ∙ ap (is_same_key a) s ∙ e in absurd (cc))

turned : (k q : Key) → is_same_key k q ≡ eq_by_cmp by_key q k
turned k q = key_ties k q ∙ (eq_by_cmp_equiv by_key_total).symm k q

find_key : (es : Entries) (q : Key) → find by_key q es ≡ conductor_at es q
find_key [] q = refl
find_key (e ∷ es) q = λ i. cond (sym (key_ties q e.0) i) (Some e.1) (find_key es q i)

-- what the finite map of the entries has at a key
pub get_key : (es : Entries) (q : Key) → get (from_entries {R = by_key} es) q ≡ conductor_at es q
get_key es q = get-from_entries by_key_total es q ∙ find_key es q

-- entries that differ at one key make maps that differ there
pub one_put : (es fs : Entries) (k : Key) (v : Conductor) → DifferAt k (Some v) es fs → from_entries {R = by_key} fs ≡ insert (from_entries es) k v
one_put es fs k v h = same_map by_key_total exact_keys _ _ (λ q.
    get_key fs q ∙ h q ∙ (λ i. cond (turned k q i) (Some v) (sym (get_key es q) i)) ∙ sym (get-insert by_key_total (from_entries es) k v q))

pub one_gone : (es fs : Entries) (k : Key) → DifferAt k None es fs → from_entries {R = by_key} fs ≡ remove (from_entries es) k
one_gone es fs k h = same_map by_key_total exact_keys _ _ (λ q.
    get_key fs q ∙ h q ∙ (λ i. cond (turned k q i) None (sym (get_key es q) i)) ∙ sym (get-remove by_key_total (from_entries es) k q))

-- a conductor more, in the map and in the grid
pub indexed_more : (m n : Entries) (old new : Grid) (key : Key) (v : Conductor) → DifferAt key (Some v) m n → Covers new v key
    → KeepsStrips old.rows new.rows → KeepsStrips old.columns new.columns → IsIndexed m old → IsIndexed n new
indexed_more m n old new key v updates covered rows columns indexed k d h = go (is_same_key key k) refl (sym (updates k) ∙ h)
  where
    go : (b : Bool) → is_same_key key k ≡ b → cond b (Some v) (conductor_at m k) ≡ Some d → Covers new d k
    go true e p = subst (λ q. Covers new d q) (same_key_exact key k e) (subst (λ x. Covers new x key) (ap (λ o. unwrap_or o v) p) covered)
    go false e p = covers_later old new k (λ s. rows s k) (λ s. columns s k) d (indexed k d p)

-- the grid alone has more
pub indexed_kept : (m : Entries) (old new : Grid) → KeepsStrips old.rows new.rows → KeepsStrips old.columns new.columns → IsIndexed m old → IsIndexed m new
indexed_kept m old new rows columns indexed k d h = covers_later old new k (λ s. rows s k) (λ s. columns s k) d (indexed k d h)

-- the grid alone has less, under a key that is not there
pub indexed_left : (m : Entries) (old new : Grid) (key : Key) → conductor_at m key ≡ None
    → KeepsOtherKeys key old.rows new.rows → KeepsOtherKeys key old.columns new.columns → IsIndexed m old → IsIndexed m new
indexed_left m old new key none rows columns indexed k d h = covers_later old new k (λ s. rows s k apart) (λ s. columns s k apart) d (indexed k d h)
  where
    apart : k ≢ key
    apart e = let p : ◌≡◌ {A = Option Conductor} None (Some d) = sym none ∙ ap (conductor_at m) (sym e) ∙ h in absurd (cc)

-- a conductor less
pub indexed_less : (m n : Entries) (old new : Grid) (key : Key) → DifferAt key None m n
    → KeepsOtherKeys key old.rows new.rows → KeepsOtherKeys key old.columns new.columns → IsIndexed m old → IsIndexed n new
indexed_less m n old new key updates rows columns indexed k d h = go (is_same_key key k) refl (sym (updates k) ∙ h)
  where
    go : (b : Bool) → is_same_key key k ≡ b → cond b None (conductor_at m k) ≡ Some d → Covers new d k
    go true e p = absurd (cc)
    go false e p =
        let apart : k ≢ key = λ same. let both : true ≡ false = sym (same_key_equiv.refl key) ∙ ap (is_same_key key) (sym same) ∙ e in absurd (cc) in
        covers_later old new k (λ s. rows s k apart) (λ s. columns s k apart) d (indexed k d p)

-- what is so of a success
pub ok_holds : {A E P : Type 0} (r : Result A E) → is_err r ≡ false → OnOk r P → P
ok_holds (Ok x) e p = p
ok_holds (Err x) e p = absurd (cc)

-- what is so of an error
pub err_holds : {A E P : Type 0} (r : Result A E) → is_err r ≡ true → OnErr r P → P
err_holds (Ok x) e p = absurd (cc)
err_holds (Err x) e p = p

-- marks of conductors that are there, where one comes
drawn_apart : (es : Entries) (key : Key) → conductor_at es key ≡ None → (lie : Point → LinePoint) (m : Mark) → IsDrawn (conductor_at es) lie m → m.key ≢ key
drawn_apart es key none lie m drawn e =
    let p : ◌≡◌ {A = Option Conductor} None (Some drawn.conductor) = sym none ∙ ap (conductor_at es) (sym e) ∙ drawn.there in absurd (cc)

drawn_alike : (f g : Key → Option Conductor) (lie : Point → LinePoint) (m : Mark) → g m.key ≡ f m.key → IsDrawn f lie m → IsDrawn g lie m
drawn_alike f g lie m same drawn = record { conductor = drawn.conductor; there = same ∙ drawn.there; places = drawn.places; mark = drawn.mark }

at_other : (es fs : Entries) (key : Key) (value : Option Conductor) → DifferAt key value es fs → (q : Key) → q ≢ key → conductor_at fs q ≡ conductor_at es q
at_other es fs key value updates q apart = updates q ∙ go (is_same_key key q) refl
  where
    go : (b : Bool) → is_same_key key q ≡ b → cond b value (conductor_at es q) ≡ conductor_at es q
    go true e = absurd (apart (sym (same_key_exact key q e)))
    go false e = refl

at_key : (es fs : Entries) (key : Key) (value : Option Conductor) → DifferAt key value es fs → conductor_at fs key ≡ value
at_key es fs key value updates = updates key ∙ ap (λ (b : Bool). cond b value (conductor_at es key)) (same_key_equiv.refl key)

module _ (es fs : Entries) (key : Key) (v : Conductor) (none : conductor_at es key ≡ None) (updates : DifferAt key (Some v) es fs) (places : HasPlaces v) where
  mark_more : (lie : Point → LinePoint) (m : Mark) → IsDrawn (conductor_at es) lie m ⊎ IsMarkOf lie v key m → IsDrawn (conductor_at fs) lie m
  mark_more lie m either = elim either [
    | inl was ↦ drawn_alike (conductor_at es) (conductor_at fs) lie m (at_other es fs key (Some v) updates m.key (drawn_apart es key none lie m was)) was
    | inr is ↦
        let own = along_key (lie (ends_of v).0) (lie (ends_of v).1) key m is in
        record {
          conductor = v;
          there = ap (conductor_at fs) own ∙ at_key es fs key (Some v) updates;
          places = places;
          mark = subst (λ (k : Key). IsMarkOf lie v k m) (sym own) is;
        }
  ]

-- a conductor more
pub drawn_more : (es fs : Entries) (old new : Grid) (key : Key) (v : Conductor) → conductor_at es key ≡ None → DifferAt key (Some v) es fs → AddsMarks v key old new
    → AreDrawn (conductor_at es) old → AreDrawn (conductor_at fs) new
drawn_more es fs old new key v none updates adds drawn = record {
  rows = λ m h. mark_more es fs key v none updates adds.places row_point m (elim (adds.rows m h) [ inl was ↦ inl (drawn.rows m was) | inr is ↦ inr is ]);
  columns = λ m h. mark_more es fs key v none updates adds.places column_point m (elim (adds.columns m h) [ inl was ↦ inl (drawn.columns m was) | inr is ↦ inr is ]);
}

-- the marks of a conductor that did not come in go again
pub drawn_left : (at : Key → Option Conductor) (old mid new : Grid) (key : Key) (v : Conductor) → AddsMarks v key old mid → LosesMarks v key mid new → AreDrawn at old → AreDrawn at new
drawn_left at old mid new key v adds loses drawn = record {
  rows = λ m h. let left = loses.rows m h in elim (adds.rows m left.0) [ inl was ↦ drawn.rows m was | inr is ↦ absurd (left.1 is) ];
  columns = λ m h. let left = loses.columns m h in elim (adds.columns m left.0) [ inl was ↦ drawn.columns m was | inr is ↦ absurd (left.1 is) ];
}

module _ (es fs : Entries) (key : Key) (v : Conductor) (there : conductor_at es key ≡ Some v) (updates : DifferAt key None es fs) where
  mark_less : (lie : Point → LinePoint) (m : Mark) → IsDrawn (conductor_at es) lie m → (IsMarkOf lie v key m → ⊥) → IsDrawn (conductor_at fs) lie m
  mark_less lie m drawn gone = elim (key_or_apart m.key key) [
    | inl e ↦
        let same : drawn.conductor ≡ v = ap (λ (o : Option Conductor). unwrap_or o v) (sym drawn.there ∙ ap (conductor_at es) e ∙ there) in
        absurd (gone (subst (λ (d : Conductor). IsMarkOf lie d key m) same (subst (λ (k : Key). IsMarkOf lie drawn.conductor k m) e drawn.mark)))
    | inr apart ↦ drawn_alike (conductor_at es) (conductor_at fs) lie m (at_other es fs key None updates m.key apart) drawn
  ]

-- a conductor less
pub drawn_less : (es fs : Entries) (old new : Grid) (key : Key) (v : Conductor) → conductor_at es key ≡ Some v → DifferAt key None es fs → LosesMarks v key old new
    → AreDrawn (conductor_at es) old → AreDrawn (conductor_at fs) new
drawn_less es fs old new key v there updates loses drawn = record {
  rows = λ m h. let left = loses.rows m h in mark_less es fs key v there updates row_point m (drawn.rows m left.0) left.1;
  columns = λ m h. let left = loses.columns m h in mark_less es fs key v there updates column_point m (drawn.columns m left.0) left.1;
}

-- no conductors, and no marks
pub indexed_none : (es : Entries) (grid : Grid) → es ≡ [] → IsIndexed es grid
indexed_none es grid none k c h =
    let p : ◌≡◌ {A = Option Conductor} None (Some c) = sym (ap (λ (fs : Entries). conductor_at fs k) none) ∙ h in absurd (cc)

pub drawn_none : (at : Key → Option Conductor) (grid : Grid) → HasNoMarks grid → AreDrawn at grid
drawn_none at grid none = record {
  rows = λ m h. absurd (no_mark grid.rows none.rows m h);
  columns = λ m h. absurd (no_mark grid.columns none.columns m h);
}
