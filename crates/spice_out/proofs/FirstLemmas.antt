-- Where pin numbers are first, with one pin more.
use Rattle.std.proofs.Common.{◌≡◌, ◌∙◌, ◌||◌, ◌+◌, ℕ, Bool, true, false, cond, List, [], ◌∷◌, ◌++◌, Option, Some, None, fold, length, map, refl, sym, ap, nat_cmp}
use Rattle.std.specs.BTreeMap.{UpdatesBy, btree_map_len}
use Rattle.std.specs.Cmp.Lexicographic.{slice_cmp, nat_list_eq_equiv}
use Rattle.std.specs.List.{find, flat_map, list_all, list_any}
use Rattle.std.specs.Option.{is_some, option_map, option_or}
use Rattle.std.specs.Str.{bytes_eq}
use Rattle.std.proofs.lemmas.List.{length-append, map-append}
use Rattle.std.proofs.lemmas.List.Folds.{find-append}
use Rattle.std.proofs.lemmas.List.Sums.{fold-append}
use Rattle.std.proofs.lemmas.Map.Text.{btree_map_updates_str}
use Rattle.std.proofs.lemmas.Slice.Eq.{bytes_eq-Decides}
use Rattle.geda_defs.specs.Lists.{with_new}
use Rattle.geda_defs.proofs.OnceLaws.{option_or-none}
use Rattle.pin_place.proofs.TableLemmas.{has-with_new}
use Rattle.spice_out.specs.declared.net_nodes.NetNode.{NetNode}
use Rattle.spice_out.specs.Pins.{PinData, first_at, numbers_of}
use Rattle.spice_out.specs.steps.FirstPins.{AreFirsts, FirstPins, firsts_at}

-- the place of a pin, where its number is this
abbrev place_if : PinData → List ℕ → Option NetNode
place_if pin q = cond (bytes_eq pin.number q) (Some pin.at) None

first_at-more : (pins : List PinData) (pin : PinData) (q : List ℕ) → first_at (pins ++ pin ∷ []) q ≡ option_or (first_at pins q) (place_if pin q)
first_at-more pins pin q =
    ap (option_map (λ p. p.at)) (find-append (λ p. bytes_eq p.number q) pins (pin ∷ []))
    ∙ split (find (λ p. bytes_eq p.number q) pins) (bytes_eq pin.number q)
  where
    split : (f : Option PinData) (b : Bool) → option_map (λ p. p.at) (option_or f (cond b (Some pin) None)) ≡ option_or (option_map (λ p. p.at) f) (cond b (Some pin.at) None)
    split None true = refl
    split None false = refl
    split (Some x) b = refl

numbers_of-more : (pins : List PinData) (pin : PinData) → numbers_of (pins ++ pin ∷ []) ≡ with_new (numbers_of pins) pin.number
numbers_of-more pins pin =
    ap (fold with_new []) (map-append (λ p. p.number) pins (pin ∷ []))
    ∙ fold-append with_new [] (map (λ p. p.number) pins) (pin.number ∷ [])

either_is : (f : Option NetNode) (b : Bool) (at : NetNode) → (is_some f || (b || false)) ≡ is_some (option_or f (cond b (Some at) None))
either_is None true at = refl
either_is None false at = refl
either_is (Some x) b at = refl

-- the numbers agree with the places
numbers_more : (pins : List PinData) (pin : PinData) (q : List ℕ) → list_any (bytes_eq q) (numbers_of pins) ≡ is_some (first_at pins q)
    → list_any (bytes_eq q) (numbers_of (pins ++ pin ∷ [])) ≡ is_some (first_at (pins ++ pin ∷ []) q)
numbers_more pins pin q known =
    ap (list_any (bytes_eq q)) (numbers_of-more pins pin)
    ∙ has-with_new q pin.number (numbers_of pins)
    ∙ ap (λ (b : Bool). b || (bytes_eq q pin.number || false)) known
    ∙ ap (λ (b : Bool). is_some (first_at pins q) || (b || false)) (nat_list_eq_equiv.symm q pin.number)
    ∙ either_is (first_at pins q) (bytes_eq pin.number q) pin.at
    ∙ ap is_some (sym (first_at-more pins pin q))

-- how many numbers there are then
count_more : (pins : List PinData) (pin : PinData) (b : Bool) → list_any (bytes_eq pin.number) (numbers_of pins) ≡ b
    → length (numbers_of (pins ++ pin ∷ [])) ≡ cond b (length (numbers_of pins)) (length (numbers_of pins) + 1)
count_more pins pin true e = ap length (numbers_of-more pins pin) ∙ rw e refl
count_more pins pin false e = ap length (numbers_of-more pins pin) ∙ rw e (length-append (numbers_of pins) (pin.number ∷ []))

-- a pin whose number is there already
pub still_firsts : (pins : List PinData) (pin : PinData) (firsts : FirstPins) → AreFirsts pins firsts → is_some (firsts_at firsts pin.number) ≡ true
    → AreFirsts (pins ++ pin ∷ []) firsts
still_firsts pins pin firsts are there =
    let known : is_some (first_at pins pin.number) ≡ true = ap is_some (sym (are.places pin.number)) ∙ there in
    record {
      places = λ q. are.places q ∙ sym (first_at-more pins pin q ∙ same q (bytes_eq pin.number q) refl known);
      numbers = λ q. numbers_more pins pin q (are.numbers q);
      count = are.count ∙ sym (count_more pins pin true (are.numbers pin.number ∙ known));
    }
  where
    kept : (f g : Option NetNode) → is_some f ≡ true → option_or f g ≡ f
    kept None g e = absurd (let clash : false ≡ true = e in cc)
    kept (Some x) g e = refl

    same : (q : List ℕ) (b : Bool) → bytes_eq pin.number q ≡ b → is_some (first_at pins pin.number) ≡ true → option_or (first_at pins q) (cond b (Some pin.at) None) ≡ first_at pins q
    same q true e known = kept (first_at pins q) (Some pin.at) (rw ((bytes_eq-Decides pin.number q).0 e) at known)
    same q false e known = option_or-none (first_at pins q)

-- the place of a number changes
abbrev pub Places : FirstPins → FirstPins → List ℕ → Option NetNode → Type 0
Places old new number row = UpdatesBy (λ x y. slice_cmp nat_cmp x.now y.now) (λ k. slice_cmp nat_cmp number k.now) old new row

-- a pin whose number is new
pub more_firsts : (pins : List PinData) (pin : PinData) (old new : FirstPins) → AreFirsts pins old → is_some (firsts_at old pin.number) ≡ false
    → Places old new pin.number (Some pin.at) → btree_map_len new ≡ btree_map_len old + 1 → AreFirsts (pins ++ pin ∷ []) new
more_firsts pins pin old new are none put len =
    let unknown : is_some (first_at pins pin.number) ≡ false = ap is_some (sym (are.places pin.number)) ∙ none in
    record {
      places = λ q.
          btree_map_updates_str pin.number old new (Some pin.at) put q
          ∙ ap (cond (bytes_eq pin.number q) (Some pin.at)) (are.places q)
          ∙ placed q (bytes_eq pin.number q) refl unknown
          ∙ sym (first_at-more pins pin q);
      numbers = λ q. numbers_more pins pin q (are.numbers q);
      count = len ∙ ap (λ (n : ℕ). n + 1) are.count ∙ sym (count_more pins pin false (are.numbers pin.number ∙ unknown));
    }
  where
    first : (f : Option NetNode) (at : NetNode) → is_some f ≡ false → Some at ≡ option_or f (Some at)
    first None at e = refl
    first (Some x) at e = absurd (let clash : true ≡ false = e in cc)

    placed : (q : List ℕ) (b : Bool) → bytes_eq pin.number q ≡ b → is_some (first_at pins pin.number) ≡ false → cond b (Some pin.at) (first_at pins q) ≡ option_or (first_at pins q) (cond b (Some pin.at) None)
    placed q true e unknown = first (first_at pins q) pin.at (rw ((bytes_eq-Decides pin.number q).0 e) at unknown)
    placed q false e unknown = sym (option_or-none (first_at pins q))

-- tests that agree on each number agree on all
pub list_all_agree : (f g : ℕ → Bool) (ks : List ℕ) → ((k : ℕ) → f k ≡ g k) → list_all f ks ≡ list_all g ks
list_all_agree f g [] same = refl
list_all_agree f g (k ∷ ks) same = rw (same k, list_all_agree f g ks same) refl

-- so do texts
pub flat_map_agree : (f g : ℕ → List ℕ) (ks : List ℕ) → ((k : ℕ) → f k ≡ g k) → flat_map f ks ≡ flat_map g ks
flat_map_agree f g [] same = refl
flat_map_agree f g (k ∷ ks) same = rw (same k, flat_map_agree f g ks same) refl
