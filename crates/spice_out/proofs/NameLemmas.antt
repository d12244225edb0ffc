-- The names of cards as a set, with one name more.
use Rattle.std.proofs.Common.{◌≡◌, ◌∙◌, ◌||◌, ◌&&◌, ℕ, Bool, true, false, cond, not, List, [], ◌∷◌, ◌++◌, Vec, refl, sym, ap}
use Rattle.std.specs.BTreeSet.{BTreeSet, Updates, contains}
use Rattle.std.specs.Cmp.Lexicographic.{nat_list_eq_equiv}
use Rattle.std.specs.declared.alloc.Global.{Global}
use Rattle.std.specs.List.{list_any}
use Rattle.std.specs.Str.{bytes_eq}
use Rattle.std.proofs.lemmas.List.Folds.{list_any-append}
use Rattle.std.proofs.lemmas.Map.Text.{is_eq-slice_cmp}
use Rattle.net_list.specs.declared.package.Package.{Package}
use Rattle.attr_rules.proofs.SeenLemmas.{one_or}
use Rattle.spice_out.specs.Cards.{card_name, folded, has_card}
use Rattle.spice_out.specs.Faults.{clashes, is_card_named}
use Rattle.spice_out.specs.steps.CardNames.{HasNames, by_items}

-- a name that an earlier card has is in the set
pub clash_is : (earlier : List Package) (p : Package) (names : BTreeSet (Vec ℕ Global)) (key : Vec ℕ Global) (is_new : Bool)
    → HasNames earlier names → key.items ≡ folded (card_name p.refdes) → is_new ≡ not (contains by_items names key)
    → not is_new ≡ clashes earlier p
clash_is earlier p names key is_new has is new =
    ap not new ∙ twice (contains by_items names key) ∙ has key ∙ ap (λ (name : List ℕ). list_any (is_card_named name) earlier) is
  where
    twice : (b : Bool) → not (not b) ≡ b
    twice true = refl
    twice false = refl

-- the set has the new name too
pub names_more : (earlier : List Package) (p : Package) (old new : BTreeSet (Vec ℕ Global)) (key : Vec ℕ Global)
    → HasNames earlier old → has_card p.refdes ≡ true → key.items ≡ folded (card_name p.refdes) → Updates by_items old new key true
    → HasNames (earlier ++ p ∷ []) new
names_more earlier p old new key has card is updates = λ q.
    updates.0 q
    ∙ ap (λ (b : Bool). cond b true (contains by_items old q)) (is_eq-slice_cmp key.items q.items ∙ nat_list_eq_equiv.symm key.items q.items)
    ∙ one_or (bytes_eq q.items key.items) (contains by_items old q)
    ∙ ap (λ (b : Bool). b || (bytes_eq q.items key.items || false)) (has q)
    ∙ ap (λ (b : Bool). list_any (is_card_named q.items) earlier || (b || false)) (named q.items)
    ∙ sym (list_any-append (is_card_named q.items) earlier (p ∷ []))
  where
    named : (name : List ℕ) → bytes_eq name key.items ≡ is_card_named name p
    named name = rw (is, card) refl

-- a package that is skipped adds none
pub names_skipped : (earlier : List Package) (p : Package) (names : BTreeSet (Vec ℕ Global)) → HasNames earlier names → has_card p.refdes ≡ false
    → HasNames (earlier ++ p ∷ []) names
names_skipped earlier p names has none = λ q.
    has q ∙ sym (or_false (list_any (is_card_named q.items) earlier))
    ∙ ap (λ (b : Bool). list_any (is_card_named q.items) earlier || ((b && bytes_eq q.items (folded (card_name p.refdes))) || false)) (sym none)
    ∙ sym (list_any-append (is_card_named q.items) earlier (p ∷ []))
  where
    or_false : (b : Bool) → (b || false) ≡ b
    or_false true = refl
    or_false false = refl
