-- Sets of the texts that were seen: after one more.
use Rattle.std.proofs.Common.{◌≡◌, ◌||◌, ℕ, Bool, true, false, List, [], ◌∷◌, ◌++◌, refl, sym, ap, ◌∙◌}
use Rattle.std.specs.Prelude.{cond}
use Rattle.std.specs.List.{list_any}
use Rattle.std.specs.Str.{bytes_eq}
use Rattle.geda_defs.proofs.Bytes.{bytes_turned}
use Rattle.hierarchy.specs.steps.SeenTexts.{AddsText, AreTheTexts}

-- the last one of some texts is among them
among_more : (q : List ℕ) (texts : List (List ℕ)) (text : List ℕ) → list_any (bytes_eq q) (texts ++ text ∷ []) ≡ cond (bytes_eq q text) true (list_any (bytes_eq q) texts)
among_more q [] text = by (bytes_eq q text)
  where
    by : (b : Bool) → (b || false) ≡ cond b true false
    by true = refl
    by false = refl
among_more q (t ∷ ts) text = ap (λ (b : Bool). bytes_eq q t || b) (among_more q ts text) ∙ by (bytes_eq q t) (bytes_eq q text) (list_any (bytes_eq q) ts)
  where
    by : (a b c : Bool) → (a || cond b true c) ≡ cond b true (a || c)
    by true true c = refl
    by true false c = refl
    by false true c = refl
    by false false c = refl

pub seen_more : (old new : List ℕ → Bool) (texts : List (List ℕ)) (text : List ℕ) → AreTheTexts old texts → AddsText text old new → AreTheTexts new (texts ++ text ∷ [])
seen_more old new texts text seen adds q =
    adds q
    ∙ ap (λ (b : Bool). cond b true (old q)) (bytes_turned text q)
    ∙ ap (λ (b : Bool). cond (bytes_eq q text) true b) (seen q)
    ∙ sym (among_more q texts text)
