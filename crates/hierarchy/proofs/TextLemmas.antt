-- Lines: that a refdes is one, and that lines with `/` between them are one.
use Rattle.std.proofs.Common.{◌≡◌, ◌≢◌, ℕ, Bool, true, false, not, List, [], ◌∷◌, ◌++◌, Option, None, Some, get_or, refl, subst, arith}
use Rattle.std.specs.Prelude.{All, codes}
use Rattle.std.specs.List.{list_all}
use Rattle.std.proofs.lemmas.Bool.{eq-eqb, false≢true}
use Rattle.std.proofs.lemmas.List.Sums.{AllPass-from_list_all}
use Rattle.std.proofs.lemmas.List.Elements.{All-append, All-cons}
use Rattle.geda_model.specs.Names.{IsLine, IsLineByte}
use Rattle.geda_model.specs.Sheets.{ObjectData, SymbolData}
use Rattle.attr_rules.specs.Attributes.{attr}
use Rattle.attr_rules.specs.Components.{if_line, is_no_feed, refdes_of}
use Rattle.hierarchy.proofs.ListLemmas.{all_none}

-- a line and `/` behind a text without LF
pub line_more : (bs refdes : List ℕ) → All IsLineByte bs → IsLine refdes → All IsLineByte (bs ++ (refdes ++ 47 ∷ []))
line_more bs refdes all line =
    All-append IsLineByte bs (refdes ++ 47 ∷ []) all
    (All-append IsLineByte refdes (47 ∷ []) line.line_bytes (All-cons IsLineByte 47 [] (λ e. absurd (omega arith)) (all_none IsLineByte)))

no_feed : (b : ℕ) → is_no_feed b ≡ true → b ≢ 10
no_feed b e same = absurd (false≢true (let h : not true ≡ true = rw (eq-eqb b 10 same) at e in h))

-- a value without LF
line_bytes : (value : Option (List ℕ)) (text : List ℕ) → Some text ≡ if_line value → All IsLineByte text
line_bytes None text e = absurd (let h : Some text ≡ None = e in cc)
line_bytes (Some value) text e = by (list_all is_no_feed value) refl
  where
    by : (b : Bool) → list_all is_no_feed value ≡ b → All IsLineByte text
    by true on =
        let h : Some text ≡ Some value = rw on at e in
        let same : value ≡ text = cc in
        subst (All IsLineByte) same (λ k d lt. no_feed (get_or value k d) (AllPass-from_list_all is_no_feed value on k d lt))
    by false off = absurd (let h : Some text ≡ None = rw off at e in cc)

-- a refdes has no LF
pub refdes_bytes : (o : ObjectData) (library : Option SymbolData) (text : List ℕ) → Some text ≡ refdes_of o library → All IsLineByte text
refdes_bytes o library text e = line_bytes (attr o library (codes "refdes")) text e
