-- The articles of packages, each once.
use Rattle.std.proofs.Common.{◌≡◌, ◌∙◌, ap, ap₂, refl, sym, subst, ℕ, Bool, true, false, ◌&&◌, ◌||◌, List, [], ◌∷◌, ◌++◌, if◌then◌else◌, map, true≢false}
use Rattle.std.specs.Bool.{Decides}
use Rattle.std.specs.List.{fold, list_any}
use Rattle.std.specs.Str.{bytes_eq}
use Rattle.std.proofs.Math.Bool.{or-true}
use Rattle.std.proofs.lemmas.Bool.Decides.{same_from_decides}
use Rattle.std.proofs.lemmas.List.Folds.{list_any-append}
use Rattle.std.proofs.lemmas.Slice.Eq.{bytes_eq-Decides}
use Rattle.std.proofs.lemmas.Bool.{and_parts, or_parts}
use Rattle.net_list.specs.declared.package.Package.{Package}
use Rattle.backends.specs.BillText.{ArticleData, article_of, article_packages, same_article, with_article}

abbrev article : List ℕ → List ℕ → List ℕ → ArticleData
article device value footprint =
    record { device = device; value = value; footprint = footprint }

-- articles with the same texts are the same
pub same_exact : (a b : ArticleData) → same_article a b ≡ true → a ≡ b
same_exact a b is =
    let first = and_parts (bytes_eq a.device b.device) (bytes_eq a.value b.value && bytes_eq a.footprint b.footprint) is in
    let others = and_parts (bytes_eq a.value b.value) (bytes_eq a.footprint b.footprint) first.1 in
    let device : a.device ≡ b.device = (bytes_eq-Decides a.device b.device).0 first.0 in
    let value : a.value ≡ b.value = (bytes_eq-Decides a.value b.value).0 others.0 in
    let footprint : a.footprint ≡ b.footprint = (bytes_eq-Decides a.footprint b.footprint).0 others.1 in
    ap (λ (d : List ℕ). article d a.value a.footprint) device
    ∙ ap₂ (λ (v f : List ℕ). article b.device v f) value footprint

-- an article is the same xs itself
pub same_self : (a : ArticleData) → same_article a a ≡ true
same_self a =
    ap₂ (λ (s t : Bool). s && t) ((bytes_eq-Decides a.device a.device).1 refl)
    (ap₂ (λ (s t : Bool). s && t) ((bytes_eq-Decides a.value a.value).1 refl) ((bytes_eq-Decides a.footprint a.footprint).1 refl))

same_decides : (a b : ArticleData) → Decides (same_article a b) (a ≡ b)
same_decides a b = (same_exact a b, λ e. subst (λ (x : ArticleData). same_article a x ≡ true) e (same_self a))

-- the test says the same from and_parts sides
pub same_turned : (a b : ArticleData) → same_article a b ≡ same_article b a
same_turned a b =
    let there = same_decides a b in
    same_from_decides (same_article a b) (same_article b a) there ((λ e. sym (same_exact b a e)), λ e. subst (λ (x : ArticleData). same_article b x ≡ true) (sym e) (same_self b))

-- no article stands twice
abbrev pub Once : List ArticleData → Type 0
Once [] = Unit {0}
Once (a ∷ rest) = (list_any (same_article a) rest ≡ false) × Once rest

once_behind : (xs : List ArticleData) (a : ArticleData) → list_any (same_article a) xs ≡ false → Once xs → Once (xs ++ a ∷ [])
once_behind [] a none once = (refl, tt)
once_behind (x ∷ rest) a none once =
    let apart = or_parts (same_article a x) (list_any (same_article a) rest) none in
    (list_any-append (same_article x) rest (a ∷ []) ∙ ap₂ (λ (s t : Bool). s || (t || false)) once.0 (same_turned x a ∙ apart.0), once_behind rest a apart.1 once.1)

once_with : (xs : List ArticleData) (a : ArticleData) → Once xs → Once (with_article xs a)
once_with xs a once = go (list_any (same_article a) xs) refl
  where
    go : (t : Bool) → list_any (same_article a) xs ≡ t → Once (if t then xs else xs ++ a ∷ [])
    go true e = once
    go false e = once_behind xs a e once

-- articles that are added one by one stand once
pub once_all : (bs xs : List ArticleData) → Once xs → Once (fold with_article xs bs)
once_all [] xs once = once
once_all (b ∷ bs) xs once = once_all bs (with_article xs b) (once_with xs b once)

has_with : (xs : List ArticleData) (a b : ArticleData) → same_article a b ≡ true → list_any (same_article a) (with_article xs b) ≡ true
has_with xs a b is = go (list_any (same_article b) xs) refl
  where
    go : (t : Bool) → list_any (same_article b) xs ≡ t → list_any (same_article a) (if t then xs else xs ++ b ∷ []) ≡ true
    go true e = subst (λ (x : ArticleData). list_any (same_article x) xs ≡ true) (sym (same_exact a b is)) e
    go false e = list_any-append (same_article a) xs (b ∷ []) ∙ ap (λ (t : Bool). list_any (same_article a) xs || (t || false)) is ∙ or-true (list_any (same_article a) xs)

kept_with : (xs : List ArticleData) (a b : ArticleData) → list_any (same_article a) xs ≡ true → list_any (same_article a) (with_article xs b) ≡ true
kept_with xs a b has = go (list_any (same_article b) xs)
  where
    go : (t : Bool) → list_any (same_article a) (if t then xs else xs ++ b ∷ []) ≡ true
    go true = has
    go false = list_any-append (same_article a) xs (b ∷ []) ∙ ap (λ (t : Bool). t || list_any (same_article a) (b ∷ [])) has

kept_all : (bs xs : List ArticleData) (a : ArticleData) → list_any (same_article a) xs ≡ true → list_any (same_article a) (fold with_article xs bs) ≡ true
kept_all [] xs a has = has
kept_all (b ∷ bs) xs a has = kept_all bs (with_article xs b) a (kept_with xs a b has)

-- an article that is not among those of packages has none of the packages
pub none_of : (ps : List Package) (xs : List ArticleData) (a : ArticleData) → list_any (same_article a) (fold with_article xs (map article_of ps)) ≡ false → article_packages ps a ≡ []
none_of [] xs a none = refl
none_of (p ∷ rest) xs a none = go (same_article a (article_of p)) refl (none_of rest (with_article xs (article_of p)) a none)
  where
    go : (t : Bool) → same_article a (article_of p) ≡ t → article_packages rest a ≡ [] → (if t then p ∷ article_packages rest a else article_packages rest a) ≡ []
    go true e again = absurd (true≢false (sym (kept_all (map article_of rest) (with_article xs (article_of p)) a (has_with xs a (article_of p) e)) ∙ none))
    go false e again = again
