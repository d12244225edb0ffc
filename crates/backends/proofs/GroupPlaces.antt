-- A package joins the group at the place of its article among the articles of the code.
use Rattle.std.proofs.Common.{◌≡◌, ◌<◌, ◌∙◌, ap, refl, sym, ℕ, zero, suc, Bool, true, false, not, ◌||◌, ◌+◌, List, [], ◌∷◌, ◌++◌, arith, if◌then◌else◌, length, map, slice_set, slice_index_or, true≢false}
use Rattle.std.specs.List.{list_any, position_or_len}
use Rattle.net_list.specs.declared.package.Package.{Package}
use Rattle.backends.specs.BillText.{article_of, same_article}
use Rattle.backends.specs.steps.Groups.{GroupData, article_seen, group_seen, with_member, with_member_at, with_package}
use Rattle.backends.specs.declared.articles.Article.{Article}
use Rattle.backends.specs.declared.articles.Group.{Group}

-- the test by which a set finds an article
abbrev pub same : Article → Article → Bool
same a b = same_article (article_seen a) (article_seen b)

-- the test by which a package finds its group
abbrev pub has_article : Package → Article → Bool
has_article p a = same_article (article_of p) (article_seen a)

abbrev articles : List Group → List Article
articles gs = map (λ g. g.article) gs

-- a group that has got a member
pub set_member : (gs : List Group) (i : ℕ) (g d : Group) (p : Package) → i < length gs → group_seen g ≡ with_member (group_seen (slice_index_or gs i d)) p
    → map group_seen (slice_set gs i g) ≡ with_member_at i p (map group_seen gs)
set_member [] i g d p lt is = absurd (omega arith)
set_member (x ∷ rest) zero g d p lt is = ap (λ (y : GroupData). y ∷ map group_seen rest) is
set_member (x ∷ rest) (suc i) g d p lt is = ap (λ (ys : List GroupData). group_seen x ∷ ys) (set_member rest i g d p (omega arith) is)

-- it keeps its article
pub set_article : (gs : List Group) (i : ℕ) (g d : Group) → i < length gs → g.article ≡ (slice_index_or gs i d).article → articles (slice_set gs i g) ≡ articles gs
set_article [] i g d lt is = absurd (omega arith)
set_article (x ∷ rest) zero g d lt is = ap (λ (a : Article). a ∷ articles rest) is
set_article (x ∷ rest) (suc i) g d lt is = ap (λ (as_rest : List Article). x.article ∷ as_rest) (set_article rest i g d (omega arith) is)

-- a package of a new article
pub joins_none : (p : Package) (gs : List Group) → list_any (has_article p) (articles gs) ≡ false
    → with_package (map group_seen gs) p ≡ map group_seen gs ++ record { article = article_of p; members = p ∷ [] } ∷ []
joins_none p [] none = refl
joins_none p (g ∷ rest) none = go (has_article p g.article) (joins_none p rest) none
  where
    tail : List GroupData
    tail = map group_seen rest ++ record { article = article_of p; members = p ∷ [] } ∷ []

    go : (t : Bool) → (list_any (has_article p) (articles rest) ≡ false → with_package (map group_seen rest) p ≡ tail) → (t || list_any (has_article p) (articles rest)) ≡ false
        → (if t then with_member (group_seen g) p ∷ map group_seen rest else group_seen g ∷ with_package (map group_seen rest) p) ≡ group_seen g ∷ tail
    go true again e = absurd (true≢false e)
    go false again e = ap (λ (ys : List GroupData). group_seen g ∷ ys) (again e)

-- a package of an article that is there
pub joins_at : (p : Package) (gs : List Group) → position_or_len (has_article p) (articles gs) < length gs
    → with_package (map group_seen gs) p ≡ with_member_at (position_or_len (has_article p) (articles gs)) p (map group_seen gs)
joins_at p [] lt = absurd (omega arith)
joins_at p (g ∷ rest) lt = go (has_article p g.article) lt (joins_at p rest)
  where
    later : ℕ
    later = position_or_len (has_article p) (articles rest)

    go : (t : Bool) → (if not t then 1 + later else 0) < suc (length rest)
        → (later < length rest → with_package (map group_seen rest) p ≡ with_member_at later p (map group_seen rest))
        → (if t then with_member (group_seen g) p ∷ map group_seen rest else group_seen g ∷ with_package (map group_seen rest) p)
        ≡ with_member_at (if not t then 1 + later else 0) p (group_seen g ∷ map group_seen rest)
    go true lt again = refl
    go false lt again =
        let next : suc later ≡ 1 + later = omega arith in
        ap (λ (ys : List GroupData). group_seen g ∷ ys) (again (omega arith))
        ∙ ap (λ (n : ℕ). with_member_at n p (group_seen g ∷ map group_seen rest)) next

-- its place is that of a group
pub place_within : (p : Package) (gs : List Group) → list_any (has_article p) (articles gs) ≡ true → position_or_len (has_article p) (articles gs) < length gs
place_within p [] any = absurd (true≢false (sym any))
place_within p (g ∷ rest) any = go (has_article p g.article) any (place_within p rest)
  where
    later : ℕ
    later = position_or_len (has_article p) (articles rest)

    go : (t : Bool) → (t || list_any (has_article p) (articles rest)) ≡ true → (list_any (has_article p) (articles rest) ≡ true → later < length rest)
        → (if not t then 1 + later else 0) < suc (length rest)
    go true any again = omega arith
    go false any again = let less = again any in omega arith
