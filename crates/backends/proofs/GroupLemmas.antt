-- Packages that are gathered one after the other are the groups of their articles.
use Rattle.std.proofs.Common.{◌≡◌, ◌∙◌, ap, ap₂, refl, sym, subst, Bool, true, false, ◌||◌, List, [], ◌∷◌, ◌++◌, if◌then◌else◌, map, append-nil, append_assoc, true≢false}
use Rattle.std.specs.List.{flat_map, fold, list_any}
use Rattle.std.proofs.lemmas.List.{map-append}
use Rattle.std.proofs.lemmas.List.Elements.{filter-append}
use Rattle.std.proofs.lemmas.List.Folds.{flat_map-map}
use Rattle.std.proofs.lemmas.List.Sums.{fold-append}
use Rattle.std.proofs.lemmas.Bool.{or_parts}
use Rattle.net_list.specs.declared.package.Package.{Package}
use Rattle.backends.specs.BillText.{ArticleData, article_of, article_packages, articles_of, group_text, same_article, with_article}
use Rattle.backends.specs.steps.Groups.{GroupData, group_in, group_record, group_seen, groups_of, with_member, with_package}
use Rattle.backends.specs.declared.articles.Group.{Group}
use Rattle.backends.proofs.ArticleLemmas.{Once, none_of, once_all, same_exact, same_self, same_turned}

packages_behind : (ps : List Package) (p : Package) (a : ArticleData) (t : Bool) → same_article a (article_of p) ≡ t → article_packages (ps ++ p ∷ []) a ≡ article_packages ps a ++ (if t then p ∷ [] else [])
packages_behind ps p a t is =
    filter-append (λ q. same_article a (article_of q)) ps (p ∷ [])
    ∙ ap (λ (s : Bool). article_packages ps a ++ (if s then p ∷ [] else [])) is

abbrev with_members : ArticleData → List Package → GroupData
with_members a members = record { article = a; members = members }

its_group : (ps : List Package) (p : Package) (a : ArticleData) → same_article a (article_of p) ≡ true → group_in (ps ++ p ∷ []) a ≡ with_member (group_in ps a) p
its_group ps p a is = ap (with_members a) (packages_behind ps p a true is)

other_group : (ps : List Package) (p : Package) (a : ArticleData) → same_article a (article_of p) ≡ false → group_in (ps ++ p ∷ []) a ≡ group_in ps a
other_group ps p a is = ap (with_members a) (packages_behind ps p a false is ∙ append-nil (article_packages ps a))

other_groups : (ps : List Package) (p : Package) (xs : List ArticleData) → list_any (same_article (article_of p)) xs ≡ false → map (group_in (ps ++ p ∷ [])) xs ≡ map (group_in ps) xs
other_groups ps p [] none = refl
other_groups ps p (a ∷ rest) none =
    let apart = or_parts (same_article (article_of p) a) (list_any (same_article (article_of p)) rest) none in
    ap₂ (λ (g : GroupData) (gs : List GroupData). g ∷ gs) (other_group ps p a (same_turned a (article_of p) ∙ apart.0)) (other_groups ps p rest apart.1)

joins_old : (ps : List Package) (p : Package) (xs : List ArticleData) → Once xs → list_any (same_article (article_of p)) xs ≡ true → with_package (map (group_in ps) xs) p ≡ map (group_in (ps ++ p ∷ [])) xs
joins_old ps p [] once any = absurd (true≢false (sym any))
joins_old ps p (a ∷ rest) once any = go (same_article (article_of p) a) refl any (joins_old ps p rest once.1)
  where
    go : (t : Bool) → same_article (article_of p) a ≡ t → (t || list_any (same_article (article_of p)) rest) ≡ true
        → (list_any (same_article (article_of p)) rest ≡ true → with_package (map (group_in ps) rest) p ≡ map (group_in (ps ++ p ∷ [])) rest)
        → (if t then with_member (group_in ps a) p ∷ map (group_in ps) rest else group_in ps a ∷ with_package (map (group_in ps) rest) p) ≡ group_in (ps ++ p ∷ []) a ∷ map (group_in (ps ++ p ∷ [])) rest
    go true e any again =
        let none = subst (λ (x : ArticleData). list_any (same_article x) rest ≡ false) (sym (same_exact (article_of p) a e)) once.0 in
        ap₂ (λ (g : GroupData) (gs : List GroupData). g ∷ gs) (sym (its_group ps p a (same_turned a (article_of p) ∙ e))) (sym (other_groups ps p rest none))
    go false e any again =
        ap₂ (λ (g : GroupData) (gs : List GroupData). g ∷ gs) (sym (other_group ps p a (same_turned a (article_of p) ∙ e))) (again any)

begins : (p : Package) (gs : List GroupData) → list_any (λ g. same_article (article_of p) g.article) gs ≡ false → with_package gs p ≡ gs ++ with_members (article_of p) (p ∷ []) ∷ []
begins p [] none = refl
begins p (g ∷ rest) none = go (same_article (article_of p) g.article) (begins p rest) none
  where
    go : (t : Bool) → (list_any (λ h. same_article (article_of p) h.article) rest ≡ false → with_package rest p ≡ rest ++ with_members (article_of p) (p ∷ []) ∷ [])
        → (t || list_any (λ h. same_article (article_of p) h.article) rest) ≡ false
        → (if t then with_member g p ∷ rest else g ∷ with_package rest p) ≡ g ∷ (rest ++ with_members (article_of p) (p ∷ []) ∷ [])
    go true again e = absurd (true≢false e)
    go false again e = ap (λ (gs : List GroupData). g ∷ gs) (again e)

in_groups : (ps : List Package) (a : ArticleData) (xs : List ArticleData) → list_any (λ g. same_article a g.article) (map (group_in ps) xs) ≡ list_any (same_article a) xs
in_groups ps a [] = refl
in_groups ps a (x ∷ rest) = ap (λ (t : Bool). same_article a x || t) (in_groups ps a rest)

joins_new : (ps : List Package) (p : Package) (xs : List ArticleData) → list_any (same_article (article_of p)) xs ≡ false → article_packages ps (article_of p) ≡ []
    → with_package (map (group_in ps) xs) p ≡ map (group_in (ps ++ p ∷ [])) (xs ++ article_of p ∷ [])
joins_new ps p xs none empty =
    let a : ArticleData = article_of p in
    let members : article_packages (ps ++ p ∷ []) a ≡ p ∷ [] = packages_behind ps p a true (same_self a) ∙ ap (λ (qs : List Package). qs ++ p ∷ []) empty in
    begins p (map (group_in ps) xs) (in_groups ps a xs ∙ none)
    ∙ ap₂ (λ (gs : List GroupData) (qs : List Package). gs ++ with_members a qs ∷ []) (sym (other_groups ps p xs none)) (sym members)
    ∙ sym (map-append (group_in (ps ++ p ∷ [])) xs (a ∷ []))

joins : (ps : List Package) (p : Package) (xs : List ArticleData) → Once xs → (list_any (same_article (article_of p)) xs ≡ false → article_packages ps (article_of p) ≡ [])
    → with_package (map (group_in ps) xs) p ≡ map (group_in (ps ++ p ∷ [])) (with_article xs (article_of p))
joins ps p xs once empty = go (list_any (same_article (article_of p)) xs) refl
  where
    go : (t : Bool) → list_any (same_article (article_of p)) xs ≡ t → with_package (map (group_in ps) xs) p ≡ map (group_in (ps ++ p ∷ [])) (if t then xs else xs ++ article_of p ∷ [])
    go true e = joins_old ps p xs once e
    go false e = joins_new ps p xs e (empty e)

abbrev groups_in : List Package → List GroupData
groups_in packages = map (group_in packages) (articles_of packages)

articles_behind : (ps : List Package) (p : Package) → articles_of (ps ++ p ∷ []) ≡ with_article (articles_of ps) (article_of p)
articles_behind ps p = ap (fold with_article []) (map-append article_of ps (p ∷ [])) ∙ fold-append with_article [] (map article_of ps) (article_of p ∷ [])

one_more : (ps : List Package) (p : Package) → with_package (groups_in ps) p ≡ groups_in (ps ++ p ∷ [])
one_more ps p =
    joins ps p (articles_of ps) (once_all (map article_of ps) [] tt) (none_of ps [] (article_of p))
    ∙ ap (map (group_in (ps ++ p ∷ []))) (sym (articles_behind ps p))

all_more : (ps rest : List Package) → fold with_package (groups_in ps) rest ≡ groups_in (ps ++ rest)
all_more ps [] = ap groups_in (sym (append-nil ps))
all_more ps (p ∷ rest) =
    ap (λ (gs : List GroupData). fold with_package gs rest) (one_more ps p)
    ∙ all_more (ps ++ p ∷ []) rest
    ∙ ap groups_in (append_assoc ps (p ∷ []) rest)

-- the groups of all packages
pub groups_are : (packages : List Package) → groups_of packages ≡ map (group_in packages) (articles_of packages)
groups_are packages = all_more [] packages

-- their records, as the code and as the definition has them
pub records_are : (packages : List Package) (gs : List Group) → map group_seen gs ≡ groups_of packages → flat_map (λ g. group_record (group_seen g)) gs ≡ flat_map (group_text packages) (articles_of packages)
records_are packages gs is =
    sym (flat_map-map group_record group_seen gs)
    ∙ ap (flat_map group_record) (is ∙ groups_are packages)
    ∙ flat_map-map group_record (group_in packages) (articles_of packages)
