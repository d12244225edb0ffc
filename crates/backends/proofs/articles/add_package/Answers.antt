use Rattle.std.proofs.Common.{rules, ap, ap₂, sym, ◌∙◌, ◌≡◌, Bool, List, ℕ, ◌∷◌, [], ◌++◌, map, false, true}
use Rattle.std.specs.List.{list_any, position_or_len}
use Rattle.std.proofs.lemmas.List.{map-append}
use Rattle.net_list.specs.declared.package.Package.{Package}
use Rattle.backends.specs.BillText.{ArticleData, article_of, same_article}
use Rattle.backends.specs.declared.articles.Article.{Article}
use Rattle.backends.specs.steps.Groups.{GroupData, article_seen, articles_in, group_seen, with_member_at}
use Rattle.backends.proofs.GroupPlaces.{has_article, joins_at, joins_none, place_within, same}
use Rattle.backends.proofs.articles.add_package.Goals as goal

abbrev group_with : ArticleData → List Package → GroupData
group_with a members = record { article = a; members = members }

pub returns-in_ok-push-clause-added : goal.returns-in_ok-push-clause-added
returns-in_ok-push-clause-added c =
    let a : Article = c.article_of-article.result in
    let p : Package = c.args.part.now in
    let gs = c.args.groups.now.items in
    let tests : same a ≡ has_article p = ap {B = Article → Bool} (λ (d : ArticleData) (b : Article). same_article d (article_seen b)) c.article_of-article.ensures in
    let keys : list_any (same a) c.args.articles.now.keys ≡ false = search rules in
    let none : list_any (has_article p) (articles_in c.args.groups.now) ≡ false = ap₂ list_any (sym tests) (sym c.requires) ∙ keys in
    let seen : group_seen c.in_ok-group_of.field-0 ≡ group_with (article_of p) (p ∷ []) = ap₂ group_with (ap article_seen c.in_ok-group_of.ensures.0 ∙ c.article_of-article.ensures) c.in_ok-group_of.ensures.1 in
    ap (map group_seen) c.in_ok-push.ensures.items
    ∙ map-append group_seen gs (c.in_ok-group_of.field-0 ∷ [])
    ∙ ap (λ (g : GroupData). map group_seen gs ++ g ∷ []) seen
    ∙ sym (joins_none p gs none)

pub returns-in_ok-add_member-clause-added : goal.returns-in_ok-add_member-clause-added
returns-in_ok-add_member-clause-added c =
    let a : Article = c.article_of-article.result in
    let p : Package = c.args.part.now in
    let gs = c.args.groups.now.items in
    let tests : same a ≡ has_article p = ap {B = Article → Bool} (λ (d : ArticleData) (b : Article). same_article d (article_seen b)) c.article_of-article.ensures in
    let found : c.in_ok-place.place ≡ position_or_len (same a) c.args.articles.now.keys = search rules in
    let place : c.in_ok-place.place ≡ position_or_len (has_article p) (articles_in c.args.groups.now) = found ∙ ap₂ position_or_len tests c.requires in
    let keys : list_any (same a) c.args.articles.now.keys ≡ true = search rules in
    let has : list_any (has_article p) (articles_in c.args.groups.now) ≡ true = ap₂ list_any (sym tests) (sym c.requires) ∙ keys in
    c.in_ok-add_member.ensures.added
    ∙ ap (λ (n : ℕ). with_member_at n p (map group_seen gs)) place
    ∙ sym (joins_at p gs (place_within p gs has))
