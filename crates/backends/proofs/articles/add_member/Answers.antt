use Rattle.std.proofs.Common.{rules, ap, ◌∙◌, ◌≡◌, List, ◌∷◌, [], ◌++◌, map, slice_index_or}
use Rattle.std.proofs.lemmas.List.{map-append}
use Rattle.net_list.specs.declared.package.Package.{Package}
use Rattle.backends.specs.declared.articles.Article.{Article}
use Rattle.backends.specs.declared.articles.Group.{Group}
use Rattle.backends.specs.steps.Groups.{GroupData, article_seen, group_seen, with_member}
use Rattle.backends.proofs.GroupPlaces.{set_article, set_member}
use Rattle.backends.proofs.articles.add_member.Goals as goal

abbrev group_with : Article → List Package → GroupData
group_with a members = record { article = article_seen a; members = members }

pub returns-clause-articles : goal.returns-clause-articles
returns-clause-articles c =
    let one = c.index_mut.result.now in
    let at : one ≡ slice_index_or c.args.groups.now.items c.args.place one = search rules in
    set_article c.args.groups.now.items c.args.place (record { article = one.article; members = c.push.new.self }) one c.requires (ap (λ (g : Group). g.article) at)

pub returns-clause-added : goal.returns-clause-added
returns-clause-added c =
    let one = c.index_mut.result.now in
    let at : one ≡ slice_index_or c.args.groups.now.items c.args.place one = search rules in
    let members : map (λ m. m.now) c.push.new.self.items ≡ map (λ m. m.now) one.members.items ++ c.args.part.now ∷ [] = ap (map (λ m. m.now)) c.in_ok-push.ensures.items ∙ map-append (λ m. m.now) one.members.items (c.args.part ∷ []) in
    set_member c.args.groups.now.items c.args.place (record { article = one.article; members = c.push.new.self }) one c.args.part.now c.requires
    (ap (group_with one.article) members ∙ ap (λ (g : Group). with_member (group_seen g) c.args.part.now) at)
