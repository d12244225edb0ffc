-- Steps of the code; no public clause cites them.
-- Packages gathered by their articles, one package after the other.
use Rattle.std.specs.Prelude.{ℕ, zero, suc, if◌then◌else◌, List, [], ◌∷◌, ◌++◌, Vec, map}
use Rattle.std.specs.List.{fold}
use Rattle.std.specs.declared.alloc.Global.{Global}
use Rattle.net_list.specs.declared.package.Package.{Package}
use Rattle.backends.specs.BillText.{ArticleData, article_of, article_packages, bill_fields, same_article}
use Rattle.backends.specs.CsvRecords.{record_text}
use Rattle.backends.specs.declared.articles.Article.{Article}
use Rattle.backends.specs.declared.articles.Group.{Group}

-- an article and its packages
pub record GroupData : Type 0 where
  pub article : ArticleData
  pub members : List Package

-- the group of an article among packages
abbrev pub group_in : List Package → ArticleData → GroupData
group_in packages a = record { article = a; members = article_packages packages a }

-- its record
abbrev pub group_record : GroupData → List ℕ
group_record g = record_text (bill_fields g.article g.members)

-- one package more
abbrev pub with_member : GroupData → Package → GroupData
with_member g p = record g { members = g.members ++ p ∷ [] }

-- the same of the group at a place
abbrev pub with_member_at : ℕ → Package → List GroupData → List GroupData
with_member_at place p [] = []
with_member_at zero p (g ∷ rest) = with_member g p ∷ rest
with_member_at (suc place) p (g ∷ rest) = g ∷ with_member_at place p rest

-- a package joins the group of its article, or begins a new one at the end
abbrev pub with_package : List GroupData → Package → List GroupData
with_package [] p = record { article = article_of p; members = p ∷ [] } ∷ []
with_package (g ∷ rest) p =
    if same_article (article_of p) g.article then with_member g p ∷ rest
    else g ∷ with_package rest p

-- the groups, in order of their first packages
abbrev pub groups_of : List Package → List GroupData
groups_of packages = fold with_package [] packages

-- an article of the code
abbrev pub article_seen : Article → ArticleData
article_seen a =
    record { device = a.device.now; value = a.value.now; footprint = a.footprint.now }

-- a group of the code
abbrev pub group_seen : Group → GroupData
group_seen g =
    record { article = article_seen g.article; members = map (λ m. m.now) g.members.items }

-- the articles of the groups, in their order
abbrev pub articles_in : Vec Group Global → List Article
articles_in groups = map (λ g. g.article) groups.items
