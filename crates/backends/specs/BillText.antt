-- The bill of materials of a net list as CSV (own): a record for each group of packages that agree
-- in device, value and footprint.
use Rattle.std.specs.Prelude.{ℕ, Bool, ◌&&◌, if◌then◌else◌, List, [], ◌∷◌, ◌++◌, codes, filter, length, map, unwrap_or}
use Rattle.std.specs.List.{flat_map, fold, list_any}
use Rattle.std.specs.Fmt.{decimal}
use Rattle.std.specs.Str.{bytes_eq}
use Rattle.geda_defs.specs.Lines.{spaced}
use Rattle.printed_texts.specs.PrintedTexts.{flat, word}
use Rattle.net_list.specs.declared.package.Package.{Package}
use Rattle.net_list.specs.declared.nets.Nets.{Nets}
use Rattle.backends.specs.CsvRecords.{record_text}

-- what the packages of one group have in common: an absent value and an empty one do not differ
pub record ArticleData : Type 0 where
  pub device : List ℕ
  pub value : List ℕ
  pub footprint : List ℕ

-- that of a package
abbrev pub article_of : Package → ArticleData
article_of p = record {
  device = unwrap_or p.device [];
  value = unwrap_or p.value [];
  footprint = unwrap_or p.footprint [];
}

-- the same device, value and footprint, by their unchanged bytes
abbrev pub same_article : ArticleData → ArticleData → Bool
same_article a b = bytes_eq a.device b.device
    && (bytes_eq a.value b.value && bytes_eq a.footprint b.footprint)

-- articles with one more behind them, unless it is among them
abbrev pub with_article : List ArticleData → ArticleData → List ArticleData
with_article articles a =
    if list_any (same_article a) articles then articles else articles ++ a ∷ []

-- the articles of packages, each once, where it stands first
abbrev pub articles_of : List Package → List ArticleData
articles_of packages = fold with_article [] (map article_of packages)

-- the packages of an article
abbrev pub article_packages : List Package → ArticleData → List Package
article_packages packages a = filter (λ p. same_article a (article_of p)) packages

-- the fields of a group: device, value, footprint, the refdes of its packages parted by one space,
-- and their count
abbrev pub bill_fields : ArticleData → List Package → List (List ℕ)
bill_fields a members =
    flat a.device ∷ flat a.value ∷ flat a.footprint ∷ spaced (map (λ p. word p.refdes) members)
    ∷ decimal (length members) ∷ []

-- the record of the packages of an article
abbrev pub group_text : List Package → ArticleData → List ℕ
group_text packages a = record_text (bill_fields a (article_packages packages a))

-- the names of the fields
abbrev pub head_fields : List (List ℕ)
head_fields =
    codes "device" ∷ codes "value" ∷ codes "footprint" ∷ codes "refdes" ∷ codes "count" ∷ []

-- the names, then a record for each group
abbrev pub bill_text : Nets → List ℕ
bill_text nets =
    record_text head_fields ++ flat_map (group_text nets.packages) (articles_of nets.packages)
