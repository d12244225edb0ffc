use Rattle.std.proofs.Common.{◌∙◌, rules}
use Rattle.std.specs.BTreeSet.{IsFromIterResult}
use Rattle.std.specs.Cmp.Lexicographic.{slice_cmp}
use Rattle.std.specs.Ordering.{eq_by_cmp, nat_cmp}
use Rattle.std.specs.Str.{bytes_eq}
use Rattle.std.proofs.lemmas.Map.Text.{is_eq-slice_cmp}
use Rattle.text_tallies.proofs.PairLemmas.{any_same}
use Rattle.text_tallies.proofs.twice.names_once.Goals as goal

pub returns : goal.returns
returns c =
    let made : IsFromIterResult (slice_cmp nat_cmp) c.args.names.items c.in_ok-set.set = search rules in
    λ q. made.0 q ∙ any_same (eq_by_cmp (slice_cmp nat_cmp) q) (bytes_eq q) (is_eq-slice_cmp q) c.args.names.items
