use Rattle.net_flood.proofs.SetLemmas.{has_contains}
use Rattle.net_flood.proofs.partition.Partition.size.Goals as goal

pub returns : goal.returns
returns c =
    let row = c.row.result.now in
    record {
      size = record {
        keys = row.keys;
        rising = c.len.ensures.ordered;
        same = λ q. ((λ h. (c.row.ensures q).0 ((has_contains row q).1 h)), (λ t. (has_contains row q).0 ((c.row.ensures q).1 t)));
        count = c.len.ensures.len;
      };
    }
