use Rattle.serde_json.specs.View.{view}
use Rattle.etcd_text.proofs.ValueLemmas.{is_value, no_value}
use Rattle.etcd_text.proofs.values.document.Goals as goal

pub returns-in-Ok-clause-found : goal.returns-in-Ok-clause-found
returns-in-Ok-clause-found c =
    is_value c.args.body.now (view c.in-Ok.value) c.in-Ok.ensures.ok.0 c.in-Ok.ensures.ok.1

pub returns-else-is_memory-clause-refused : goal.returns-else-is_memory-clause-refused
returns-else-is_memory-clause-refused c =
    no_value c.args.body.now (c.in-Err.ensures.err (λ is. let bad = c.if-is_memory.ensures.1 is in cc))
