use Rattle.std.proofs.Common.{Bor}
use Rattle.std.proofs.lemmas.List.{map-set}
use Rattle.geda_model.specs.Sheets.{ObjectData}
use Rattle.table_files.proofs.objects.put_component.Goals as goal

pub returns : goal.returns
returns c = map-set (λ (o : Bor ObjectData). o.now) c.args.objects.now.items c.args.component.now.0 _
