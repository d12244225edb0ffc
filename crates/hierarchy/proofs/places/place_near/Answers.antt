use Rattle.std.proofs.Common.{sym, ◌∙◌}
use Rattle.hierarchy.proofs.PlaceLemmas.{near_place}
use Rattle.hierarchy.proofs.places.place_near.Goals as goal

pub returns-then-is_name_at : goal.returns-then-is_name_at
returns-then-is_name_at c = near_place c.args.names.now c.requires c.args.value.now c.args.near (sym c.is_name_at.ensures ∙ c.if-is_name_at.true)
