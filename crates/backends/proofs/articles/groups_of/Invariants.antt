use Rattle.std.proofs.Common.{◌≡◌, map, take}
use Rattle.backends.specs.steps.Groups.{articles_in, group_seen, groups_of}
use Rattle.backends.proofs.articles.groups_of.Given as goal

abbrev pub invariant-loop-part : goal.invariant-loop-part
invariant-loop-part l = (l.articles.keys ≡ articles_in l.groups) × (map group_seen l.groups.items ≡ groups_of (take l.part-index l.packages))
