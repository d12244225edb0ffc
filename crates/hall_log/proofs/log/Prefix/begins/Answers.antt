use Rattle.std.proofs.Common.{◌≤◌, ap, subst, arith, length, List}
use mathlib.Core.List.{IsPrefix}
use Rattle.std.proofs.lemmas.Bool.Decides.{nat_tests}
use Rattle.edit_entries.specs.Entries.{EntryData}
use Rattle.hall_log.proofs.Prefixes.{prefix_shorter}
use Rattle.hall_log.proofs.log.Prefix.begins.Goals as goal

pub returns-clause-begins : goal.returns-clause-begins
returns-clause-begins g c = λ is.
    let both = c.learn.new.self.log in
    let this : IsPrefix c.self.inside.seen.log both = subst (λ (l : List EntryData). IsPrefix l both) (ap (λ s. s.log) c.again-both.ensures) c.learn.ensures.2 in
    let le : c.self.inside.entries ≤ c.other.inside.entries = grind (arith, nat_tests, is) in
    let less : length c.self.inside.seen.log ≤ length c.other.inside.seen.log = omega (arith, le, c.self.invariant.0, c.other.invariant.0) in
    rw (← c.self.view_is, ← c.other.view_is) (prefix_shorter c.self.inside.seen.log c.other.inside.seen.log both this c.learn.ensures.3 less)
