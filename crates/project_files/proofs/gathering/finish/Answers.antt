use Rattle.std.proofs.Common.{rules, ◌≢◌, ◌≡◌, AllPairs, List, subst}
use Rattle.project_files.specs.Gathering.{AskedSymbol}
use Rattle.project_files.proofs.SheetLemmas.{symbols_apart}
use Rattle.project_files.proofs.gathering.finish.Goals as goal

pub returns-clause-symbols_apart : goal.returns-clause-symbols_apart
returns-clause-symbols_apart c =
    let all : c.asked.inside.symbols.entries ≡ c.in_ok-symbols.symbols.items = search rules in
    subst (λ (symbols : List AskedSymbol). AllPairs (λ (a b : AskedSymbol). a.0 ≢ b.0) symbols) all (symbols_apart c.asked.inside.symbols.entries c.into_iter-2.ensures.into_iter_gives.4)
