use Rattle.std.proofs.Common.{◌∙◌, ap}
use Rattle.sym_check.specs.Findings.{found_on_symbol}
use Rattle.sym_check.proofs.FoundLemmas.{contains_same, rises}
use Rattle.sym_check.proofs.check.check_symbol.Goals as goal

pub returns : goal.returns
returns c = record {
  same = contains_same c.args.symbol.now c.in_ok-list.list.items c.in_ok-set.set.keys c.in_ok-found.found.items
      c.in_ok-list.ensures.same c.in_ok-set.ensures (c.in_ok-found.ensures ∙ ap found_on_symbol c.in_ok-checked.ensures);
  rising = rises c.in_ok-list.list.items c.in_ok-set.set.keys c.in_ok-list.ensures.same c.in_ok-list.ensures.rising;
}
