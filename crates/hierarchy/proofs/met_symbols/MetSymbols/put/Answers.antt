use Rattle.std.proofs.Common.{◌≡◌, ◌∙◌, ap, sym}
use Rattle.std.specs.HashMap.{get_by_text}
use Rattle.attr_rules.specs.Libraries.{symbol_named}
use Rattle.hierarchy.proofs.MetLemmas.{met_still}
use Rattle.hierarchy.proofs.met_symbols.MetSymbols.put.Goals as goal

pub invariant_of-self : goal.invariant_of-self
invariant_of-self c =
    let p = c.self.inside.owner.now.contents in
    let name = c.args.basename.now in
    let met = c.args.met in
    let is : met ≡ symbol_named p name = c.requires ∙ ap (λ p. symbol_named p name) (sym c.self.view_is) in
    met_still c.put_row.result p name met (get_by_text c.self.inside.rows) (get_by_text c.put_row.new.rows) is c.put_row.ensures.put c.put_row.ensures.kept c.self.invariant
