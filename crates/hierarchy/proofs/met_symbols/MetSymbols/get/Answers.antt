use Rattle.std.proofs.Common.{◌≡◌, IfSome, subst}
use Rattle.std.specs.HashMap.{get_by_text}
use Rattle.project_model.specs.Projects.{ProjectData}
use Rattle.attr_rules.specs.Libraries.{symbol_named}
use Rattle.hierarchy.proofs.MetLemmas.{met_found}
use Rattle.hierarchy.proofs.met_symbols.MetSymbols.get.Goals as goal

pub returns : goal.returns
returns c =
    let m = c.self.inside in
    let name = c.args.basename.now in
    subst (λ (p : ProjectData). IfSome c.get.result (λ met. met.now ≡ symbol_named p name)) c.self.view_is
    (met_found m.owner.now.contents name (get_by_text m.rows) c.get.result c.get.ensures.value c.self.invariant)
