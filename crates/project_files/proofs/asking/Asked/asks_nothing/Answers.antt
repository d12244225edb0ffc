use Rattle.std.proofs.Common.{◌≡◌, [], Option, not, option_copied, sym, ap, subst, ◌∙◌}
use Rattle.geda_model.specs.Sheets.{ObjectData, SymbolData}
use Rattle.project_files.specs.Gathering.{sources_of}
use Rattle.project_files.proofs.AskingLemmas.{is_none, no_sources}
use Rattle.project_files.proofs.asking.Asked.asks_nothing.Goals as goal

pub returns : goal.returns
returns c is =
    let object : ObjectData = c.args.object.now in
    let none = sym c.attr_of.ensures ∙ ap option_copied (is_none c.attr_of.result (c.is_none.ensures ∙ ap not is)) in
    record {
      symbol = c.in-Some.ensures.known;
      sheets = subst (λ (library : Option SymbolData). sources_of object library ≡ []) c.in-Some.ensures.found (no_sources object (option_copied c.in-Some.library) none);
    }
