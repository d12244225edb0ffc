use Rattle.std.proofs.Common.{ap, subst}
use Rattle.geda_model.specs.Sheets.{SymbolIsInRange}
use Rattle.geda_grammar.specs.Canonical.{symbol_text}
use Rattle.geda_grammar.proofs.ReadingLaws.{symbol_alone}
use Rattle.geda_grammar.proofs.WritingLaws as writing
use Rattle.geda_write.proofs.Spelled.{symbol_spelled}
use Rattle.geda_write.proofs.laws.symbol_again.Goals as goal

pub returns-clause-fits : goal.returns-clause-fits
returns-clause-fits c = λ h.
    let symbol = c.args.symbol.now in
    let in_range = subst SymbolIsInRange c.symbol.view_is c.symbol.invariant in
    symbol_alone (symbol_text symbol) symbol (writing.symbol_again symbol (record { in_range = in_range; few = h.few; each = h.each; size = h.size }))

pub returns-clause-spelled : goal.returns-clause-spelled
returns-clause-spelled c = λ bytes h size.
    let symbol = c.args.symbol.now in
    let in_range = subst SymbolIsInRange c.symbol.view_is c.symbol.invariant in
    let kept = symbol_spelled bytes symbol h in
    symbol_alone (symbol_text symbol) symbol (writing.symbol_again symbol (record { in_range = in_range; few = kept.0; each = kept.1; size = size }))

pub returns-clause-one : goal.returns-clause-one
returns-clause-one c = λ bytes other h k. ap symbol_text ((symbol_alone bytes c.args.symbol.now h).alone other k)
