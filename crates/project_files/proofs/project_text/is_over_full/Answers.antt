use Rattle.std.proofs.Common.{List, length, ap, ◌∙◌, arith}
use Rattle.std.specs.List.{filter_map}
use Rattle.project_files.specs.Gathering.{AskedSymbol, Gathered}
use Rattle.project_files.specs.Opening.{found_symbol}
use Rattle.project_files.proofs.TextLemmas.{full_by_text}
use Rattle.project_files.proofs.project_text.is_over_full.Goals as goal

pub returns : goal.returns
returns c =
    let sheets = ap (λ (g : Gathered). length g.sheets) c.gathered.view_is in
    let symbols = ap (λ (l : List AskedSymbol). length (filter_map found_symbol l)) (c.deref.ensures.value ∙ ap (λ (g : Gathered). g.symbols) c.gathered.view_is) in
    full_by_text c.args.gathered.now c.project_text.result (omega (arith, c.if-len-gt-MOST_SHEETS.false, c.len.ensures, sheets)) (omega (arith, c.if-symbol_count-gt-MOST_SYMBOLS.false, c.symbol_count.ensures, symbols)) c.project_text.ensures
