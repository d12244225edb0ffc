use Rattle.std.proofs.Common.{◌≡◌, ◌∙◌, ◌+◌, ◌-◌, ◌^◌, List, ap, subst, arith, length}
use Rattle.std.specs.List.{flat_map}
use Rattle.std.proofs.lemmas.List.{length-append}
use Rattle.geda_model.specs.Shapes.{PartData}
use Rattle.geda_model.specs.Sheets.{SymbolData, IsHead}
use Rattle.geda_grammar.specs.Canonical.{head_text, part_rows, rows_text, symbol_text}
use Rattle.geda_write.specs.steps.Output.{Spare, more}
use Rattle.geda_write.specs.steps.Texts.{part_text}
use Rattle.geda_write.proofs.Canonical.{parts}
use Rattle.geda_write.proofs.Heads.{length_head}
use Rattle.geda_write.proofs.Outputs.{counted}
use Rattle.geda_write.proofs.sizes.symbol_size.Goals as goal

pub returns : goal.returns
returns c =
    let s = c.args.symbol.now in
    let head = subst (λ (t : SymbolData). IsHead t.head) c.symbol.view_is c.symbol.invariant.head in
    let line = length_head s.head head in
    let rows = ap length (parts s.parts) in
    let whole = length-append (head_text s.head) (rows_text (flat_map part_rows s.parts)) in
    let size : length (symbol_text s) ≡ 13 + length (flat_map part_text s.parts) = omega (arith, line, rows, whole) in
    let same : c.as_slice.result.now ≡ s.parts = c.as_slice.ensures.parts ∙ ap (λ (t : SymbolData). t.parts) c.symbol.view_is in
    let given = c.in-Ok.ensures ∙ ap (λ (ps : List PartData). more (Spare (2 ^ 64 - 1 - 13)) (flat_map part_text ps)) same in
    record { size = c.bytes.ensures.bytes ∙ counted 13 c.put_parts.new.out.bytes (flat_map part_text s.parts) (symbol_text s) (omega arith) c.bytes.ensures.fits size given }
