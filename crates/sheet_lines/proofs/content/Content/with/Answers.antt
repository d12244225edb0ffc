use Rattle.std.proofs.Common.{ap, sym, ◌∙◌}
use Rattle.sheet_lines.specs.steps.Begun.{ContentData}
use Rattle.std.specs.String.{string_bytes}
use Rattle.sheet_lines.proofs.Contents.{next_line}
use Rattle.sheet_lines.proofs.content.Content.with.Goals as goal

pub invariant_of-result : goal.invariant_of-result
invariant_of-result c =
    let line = next_line (record { content = string_bytes c.self.inside.text; left = c.self.inside.left }) c.args.line.now c.self.invariant c.requires.cut c.utf8.line (λ e. c.requires.others (ap (λ (d : ContentData). d.left) (sym c.self.view_is) ∙ e)) in
    rw (c.in_ok-push_str-2.ensures.bytes, c.in_ok-push_str.ensures.bytes) line
