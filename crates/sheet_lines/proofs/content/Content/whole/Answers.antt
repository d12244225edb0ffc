use Rattle.std.specs.String.{string_bytes}
use Rattle.sheet_lines.proofs.Contents.{last_line, line_alone}
use Rattle.sheet_lines.proofs.content.Content.whole.Goals as goal

pub returns-then-is_empty-clause-range : goal.returns-then-is_empty-clause-range
returns-then-is_empty-clause-range c =
    rw c.in_ok-new.ensures (line_alone c.args.line.now c.requires c.utf8.line)

pub returns-clause-range : goal.returns-clause-range
returns-clause-range c =
    let line = last_line (record { content = string_bytes c.self.inside.text; left = c.self.inside.left }) c.args.line.now c.self.invariant c.requires c.utf8.line in
    rw (c.from_string.ensures, c.in_ok-push_str.ensures.bytes) line
