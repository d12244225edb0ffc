-- Lines that follow a shape.
use Rattle.std.proofs.Common.{◌≡◌, ◌≢◌, ℕ, true, false, List, Some, None, Ok, Err, Result, refl, ap}
use Rattle.std.specs.Str.{is_utf8, IsUtf8}
use Rattle.std.proofs.lemmas.Str.{is_utf8-from_IsUtf8}
use Rattle.std.proofs.lemmas.List.Elements.{All-from_recursion}
use Rattle.geda_model.specs.Names.{IsLine}
use Rattle.geda_text.specs.Lines.{IsCutLine}
use Rattle.geda_grammar.specs.steps.Following as following
use Rattle.geda_grammar.specs.steps.Following.{add, more}
use Rattle.sheet_lines.specs.declared.fault.LineFault.{LineFault}
use Rattle.sheet_lines.specs.declared.fault.LineFault.TheVariants as faults
use Rattle.sheet_lines.specs.declared.pending.Progress.{Progress}
use Rattle.sheet_lines.specs.Pending.{IsAdded}
use Rattle.sheet_lines.specs.steps.Adding.{Adds}

-- a line of a file can be the name of a picture's file
pub is_line : (line : List ℕ) → IsCutLine line → IsUtf8 line → IsLine line
is_line line h u = record { text = is_utf8-from_IsUtf8 line u; line_bytes = All-from_recursion (λ b. b ≢ 10) line h.one }

-- what a UTF-8 line adds is what a line adds
pub added : (p : following.Pending) (line : List ℕ) (r : Result Progress LineFault) → is_utf8 line ≡ true → Adds (add p line) r → IsAdded p line r
added p line (Ok g) u h = rw u (ap Some h)
added p line (Err faults.NoMemory) u h = tt
added p line (Err (faults.Refused kind)) u h = absurd h

-- any other line adds nothing
pub not_added : (p : following.Pending) (line : List ℕ) → is_utf8 line ≡ false → more p line ≡ None
not_added p line u = rw u refl
