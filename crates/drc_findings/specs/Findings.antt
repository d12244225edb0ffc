-- What is found where a rule of the check is broken (own).
use Rattle.std.specs.Prelude.{ℕ, List}
use Rattle.printed_texts.specs.PrintedTexts.{word}
use Rattle.text_tallies.specs.Levels.{found_if}
use Rattle.text_tallies.specs.LookAlike.{look_alike}
use Rattle.pin_matrix.specs.declared.level.Level.{Level}
use Rattle.pin_matrix.specs.declared.level.Level.TheVariants as levels
use Rattle.drc_findings.specs.declared.finding.Finding.{Finding}
use Rattle.drc_findings.specs.declared.rule.Rule.{Rule}
use Rattle.drc_findings.specs.declared.rule.Rule.TheVariants as drc

-- the number of a rule
abbrev pub code_of : Rule → ℕ
code_of drc.Unnumbered = 1
code_of drc.NoRefdes = 2
code_of drc.DuplicateRefdes = 3
code_of drc.DuplicateSlot = 4
code_of drc.BadSlot = 5
code_of drc.UnusedSlot = 6
code_of drc.UnknownPintype = 7
code_of drc.Conflict = 8
code_of drc.OnePin = 9
code_of drc.UnconnectedPin = 10
code_of drc.NotDriven = 11
code_of drc.PinOnTwoNets = 12
code_of drc.MissingSymbol = 13
code_of drc.MissingSource = 14
code_of drc.SourceLoop = 15
code_of drc.Unreached = 16
code_of drc.BadNet = 17
code_of drc.SameText = 18
code_of drc.NoConnection = 19

-- a finding by its level, its rule and its words
abbrev pub finding : Level → Rule → List ℕ → Finding
finding level rule words = record { code = code_of rule; level = level; words = words }

-- one of level error
abbrev pub an_error : Rule → List ℕ → Finding
an_error rule words = finding levels.Error rule words

-- one of level warning
abbrev pub a_warning : Rule → List ℕ → Finding
a_warning rule words = finding levels.Warning rule words

-- SameText: two of these names differ, and both print as this one does
abbrev pub same_text : List (List ℕ) → List ℕ → List Finding
same_text names name = found_if (look_alike names (word name)) (an_error drc.SameText (word name))
