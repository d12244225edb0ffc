-- The text of a report (own): the count, a line a finding, and the counts of errors and warnings.
use Rattle.std.specs.Prelude.{ℕ, Bool, true, false, List, ◌∷◌, ◌++◌, length, codes, count_by, ◌==◌, if◌then◌else◌}
use Rattle.std.specs.List.{flat_map}
use Rattle.std.specs.Fmt.{decimal}
use Rattle.geda_defs.specs.Lines.{ended}
use Rattle.text_tallies.specs.Levels.{levels_text}
use Rattle.drc_findings.specs.declared.finding.Finding.{Finding}
use Rattle.pin_matrix.specs.declared.level.Level.{Level}
use Rattle.pin_matrix.specs.declared.level.Level.TheVariants as levels

-- the name of a rule by its number
abbrev pub code_name : ℕ → List ℕ
code_name code =
    if code == 1 then codes "Unnumbered" else (
    if code == 2 then codes "NoRefdes" else (
    if code == 3 then codes "DuplicateRefdes" else (
    if code == 4 then codes "DuplicateSlot" else (
    if code == 5 then codes "BadSlot" else (
    if code == 6 then codes "UnusedSlot" else (
    if code == 7 then codes "UnknownPintype" else (
    if code == 8 then codes "Conflict" else (
    if code == 9 then codes "OnePin" else (
    if code == 10 then codes "UnconnectedPin" else (
    if code == 11 then codes "NotDriven" else (
    if code == 12 then codes "PinOnTwoNets" else (
    if code == 13 then codes "MissingSymbol" else (
    if code == 14 then codes "MissingSource" else (
    if code == 15 then codes "SourceLoop" else (
    if code == 16 then codes "Unreached" else (
    if code == 17 then codes "BadNet" else (
    if code == 18 then codes "SameText" else codes "NoConnection")))))))))))))))))

-- a finding is an error or a warning
abbrev pub level_word : Level → List ℕ
level_word levels.Correct = codes "correct"
level_word levels.Warning = codes "warning"
level_word levels.Error = codes "error"

-- a line of the report
abbrev pub finding_text : Finding → List ℕ
finding_text f = ended (level_word f.level ++ 32 ∷ (code_name f.code ++ 32 ∷ f.words))

-- it is an error
abbrev pub is_error : Finding → Bool
is_error f = of_level f.level
  where
    of_level : Level → Bool
    of_level levels.Correct = false
    of_level levels.Warning = false
    of_level levels.Error = true

-- it is a warning
abbrev pub is_warning : Finding → Bool
is_warning f = of_level f.level
  where
    of_level : Level → Bool
    of_level levels.Correct = false
    of_level levels.Warning = true
    of_level levels.Error = false

-- the first line
abbrev pub count_text : ℕ → List ℕ
count_text count = ended (codes "findings " ++ decimal count)

-- the report
abbrev pub report_text : List Finding → List ℕ
report_text findings =
    count_text (length findings) ++ flat_map finding_text findings
    ++ levels_text (count_by is_error findings) (count_by is_warning findings)
