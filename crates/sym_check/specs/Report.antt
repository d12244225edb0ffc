-- The text of a report on symbols (own): for each file how much is found and a line a finding, and
-- behind all files how many are errors and warnings.
use Rattle.std.specs.Prelude.{ℕ, Bool, true, false, not, List, [], ◌∷◌, ◌++◌, length, codes, count_by, ◌==◌, if◌then◌else◌}
use Rattle.std.specs.List.{flat_map}
use Rattle.std.specs.Fmt.{decimal}
use Rattle.geda_defs.specs.Lines.{ended}
use Rattle.text_tallies.specs.Levels.{levels_text}
use Rattle.sym_check.specs.declared.report.CheckedFile.{CheckedFile}
use Rattle.sym_check.specs.declared.finding.SymFinding.{SymFinding}

-- the name of a rule by its number
abbrev pub symbol_rule_name : ℕ → List ℕ
symbol_rule_name code =
    if code == 1 then codes "NoDevice" else (
    if code == 2 then codes "NoRefdes" else (
    if code == 3 then codes "NoPins" else (
    if code == 4 then codes "MissingNumber" else (
    if code == 5 then codes "MissingSeq" else (
    if code == 6 then codes "DuplicateNumber" else (
    if code == 7 then codes "DuplicateSeq" else (
    if code == 8 then codes "MissingLabel" else (
    if code == 9 then codes "BadPintype" else (
    if code == 10 then codes "OffGrid" else (
    if code == 11 then codes "BadNumslots" else (
    if code == 12 then codes "MissingSlotdef" else (
    if code == 13 then codes "DuplicateSlotdef" else (
    if code == 14 then codes "BadSlotdef" else codes "BadNet")))))))))))))

-- a finding is an error or a warning
abbrev pub symbol_level_word : Bool → List ℕ
symbol_level_word true = codes "error"
symbol_level_word false = codes "warning"

-- a space and the words, where there are words
abbrev pub words_text : List ℕ → List ℕ
words_text [] = []
words_text (b ∷ bs) = 32 ∷ (b ∷ bs)

-- the line of a finding
abbrev pub symbol_finding_text : SymFinding → List ℕ
symbol_finding_text f =
    ended (symbol_level_word f.error ++ 32 ∷ (symbol_rule_name f.code ++ words_text f.words))

-- the first line of a file
abbrev pub file_count_text : List ℕ → ℕ → List ℕ
file_count_text file count = ended (file ++ codes ": findings " ++ decimal count)

-- the lines of a file
abbrev pub file_text : CheckedFile → List ℕ
file_text f = file_count_text f.file (length f.findings) ++ flat_map symbol_finding_text f.findings

-- it is an error
abbrev pub is_symbol_error : SymFinding → Bool
is_symbol_error f = f.error

-- it is a warning
abbrev pub is_symbol_warning : SymFinding → Bool
is_symbol_warning f = not f.error

-- what is found in all files
abbrev pub all_found : List CheckedFile → List SymFinding
all_found files = flat_map (λ f. f.findings) files

-- the report
abbrev pub symbol_report_text : List CheckedFile → List ℕ
symbol_report_text files =
    flat_map file_text files
    ++ levels_text (count_by is_symbol_error (all_found files))
    (count_by is_symbol_warning (all_found files))
