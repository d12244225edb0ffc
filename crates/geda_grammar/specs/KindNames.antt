-- The names of the kinds of faults, as they print (own).
use Rattle.std.specs.Prelude.{ℕ, List, codes}
use Rattle.geda_grammar.specs.declared.kind.ReadKind.{ReadKind}
use Rattle.geda_grammar.specs.declared.kind.ReadKind.TheVariants as kinds

-- the name of a reader's fault, as it prints
abbrev pub read_kind_name : ReadKind → List ℕ
read_kind_name kinds.NoVersion = codes "NoVersion"
read_kind_name kinds.BadFormat = codes "BadFormat"
read_kind_name kinds.UnknownLetter = codes "UnknownLetter"
read_kind_name kinds.FieldCount = codes "FieldCount"
read_kind_name kinds.BadNumber = codes "BadNumber"
read_kind_name kinds.OutOfRange = codes "OutOfRange"
read_kind_name kinds.BadAngle = codes "BadAngle"
read_kind_name kinds.CutShort = codes "CutShort"
read_kind_name kinds.StrayBracket = codes "StrayBracket"
read_kind_name kinds.NotAttribute = codes "NotAttribute"
read_kind_name kinds.Nested = codes "Nested"
read_kind_name kinds.NotUtf8 = codes "NotUtf8"
read_kind_name kinds.TooLarge = codes "TooLarge"
