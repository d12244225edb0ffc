-- What a write does to the files that a folder tells (own).
use Rattle.std.specs.Prelude.{◌≡◌, ◌≢◌, ℕ, List, Result, OnOk, Some, None, ⊤}
use Rattle.std.specs.declared.option.Option.{Option}
use Rattle.geda_defs.specs.Contents.{Files}

-- all files but that of a name stay as they are
abbrev pub KeepsOtherFiles : List ℕ → Files → Files → Type 0
KeepsOtherFiles name old new = (other : List ℕ) → other ≢ name → new other ≡ old other

-- a write that succeeds leaves these bytes as the file of the name; one that fails says nothing of
-- that file; all others stay, where files are told
abbrev pub WritesFile : {E : Type 0} →
    Option Files → Option Files → List ℕ → List ℕ → Result (Unit {0}) E → Type 0
WritesFile None new name bytes result = ⊤
WritesFile (Some old) None name bytes result = ⊥
WritesFile (Some old) (Some new) name bytes result =
    OnOk result (new name ≡ Some bytes) × KeepsOtherFiles name old new
