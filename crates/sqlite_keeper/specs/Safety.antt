-- Stores that return what was written to them (own).
use Rattle.std.specs.Prelude.{◌≡◌, Bool, true, false, IsTrue, refl}
use Rattle.sqlite.specs.View.{View, IsClean}
use Rattle.sqlite_trees.specs.Memory.{memory_view}
use Rattle.sqlite_trees.specs.declared.memory.MemStore.{MemStore}
use Rattle.sqlite_trees.proofs.Doubt.{no_doubt}

-- no wrong answer was taken, and the store is open
abbrev pub IsSafeView : View → Type 0
IsSafeView v = IsClean v × IsTrue v.is_open

-- so it is of a store in memory
pub memory_is_safe : (s : MemStore) → IsSafeView (memory_view s)
memory_is_safe s = (no_doubt true refl, refl)

-- a file is none of them
pub no_file : {A : Type 0} → IsTrue false → A
no_file told = absurd (let e = told in cc)
