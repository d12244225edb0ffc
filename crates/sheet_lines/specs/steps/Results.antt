-- Steps of the code; no public clause cites them.
-- What reading a part of a line gives: what is said there, or the kind of the fault.
use Rattle.std.specs.Prelude.{◌≡◌, Result, Ok, Err}
use Rattle.geda_grammar.specs.declared.kind.ReadKind.{ReadKind}
use Rattle.sheet_lines.specs.declared.fault.LineFault.{LineFault}
use Rattle.sheet_lines.specs.declared.fault.LineFault.TheVariants as faults

-- what follows reads on from what was read; the first fault from the left stays
infixl 10 ◌>>=◌
abbrev pub ◌>>=◌ :
    {A B : Type 0} → Result A ReadKind → (A → Result B ReadKind) → Result B ReadKind
(Ok a) >>= f = f a
(Err kind) >>= f = Err kind

-- the kind that is answered is the one that reading gives; want of memory says nothing
abbrev pub Fails : {Y : Type 0} → LineFault → Result Y ReadKind → Type 0
Fails faults.NoMemory read = Unit {0}
Fails (faults.Refused kind) read = read ≡ Err kind

-- what a function returned, seen by view, is what reading gives, unless memory ran out
abbrev pub Gives :
    {X Y : Type 0} → (X → Y) → Result X LineFault → Result Y ReadKind → Type 0
Gives view (Ok x) read = read ≡ Ok (view x)
Gives view (Err e) read = Fails e read
