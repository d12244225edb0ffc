-- How faults are passed on, from the reader to the end of a call.
use Rattle.std.proofs.Common.{◌≡◌, ℕ, ◌≤◌, List, Result, Ok, Err, inr, refl, sym, subst, arith}
use Rattle.geda_defs.specs.Causes.{HasRisen}
use Rattle.geda_grammar.specs.declared.kind.ReadKind.{ReadKind}
use Rattle.geda_grammar.specs.Faults.{FileKind, IsFault}
use Rattle.geda_read.specs.declared.fault.ReadFault.{ReadFault}
use Rattle.geda_read.specs.declared.fault.ReadFault.TheVariants as read
use Rattle.project_files.specs.declared.fault.FileFault.{FileFault}
use Rattle.project_files.specs.declared.fault.FileFault.TheVariants as faults
use Rattle.outside.specs.Counts.{Counts, counts}
use Rattle.project_files.specs.FileReads.{ReadAs}
use Rattle.project_files.specs.ProjectFiles.{IsAnswer, IsFolderAnswer, with_view}
use Rattle.project_files.specs.steps.Passing.{IsRefusalOf}

-- a fault of the reader
pub refusal : {V A : Type 0} (file : FileKind V) (Comes : V → Result A FileFault → Type 0) (name bytes : List ℕ) (fault : ReadFault) (e : FileFault) → ((kind : ReadKind) (line : ℕ) → fault ≡ read.At kind line → IsFault file bytes kind line) → IsRefusalOf name fault e → IsAnswer (ReadAs file (faults.Refused name) Comes bytes) (Err e)
refusal {A = A} file Comes name bytes (read.At kind line) e has is = subst (λ (f : FileFault). IsAnswer {A = A} (ReadAs file (faults.Refused name) Comes bytes) (Err f)) (sym is) (inr (line, kind, has kind line refl, refl))
refusal {A = A} file Comes name bytes read.NoMemory e has is = subst (λ (f : FileFault). IsAnswer {A = A} (ReadAs file (faults.Refused name) Comes bytes) (Err f)) (sym is) tt

-- what is come to, as an answer of a call that a folder is lent to
pub answer_from : {A : Type 0} (counts : Counts) (P Q : Result A FileFault → Type 0) (outcome : Result A FileFault) → ((r : Result A FileFault) → P r → Q r) → IsAnswer P outcome → IsFolderAnswer counts Q outcome
answer_from counts P Q (Ok answer) f h = f (Ok answer) h
answer_from counts P Q (Err (faults.Missing file)) f h = f (Err (faults.Missing file)) h
answer_from counts P Q (Err (faults.Refused file line kind)) f h = f (Err (faults.Refused file line kind)) h
answer_from counts P Q (Err faults.TooManyObjects) f h = f (Err faults.TooManyObjects) h
answer_from counts P Q (Err faults.ProjectFull) f h = f (Err faults.ProjectFull) h
answer_from counts P Q (Err faults.FolderFault) f h = absurd h
answer_from counts P Q (Err faults.NoMemory) f h = tt

-- a count that has risen later on has risen from before
pub risen : (before between now : ℕ) → before ≤ between → HasRisen between now → HasRisen before now
risen before between now later h = omega arith

-- a fault that a later call met, as that of a whole
pub fault_later : {A B : Type 0} (before between now : ℕ) (P : Result A FileFault → Type 0) (Q : Result B FileFault → Type 0) (e : FileFault) → before ≤ between → (P (Err e) → Q (Err e)) → IsFolderAnswer (counts between now) P (Err e) → IsFolderAnswer (counts before now) Q (Err e)
fault_later before between now P Q (faults.Missing file) later f h = f h
fault_later before between now P Q (faults.Refused file line kind) later f h = f h
fault_later before between now P Q faults.TooManyObjects later f h = f h
fault_later before between now P Q faults.ProjectFull later f h = f h
fault_later before between now P Q faults.FolderFault later f h = risen before between now later h
fault_later before between now P Q faults.NoMemory later f h = tt

-- a fault that was met where no folder is asked, as that of a whole
pub fault_from : {A B : Type 0} (counts : Counts) (P : Result A FileFault → Type 0) (Q : Result B FileFault → Type 0)
    (e : FileFault) → (P (Err e) → Q (Err e)) → IsAnswer P (Err e) → IsFolderAnswer counts Q (Err e)
fault_from counts P Q (faults.Missing file) f h = f h
fault_from counts P Q (faults.Refused file line kind) f h = f h
fault_from counts P Q faults.TooManyObjects f h = f h
fault_from counts P Q faults.ProjectFull f h = f h
fault_from counts P Q faults.FolderFault f h = absurd h
fault_from counts P Q faults.NoMemory f h = tt

-- what a call answers that comes last, as what the whole answers
pub answer_then : {X A B : Type 0} (before between now : ℕ) (P : Result A FileFault → Type 0) (Q : Result B FileFault → Type 0) (f : X → A) (g : X → B) (r : Result X FileFault) → before ≤ between → ((o : Result X FileFault) → P (with_view f o) → Q (with_view g o)) → IsFolderAnswer (counts between now) P (with_view f r) → IsFolderAnswer (counts before now) Q (with_view g r)
answer_then before between now P Q f g (Ok x) later as_well h = as_well (Ok x) h
answer_then before between now P Q f g (Err fault) later as_well h = fault_later before between now P Q fault later (as_well (Err fault)) h
