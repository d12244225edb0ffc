-- The matrix of a check, and the sheets that are read after it.
use Rattle.std.proofs.Common.{◌≡◌, ℕ, ◌≤◌, Bool, true, false, List, Option, Some, None, Result, Ok, Err, inl, inr, length, take, refl, ap, ◌∙◌, subst, arith}
use Rattle.std.specs.declared.option.Option.{Option}
use Rattle.std.specs.Prelude.{min, nat_le}
use Rattle.std.proofs.lemmas.Bool.Decides.{nat_tests}
use Rattle.std.proofs.lemmas.List.{take_all, length-take}
use Rattle.geda_defs.specs.Contents.{Files, KeepsFiles}
use Rattle.pin_matrix.specs.declared.level.Level.{Level}
use Rattle.pin_matrix.specs.Matrices.{usual}
use Rattle.pin_matrix.specs.MatrixFiles.{toml_document}
use Rattle.gafd_run.specs.declared.fault.RunFault.{RunFault}
use Rattle.gafd_run.specs.declared.fault.RunFault.TheVariants as faults
use Rattle.project_files.specs.FileReads.{FileComesTo}
use Rattle.project_files.specs.Gathering.{ProjectFiles}
use Rattle.project_files.specs.ProjectFiles.{OfFiles}
use Rattle.hierarchy.specs.declared.fault.ElabFault.{ElabFault}
use Rattle.hierarchy.specs.declared.fault.ElabFault.TheVariants as elaboration
use Rattle.project_model.specs.Projects.{ProjectData}
use Rattle.net_list.specs.declared.nets.Nets.{Nets}
use Rattle.reports.specs.NetLists.{CheckData, OfNetList, checked as check_of}
use Rattle.gafd_run.specs.Answers.{AnswerData, ByNetList, check_reported, checked_under, matrix_of_document}
use Rattle.gafd_run.specs.steps.Checking.{MatrixFrom}
use Rattle.project_files.proofs.Reading.{HoldsOfWhole}

short_of : (n : ℕ) → nat_le n 4194304 ≡ true → n ≤ 4194304
short_of n e = grind (arith, nat_tests)

long_of : (n k : ℕ) → nat_le n 4194304 ≡ false → k ≡ min 4194305 n → nat_le k 4194304 ≡ false
long_of n k e is = grind (arith, nat_tests)

document_go : (whole : List ℕ) (b : Bool) → nat_le (length whole) 4194304 ≡ b
    → toml_document (take 4194305 whole) ≡ toml_document whole
document_go whole true e =
    ap toml_document (take_all 4194305 whole (omega (arith, short_of (length whole) e)))
document_go whole false e =
    rw (long_of (length whole) (length (take 4194305 whole)) e (length-take 4194305 whole), e) refl

-- a first part that is too long is no document either
document_whole : (whole : List ℕ) → toml_document (take 4194305 whole) ≡ toml_document whole
document_whole whole = document_go whole (nat_le (length whole) 4194304) refl

-- the matrix of the first part of a file is that of the file
pub matrix_whole : (file : List ℕ) (read : Result (List Level) RunFault)
    → HoldsOfWhole (λ found. FileComesTo (faults.Missing file) (λ bytes end. end ≡ matrix_of_document file (toml_document bytes)) found read)
matrix_whole file read None h = h
matrix_whole file read (Some whole) h = h ∙ ap (matrix_of_document file) (document_whole whole)

-- where no file is named, it is the usual one
pub usual_matrix : (files : Option Files) → MatrixFrom files None (Ok usual)
usual_matrix None = ((λ (name : List ℕ). None), refl)
usual_matrix (Some files) = refl

-- what holds of the files that stayed holds of those before
pub of_kept : (old new : Option Files) (P : ProjectFiles → Type 0) → KeepsFiles old new → OfFiles new P → OfFiles old P
of_kept None None P kept p = p
of_kept None (Some files) P kept p = (record { sheets = files; symbols = files }, p)
of_kept (Some old) None P kept p = absurd kept
of_kept (Some old) (Some new) P kept p = subst (λ (files : Files). P (record { sheets = files; symbols = files })) (λ i name. kept name i) p

-- the check of an answer that has one
abbrev check_in : CheckData → Result (CheckData × Nets) ElabFault → CheckData
check_in other (Ok made) = made.0
check_in other (Err fault) = other

-- a check that is made is reported
pub of_check : (p : ProjectData) (matrix : List Level) (found : CheckData) (list : Nets) (answer : AnswerData)
    → OfNetList {A = CheckData × Nets} elaboration.TooManyInstances (λ nets. (check_of p matrix nets, nets)) p (Ok (found, list)) → answer ≡ check_reported found
    → ByNetList (checked_under matrix) p (Ok answer)
of_check p matrix found list answer (inl (crowded, is)) made = absurd cc
of_check p matrix found list answer (inr (room, (nets, listed, is))) made =
    let same : found ≡ check_of p matrix nets = ap (check_in found) is in
    inr (room, (nets, listed, ap Ok (made ∙ ap check_reported same)))
