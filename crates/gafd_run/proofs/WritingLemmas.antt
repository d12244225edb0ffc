-- Files that are written one after the other.
use Rattle.std.proofs.Common.{◌≡◌, ◌≢◌, ℕ, zero, suc, ◌+◌, ◌<◌, Bool, true, false, List, [], ◌∷◌, ◌++◌, length, get_or, take, cond, None, Some, Ok, Err, refl, sym, ap, ◌∙◌, arith, add-one}
use Rattle.std.specs.declared.option.Option.{Option}
use Rattle.std.specs.List.{slice_get}
use Rattle.std.specs.Str.{bytes_eq}
use Rattle.geda_defs.specs.Contents.{Files, KeepsFiles}
use Rattle.project_model.proofs.Rows.{key_equal, key_same, names}
use Rattle.project_files.specs.FolderWrites.{WritesFile}
use Rattle.project_files.specs.declared.folder.FolderFault.{FolderFault}
use Rattle.renum_files.specs.RenumberedFiles.{File}
use Rattle.gafd_run.specs.Writing.{HasFiles, HasFilesBut, with_file, with_files}

-- one more file
with_next : (files : Files) (xs : List File) (x : File) (name : List ℕ) → with_files files (xs ++ x ∷ []) name ≡ with_file (with_files files xs) x name
with_next files [] x name = refl
with_next files (y ∷ xs) x name = with_next (with_file files y) xs x name

-- the same over the same files
with_same : (files others : Files) (xs : List File) → ((name : List ℕ) → others name ≡ files name) → (name : List ℕ) → with_files others xs name ≡ with_files files xs name
with_same files others [] same name = same name
with_same files others (x ∷ xs) same name = with_same (with_file files x) (with_file others x) xs (λ n. ap (cond (bytes_eq x.0 n) (Some x.1)) (same n)) name

differs : (x name : List ℕ) → bytes_eq x name ≡ false → name ≢ x
differs x name apart same = absurd (let is = ap (bytes_eq x) same ∙ (key_equal names).refl x in cc)

take_suc : (xs : List File) (i : ℕ) (x : File) → i < length xs → x ≡ get_or xs i x → take (suc i) xs ≡ take i xs ++ x ∷ []
take_suc [] i x lt e = absurd (omega arith)
take_suc (y ∷ xs) zero x lt e = ap (λ (z : File). z ∷ []) (sym e)
take_suc (y ∷ xs) (suc i) x lt e = ap (λ (zs : List File). y ∷ zs) (take_suc xs i x (omega arith) e)

-- the file at a place is the next behind those before it
pub take_next : (xs : List File) (i : ℕ) (x : File) → i < length xs → x ≡ get_or xs i x → take (i + 1) xs ≡ take i xs ++ x ∷ []
take_next xs i x lt e = rw add-one (take_suc xs i x lt e)

pub got : (xs : List File) (i : ℕ) (x : File) → i < length xs → x ≡ get_or xs i x → slice_get xs i ≡ Some x
got [] i x lt e = absurd (omega arith)
got (y ∷ xs) zero x lt e = ap Some (sym e)
got (y ∷ xs) (suc i) x lt e = got xs i x (omega arith) e

-- nothing is written yet
pub none_yet : (files : Option Files) → HasFiles files files []
none_yet None = tt
none_yet (Some files) = λ name. refl

-- a file more is written
pub has_next : (old mid new : Option Files) (xs : List File) (x : File) → HasFiles old mid xs → WritesFile {E = FolderFault} mid new x.0 x.1 (Ok tt) → HasFiles old new (xs ++ x ∷ [])
has_next None mid new xs x has wrote = tt
has_next (Some old) None new xs x has wrote = absurd has
has_next (Some old) (Some mid) None xs x has wrote = absurd wrote
has_next (Some old) (Some mid) (Some new) xs x has wrote = λ name. go name (bytes_eq x.0 name) refl ∙ sym (with_next old xs x name)
  where
    go : (name : List ℕ) (b : Bool) → bytes_eq x.0 name ≡ b → new name ≡ with_file (with_files old xs) x name
    go name true e = ap new (sym (key_same names x.0 name e)) ∙ wrote.0 ∙ sym (ap (λ b. cond b (Some x.1) (with_files old xs name)) e)
    go name false e = wrote.1 name (differs x.0 name e) ∙ has name ∙ sym (ap (λ b. cond b (Some x.1) (with_files old xs name)) e)

-- a file was to be written, and a fault came
pub but_next : (old mid new : Option Files) (xs : List File) (x : File) (e : FolderFault) → HasFiles old mid xs → WritesFile mid new x.0 x.1 (Err e) → HasFilesBut x.0 old new xs
but_next None mid new xs x e has wrote = tt
but_next (Some old) None new xs x e has wrote = absurd has
but_next (Some old) (Some mid) None xs x e has wrote = absurd wrote
but_next (Some old) (Some mid) (Some new) xs x e has wrote = λ name differ. wrote.1 name differ ∙ has name

-- what is written after files stayed
pub has_after : (old mid new : Option Files) (xs : List File) → KeepsFiles old mid → HasFiles mid new xs → HasFiles old new xs
has_after None mid new xs kept has = tt
has_after (Some old) None new xs kept has = absurd kept
has_after (Some old) (Some mid) None xs kept has = absurd has
has_after (Some old) (Some mid) (Some new) xs kept has = λ name. has name ∙ with_same old mid xs kept name

pub but_after : (but : List ℕ) (old mid new : Option Files) (xs : List File) → KeepsFiles old mid → HasFilesBut but mid new xs → HasFilesBut but old new xs
but_after but None mid new xs kept has = tt
but_after but (Some old) None new xs kept has = absurd kept
but_after but (Some old) (Some mid) None xs kept has = absurd has
but_after but (Some old) (Some mid) (Some new) xs kept has = λ name differ. has name differ ∙ with_same old mid xs kept name

-- where nothing is written, files stay
pub none_written : (old new : Option Files) → HasFiles old new [] → KeepsFiles old new
none_written None new has = tt
none_written (Some old) None has = has
none_written (Some old) (Some new) has = has
