-- A file put among others by its name.
use Rattle.std.proofs.Common.{◌≡◌, ◌≢◌, ℕ, Bool, true, false, List, [], ◌∷◌, map, cond, None, Some, refl, sym, ap, ◌∙◌}
use Rattle.std.specs.Prelude.{Vec}
use Rattle.std.specs.declared.alloc.Global.{Global}
use Rattle.std.specs.declared.cmp.Ordering.{Ordering}
use Rattle.std.specs.declared.cmp.Ordering.TheVariants.{Less, Equal, Greater}
use Rattle.std.specs.BTreeMap.{insert_entry}
use Rattle.std.specs.Ordering.{is_eq, match_ordering}
use Rattle.std.specs.Str.{bytes_eq}
use Rattle.geda_defs.specs.Order.{by_bytes}
use Rattle.project_files.specs.MemoryFolder.{file_in}
use Rattle.project_model.proofs.Rows.{key_equal, key_same, names}

-- a file, as its bytes
abbrev pub seen : List ℕ × Vec ℕ Global → List ℕ × List ℕ
seen e = (e.0, e.1.items)

-- the files of a map, after one is put in
pub seen_insert : (entries : List (List ℕ × Vec ℕ Global)) (name : List ℕ) (bytes : Vec ℕ Global)
    → map seen (insert_entry by_bytes entries name bytes) ≡ insert_entry by_bytes (map seen entries) name bytes.items
seen_insert [] name bytes = refl
seen_insert (e ∷ es) name bytes =
    go (by_bytes name e.0)
    ∙ ap (λ (l : List (List ℕ × List ℕ)). match_ordering (by_bytes name e.0) ((name, bytes.items) ∷ seen e ∷ map seen es) ((e.0, bytes.items) ∷ map seen es) (seen e ∷ l)) (seen_insert es name bytes)
  where
    go : (o : Ordering) → map seen (match_ordering o ((name, bytes) ∷ e ∷ es) ((e.0, bytes) ∷ es) (e ∷ insert_entry by_bytes es name bytes))
        ≡ match_ordering o ((name, bytes.items) ∷ seen e ∷ map seen es) ((e.0, bytes.items) ∷ map seen es) (seen e ∷ map seen (insert_entry by_bytes es name bytes))
    go Less = refl
    go Equal = refl
    go Greater = refl

turn : (x q : List ℕ) → bytes_eq x q ≡ is_eq (by_bytes q x)
turn x q = (key_equal names).symm x q ∙ names.agree q x

apart : (x y : List ℕ) → x ≢ y → bytes_eq x y ≡ false
apart x y differ = go (bytes_eq x y) refl
  where
    go : (b : Bool) → bytes_eq x y ≡ b → bytes_eq x y ≡ false
    go true h = absurd (differ (key_same names x y h))
    go false h = h

-- the file that is put in is there
pub file_put : (files : List (List ℕ × List ℕ)) (name bytes : List ℕ) → file_in (insert_entry by_bytes files name bytes) name ≡ Some bytes
file_put [] name bytes = ap (λ b. cond b (Some bytes) None) ((key_equal names).refl name)
file_put (e ∷ es) name bytes = go (file_put es name bytes) (by_bytes name e.0) refl
  where
    go : file_in (insert_entry by_bytes es name bytes) name ≡ Some bytes → (o : Ordering) → by_bytes name e.0 ≡ o
        → file_in (match_ordering o ((name, bytes) ∷ e ∷ es) ((e.0, bytes) ∷ es) (e ∷ insert_entry by_bytes es name bytes)) name ≡ Some bytes
    go ih Less h = ap (λ b. cond b (Some bytes) (file_in (e ∷ es) name)) ((key_equal names).refl name)
    go ih Equal h = ap (λ b. cond b (Some bytes) (file_in es name)) (turn e.0 name ∙ ap is_eq h)
    go ih Greater h =
        ap (λ b. cond b (Some e.1) (file_in (insert_entry by_bytes es name bytes) name)) (turn e.0 name ∙ ap is_eq h) ∙ ih

-- all others are as before
pub others_kept : (files : List (List ℕ × List ℕ)) (name bytes other : List ℕ) → other ≢ name → file_in (insert_entry by_bytes files name bytes) other ≡ file_in files other
others_kept [] name bytes other differ = ap (λ b. cond b (Some bytes) None) (apart name other (λ e. differ (sym e)))
others_kept (e ∷ es) name bytes other differ = go (others_kept es name bytes other differ) (by_bytes name e.0) refl
  where
    go : file_in (insert_entry by_bytes es name bytes) other ≡ file_in es other → (o : Ordering) → by_bytes name e.0 ≡ o
        → file_in (match_ordering o ((name, bytes) ∷ e ∷ es) ((e.0, bytes) ∷ es) (e ∷ insert_entry by_bytes es name bytes)) other ≡ file_in (e ∷ es) other
    go ih Less h = ap (λ b. cond b (Some bytes) (file_in (e ∷ es) other)) (apart name other (λ p. differ (sym p)))
    go ih Equal h =
        let not_here : bytes_eq e.0 other ≡ false = apart e.0 other (λ p. differ (sym (names.exact name e.0 h ∙ p))) in
        ap (λ b. cond b (Some bytes) (file_in es other)) not_here ∙ sym (ap (λ b. cond b (Some e.1) (file_in es other)) not_here)
    go ih Greater h = ap (cond (bytes_eq e.0 other) (Some e.1)) ih
