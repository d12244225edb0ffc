-- Texts of which each is kept once, and the sheets that they name.
use Rattle.std.proofs.Common.{◌≡◌, ℕ, ◌+◌, ◌≤◌, ◌==◌, length, Bool, true, true≢false, false, ◌&&◌, Some, None, ap₂, List, [], ◌∷◌, ◌++◌, if◌then◌else◌, sym, ◌∙◌, append_assoc, append-nil, arith}
use Rattle.std.specs.Str.{bytes_eq}
use Rattle.std.specs.List.{fold, list_all, list_any}
use Rattle.std.proofs.lemmas.List.{length-append}
use Rattle.std.proofs.lemmas.Bool.{eq-eqb}
use Rattle.geda_defs.specs.Lists.{each_once, with_new}
use Rattle.geda_model.specs.Names.{is_name}
use Rattle.command_words.specs.Commands.{sheets_of}

-- as many as there are is all
fewer : (known texts : List (List ℕ)) → length (fold with_new known texts) ≤ length known + length texts
fewer known [] = omega arith
fewer known (text ∷ texts) = go (list_any (bytes_eq text) known) (λ others. fewer others texts)
  where
    go : (b : Bool) → ((others : List (List ℕ)) → length (fold with_new others texts) ≤ length others + length texts) → length (fold with_new (if b then known else known ++ text ∷ []) texts) ≤ length known + length (text ∷ texts)
    go true few = omega (arith, few known)
    go false few = omega (arith, few (known ++ text ∷ []), length-append known (text ∷ []))

all_added : (known texts : List (List ℕ)) → length (fold with_new known texts) ≡ length known + length texts → fold with_new known texts ≡ known ++ texts
all_added known [] same = sym (append-nil known)
all_added known (text ∷ texts) same = go (list_any (bytes_eq text) known) (λ others. all_added others texts) same
  where
    go : (b : Bool) → ((others : List (List ℕ)) → length (fold with_new others texts) ≡ length others + length texts → fold with_new others texts ≡ others ++ texts) → length (fold with_new (if b then known else known ++ text ∷ []) texts) ≡ length known + length (text ∷ texts) → fold with_new (if b then known else known ++ text ∷ []) texts ≡ known ++ text ∷ texts
    go true all e = absurd (omega (arith, fewer known texts, e))
    go false all e = all (known ++ text ∷ []) (omega (arith, e, length-append known (text ∷ []))) ∙ append_assoc known (text ∷ []) texts

pub once_all : (texts : List (List ℕ)) → length (each_once texts) ≡ length texts → each_once texts ≡ texts
once_all texts same = all_added [] texts (omega (arith, same))

-- names that differ, at least one, are sheets
pub all_sheets : (words : List (List ℕ)) → (length words == 0) ≡ false → list_all is_name words ≡ true → length (each_once words) ≡ length words → sheets_of words ≡ Some words
all_sheets [] filled named once = absurd (true≢false filled)
all_sheets (word ∷ others) filled named once =
    ap₂ (λ (n o : Bool). if n && o then Some (word ∷ others) else None) named (eq-eqb (length (each_once (word ∷ others))) (length (word ∷ others)) once)
