-- An answer that is read as a JSON value, or not.
use Rattle.std.proofs.Common.{◌≡◌, ℕ, List, Bool, true, false, if◌then◌else◌, Some, None, refl}
use Rattle.std.specs.Prelude.{IsUtf8}
use Rattle.std.specs.Str.{is_utf8}
use Rattle.std.proofs.lemmas.Str.{IsUtf8-from_is_utf8, is_utf8-from_IsUtf8}
use Rattle.serde_json.specs.Data.{Data}
use Rattle.serde_json.specs.Read.{read}
use Rattle.etcd_text.specs.Answers.{answer_value}

pub is_value : (body : List ℕ) (d : Data) → IsUtf8 body → read body ≡ Some d → answer_value body ≡ Some d
is_value body d valid is = rw (is_utf8-from_IsUtf8 body valid) is

pub no_value : (body : List ℕ) → (IsUtf8 body → read body ≡ None) → answer_value body ≡ None
no_value body refused = go (is_utf8 body) refl
  where
    go : (t : Bool) → is_utf8 body ≡ t → (if t then read body else None) ≡ None
    go true e = refused (IsUtf8-from_is_utf8 body e)
    go false e = refl
