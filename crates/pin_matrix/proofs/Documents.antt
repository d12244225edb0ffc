-- Documents, as the definitions see them.
use Rattle.std.proofs.Common.{◌≡◌, ◌∙◌, ◌+◌, ap, refl, ℕ, Bool, true, false, List, [], ◌∷◌, Some, None, arith, length, nat_le, if◌then◌else◌}
use Rattle.std.specs.Prelude.{IsUtf8}
use Rattle.std.specs.Str.{is_utf8}
use Rattle.std.proofs.lemmas.Str.{IsUtf8-from_is_utf8, is_utf8-from_IsUtf8}
use Rattle.toml.specs.Data.{Members}
use Rattle.toml.specs.Parse.{parse_document}
use Rattle.toml.specs.View.{members_view}
use Rattle.toml.proofs.Views.{Entry}
use Rattle.pin_matrix.specs.MatrixFiles.{count_of, toml_document}

pub is_document : (text : List ℕ) (ms : Members) → nat_le (length text) 4194304 ≡ true → IsUtf8 text → parse_document text ≡ Some ms → toml_document text ≡ Some ms
is_document text ms short valid is = rw (short, is_utf8-from_IsUtf8 text valid) is

pub no_document : (text : List ℕ) → nat_le (length text) 4194304 ≡ true → (IsUtf8 text → parse_document text ≡ None) → toml_document text ≡ None
no_document text short refused = rw short (go (is_utf8 text) refl)
  where
    go : (t : Bool) → is_utf8 text ≡ t → (if t then parse_document text else None) ≡ None
    go true e = refused (IsUtf8-from_is_utf8 text e)
    go false e = refl

pub count-members : (es : List Entry) → count_of (members_view es) ≡ length es
count-members [] = refl
count-members (e ∷ rest) = ap (λ (n : ℕ). n + 1) (count-members rest) ∙ omega arith
