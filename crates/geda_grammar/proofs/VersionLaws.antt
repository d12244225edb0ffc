-- The version line.
use Rattle.std.proofs.Common.{◌≡◌, ℕ, Bool, true, false, cond, List, [], ◌∷◌, length, Option, Some, None, refl, sym, ap, ◌∙◌, ◌↔◌, inl, inr, ◌⊎◌, codes, eqb}
use Rattle.std.specs.Prelude.{IsSome, ◌&&◌}
use Rattle.std.specs.List.{list_all}
use Rattle.std.specs.Option.{option_map}
use Rattle.std.specs.Char.{is_ascii_digit}
use Rattle.std.specs.Str.{bytes_eq}
use Rattle.std.proofs.lemmas.Bool.{eqb-true, eq-eqb, and_parts}
use Rattle.geda_defs.proofs.Bytes.{bytes_same}
use Rattle.geda_model.specs.Sheets.{HeadData}
use Rattle.geda_grammar.specs.Letters.{is_version}
use Rattle.geda_grammar.specs.Spelling.{IsVersionLine}
use Rattle.geda_grammar.specs.steps.Files.{version_of, version_in, format_of, head_of}
use Rattle.geda_text.specs.Lines.{fields_of}

-- a field that says a format
known_format : (w : List ℕ) (f : ℕ) → format_of w ≡ Some f → ((w ≡ codes "1") × (f ≡ 1)) ⊎ ((w ≡ codes "2") × (f ≡ 2))
known_format w f e = go (bytes_eq w (codes "1")) (bytes_eq w (codes "2")) refl refl e
  where
    go : (b c : Bool) → bytes_eq w (codes "1") ≡ b → bytes_eq w (codes "2") ≡ c → cond b (Some 1) (cond c (Some 2) None) ≡ Some f → ((w ≡ codes "1") × (f ≡ 1)) ⊎ ((w ≡ codes "2") × (f ≡ 2))
    go true c g h e = inl (bytes_same w (codes "1") g, let same : 1 ≡ f = cc in sym same)
    go false true g h e = inr (bytes_same w (codes "2") h, let same : 2 ≡ f = cc in sym same)
    go false false g h e = absurd cc

format_known : (w : List ℕ) (f : ℕ) → ((w ≡ codes "1") × (f ≡ 1)) ⊎ ((w ≡ codes "2") × (f ≡ 2)) → format_of w ≡ Some f
format_known w f (inl h) = ap format_of h.0 ∙ ap (λ (n : ℕ). Some n) (sym h.1)
format_known w f (inr h) = ap format_of h.0 ∙ ap (λ (n : ℕ). Some n) (sym h.1)

version_word : (w : List ℕ) → is_version w ≡ true → w ≡ codes "v"
version_word [] e = absurd cc
version_word (b ∷ []) e = ap (λ (n : ℕ). n ∷ []) (eqb-true b 118 e)
version_word (b ∷ c ∷ bs) e = absurd cc

-- a version line is read
pub version_read : (head : HeadData) (line : List ℕ) → IsVersionLine head line → version_of line ≡ Some head
version_read head line h =
    let f = format_known h.format head.format h.known in
    let one : version_in (codes "v" ∷ h.date ∷ h.format ∷ []) ≡ Some (head_of h.date head.format) = rw (eq-eqb (length h.date) 8 h.eight, h.digits, f) refl in
    ap version_in h.line_is ∙ one ∙ ap (λ (d : ℕ). Some (record { date = d; format = head.format })) (sym h.value)

-- what is read is a version line
pub version_is : (head : HeadData) (line : List ℕ) → version_of line ≡ Some head → IsVersionLine head line
version_is head line e = by_words (fields_of line) refl e
  where
    by_format : (v date format : List ℕ) (o : Option ℕ) → fields_of line ≡ v ∷ date ∷ format ∷ [] → is_version v ≡ true → length date ≡ 8 → list_all is_ascii_digit date ≡ true → format_of format ≡ o → option_map (head_of date) o ≡ Some head → IsVersionLine head line
    by_format v date format None f a b c g e = absurd cc
    by_format v date format (Some n) f a b c g e =
        let same : head_of date n ≡ head = cc in
        let number : n ≡ head.format = ap (λ (k : HeadData). k.format) same in
        record {
          date = date;
          format = format;
          line_is = f ∙ ap (λ (w : List ℕ). w ∷ date ∷ format ∷ []) (version_word v a);
          eight = b;
          digits = c;
          value = ap (λ (k : HeadData). k.date) (sym same);
          known = known_format format head.format (g ∙ ap (λ (k : ℕ). Some k) number);
        }

    by_tests : (v date format : List ℕ) (b : Bool) → fields_of line ≡ v ∷ date ∷ format ∷ [] → (is_version v && (eqb (length date) 8 && list_all is_ascii_digit date)) ≡ b → cond b (option_map (head_of date) (format_of format)) None ≡ Some head → IsVersionLine head line
    by_tests v date format false f g e = absurd cc
    by_tests v date format true f g e =
        let a = and_parts (is_version v) (eqb (length date) 8 && list_all is_ascii_digit date) g in
        let b = and_parts (eqb (length date) 8) (list_all is_ascii_digit date) a.1 in
        by_format v date format (format_of format) f a.0 (eqb-true _ _ b.0) b.1 refl e

    by_words : (ws : List (List ℕ)) → fields_of line ≡ ws → version_in ws ≡ Some head → IsVersionLine head line
    by_words (v ∷ date ∷ format ∷ []) f e = by_tests v date format (is_version v && (eqb (length date) 8 && list_all is_ascii_digit date)) f refl e
    by_words ws f e = absurd cc

pub version_law : (line : List ℕ) → ((head : HeadData) × IsVersionLine head line) ↔ IsSome (version_of line)
version_law line = (there, back (version_of line) refl)
  where
    there : (head : HeadData) × IsVersionLine head line → IsSome (version_of line)
    there h = rw (version_read h.0 line h.1) refl

    back : (o : Option HeadData) → version_of line ≡ o → IsSome o → (head : HeadData) × IsVersionLine head line
    back None e some = absurd cc
    back (Some head) e some = (head, version_is head line e)
