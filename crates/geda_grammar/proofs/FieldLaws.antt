-- What a line says is what its fields say.
use Rattle.std.proofs.Common.{◌≡◌, ℕ, ℤ, pos, negsuc, Bool, true, false, cond, List, [], ◌∷◌, Option, Some, None, refl, sym, ap, subst, ◌∙◌, eqb, arith}
use Rattle.std.specs.Prelude.{if◌then◌else◌}
use Rattle.std.proofs.lemmas.Bool.{eqb-true, leb-true}
use Rattle.std.proofs.lemmas.Bool.Decides.{nat_tests}
use Rattle.geda_grammar.specs.declared.letter.Letter.{Letter}
use Rattle.geda_grammar.specs.Letters.{letters, letter_of, letter_among, byte_of}
use Rattle.geda_grammar.specs.declared.letter.Letter.TheVariants.{Straight, Picture, Rect, Circle, Arc, Text, Net, Bus, Pin, Path, Component, OpenBlock, CloseBlock, OpenSymbol, CloseSymbol}
use Rattle.geda_grammar.specs.declared.field_class.Class.{Class}
use Rattle.geda_grammar.specs.declared.field_class.Class.TheVariants.{Within, UpTo, Lines, Angle, Basename}
use Rattle.geda_grammar.specs.Classes.{Field, Number, Word, classes_of, field_in, number_in, fits, AreFields}
use Rattle.geda_grammar.specs.Rows.{natural, bit}
use Rattle.geda_grammar.specs.steps.Reading.{SheetLine, Blank, Complete, Begins, Faulty}
use Rattle.geda_grammar.specs.steps.Following.{Pending}
use Rattle.geda_grammar.specs.steps.SheetLines.{letter_line, and_more, read_fields, line_of_fields, line_of_letter, line_of_words, sheet_line, natural_in, flag_in}
use Rattle.geda_model.specs.Names.{is_word}
use Rattle.geda_text.specs.Lines.{fields_of, whole_of}

-- a letter is known by its byte
pub letter_known : (l : Letter) → letter_of (byte_of l ∷ []) ≡ Some l
letter_known Straight = refl
letter_known Picture = refl
letter_known Rect = refl
letter_known Circle = refl
letter_known Arc = refl
letter_known Text = refl
letter_known Net = refl
letter_known Bus = refl
letter_known Pin = refl
letter_known Path = refl
letter_known Component = refl
letter_known OpenBlock = refl
letter_known CloseBlock = refl
letter_known OpenSymbol = refl
letter_known CloseSymbol = refl

among_is : (ls : List Letter) (b : ℕ) (l : Letter) → letter_among ls b ≡ Some l → b ≡ byte_of l
among_is [] b l e = absurd cc
among_is (k ∷ ls) b l e = go (eqb b (byte_of k)) refl e (λ f. among_is ls b l f)
  where
    go : (t : Bool) → eqb b (byte_of k) ≡ t → cond t (Some k) (letter_among ls b) ≡ Some l → (letter_among ls b ≡ Some l → b ≡ byte_of l) → b ≡ byte_of l
    go true f e later = let same : k ≡ l = cc in eqb-true b (byte_of k) f ∙ ap byte_of same
    go false f e later = later e

-- a field that is a letter is its byte
pub letter_is : (w : List ℕ) (l : Letter) → letter_of w ≡ Some l → w ≡ byte_of l ∷ []
letter_is [] l e = absurd cc
letter_is (b ∷ []) l e = ap (λ (n : ℕ). n ∷ []) (among_is letters b l e)
letter_is (b ∷ c ∷ bs) l e = absurd cc

-- fields that say something are read
pub fields_read : (cs : List Class) (ws : List (List ℕ)) (fs : List Field) → AreFields cs ws fs → read_fields cs ws ≡ Some fs
fields_read [] [] [] h = refl
fields_read (c ∷ cs) (w ∷ ws) (f ∷ fs) h = rw (h.0, fields_read cs ws fs h.1) refl
fields_read cs ws fs h = absurd h

pub read_fields_back : (cs : List Class) (ws : List (List ℕ)) (fs : List Field) → read_fields cs ws ≡ Some fs → AreFields cs ws fs
read_fields_back [] [] fs e = let same : [] ≡ fs = cc in subst (λ (gs : List Field). AreFields [] [] gs) same tt
read_fields_back (c ∷ cs) (w ∷ ws) fs e = go (field_in c w) (read_fields cs ws) refl refl e (λ gs f. read_fields_back cs ws gs f)
  where
    go : (o : Option Field) (p : Option (List Field)) → field_in c w ≡ o → read_fields cs ws ≡ p → and_more o p ≡ Some fs → ((gs : List Field) → read_fields cs ws ≡ Some gs → AreFields cs ws gs) → AreFields (c ∷ cs) (w ∷ ws) fs
    go None p f g e later = absurd cc
    go (Some field) None f g e later = absurd cc
    go (Some field) (Some gs) f g e later =
        let same : field ∷ gs ≡ fs = cc in
        subst (λ (gs : List Field). AreFields (c ∷ cs) (w ∷ ws) gs) same (f, later gs g)
read_fields_back [] (w ∷ ws) fs e = absurd cc
read_fields_back (c ∷ cs) [] fs e = absurd cc

-- a line with a letter says what its fields say
pub line_as : (line : List ℕ) (letter : Letter) (words : List (List ℕ)) (fields : List Field) → fields_of line ≡ (byte_of letter ∷ []) ∷ words → AreFields (classes_of letter) words fields → sheet_line line ≡ letter_line letter fields
line_as line letter words fields e h = rw (e, letter_known letter, fields_read (classes_of letter) words fields h) refl

-- and one that says something has a letter and fields
pub record HasFields (line : List ℕ) (what : SheetLine Pending) : Type 0 where
  pub letter : Letter
  pub words : List (List ℕ)
  pub fields : List Field
  pub line_is : fields_of line ≡ (byte_of letter ∷ []) ∷ words
  pub say_so : AreFields (classes_of letter) words fields
  pub what_is : letter_line letter fields ≡ what

-- neither a blank line nor nothing
abbrev pub IsSaid : SheetLine Pending → Type 0
IsSaid Blank = ⊥
IsSaid (Complete row) = Unit {0}
IsSaid (Begins p) = Unit {0}
IsSaid Faulty = ⊥

pub has_fields : (line : List ℕ) (what : SheetLine Pending) → sheet_line line ≡ what → IsSaid what → HasFields line what
has_fields line what e h = by_words (fields_of line) refl e
  where
    by_fields : (w : List ℕ) (words : List (List ℕ)) (l : Letter) (o : Option (List Field)) → fields_of line ≡ w ∷ words → letter_of w ≡ Some l → read_fields (classes_of l) words ≡ o → line_of_fields l o ≡ what → HasFields line what
    by_fields w words l None f g k e = absurd (subst IsSaid (sym e) h)
    by_fields w words l (Some fs) f g k e = record {
      letter = l;
      words = words;
      fields = fs;
      line_is = f ∙ ap (λ (v : List ℕ). v ∷ words) (letter_is w l g);
      say_so = read_fields_back (classes_of l) words fs k;
      what_is = e;
    }

    by_letter : (w : List ℕ) (words : List (List ℕ)) (o : Option Letter) → fields_of line ≡ w ∷ words → letter_of w ≡ o → line_of_letter o words ≡ what → HasFields line what
    by_letter w words None f g e = absurd (subst IsSaid (sym e) h)
    by_letter w words (Some l) f g e = by_fields w words l (read_fields (classes_of l) words) f g refl e

    by_words : (ws : List (List ℕ)) → fields_of line ≡ ws → line_of_words ws ≡ what → HasFields line what
    by_words [] f e = absurd (subst IsSaid (sym e) h)
    by_words (w ∷ words) f e = by_letter w words (letter_of w) f refl e

-- numbers are of their classes
abbrev pub FitFields : List Class → List Field → Type 0
FitFields [] [] = Unit {0}
FitFields (c ∷ cs) (Number z ∷ fs) = (fits c z ≡ true) × FitFields cs fs
FitFields (Basename ∷ cs) (Word w ∷ fs) = FitFields cs fs
FitFields cs fs = ⊥

number_fits : (c : Class) (o : Option ℤ) (z : ℤ) → number_in c o ≡ Some (Number z) → fits c z ≡ true
number_fits c None z e = absurd cc
number_fits c (Some y) z e = go (fits c y) refl e
  where
    go : (b : Bool) → fits c y ≡ b → cond b (Some (Number y)) None ≡ Some (Number z) → fits c z ≡ true
    go true f e = let same : y ≡ z = cc in ap (fits c) (sym same) ∙ f
    go false f e = absurd cc

field_fits : (c : Class) (w : List ℕ) (z : ℤ) → field_in c w ≡ Some (Number z) → fits c z ≡ true
field_fits (Within n) w z e = number_fits (Within n) (whole_of w) z e
field_fits (UpTo n) w z e = number_fits (UpTo n) (whole_of w) z e
field_fits Lines w z e = number_fits Lines (whole_of w) z e
field_fits Angle w z e = number_fits Angle (whole_of w) z e
field_fits Basename w z e = go (is_word w) e
  where
    go : (b : Bool) → cond b (Some (Word w)) None ≡ Some (Number z) → fits Basename z ≡ true
    go true e = absurd cc
    go false e = absurd cc

-- a number class has no name
no_name : (c : Class) (o : Option ℤ) (w : List ℕ) → ¬ (number_in c o ≡ Some (Word w))
no_name c None w e = absurd cc
no_name c (Some z) w e = go (fits c z) e
  where
    go : (b : Bool) → cond b (Some (Number z)) None ≡ Some (Word w) → ⊥
    go true e = absurd cc
    go false e = absurd cc

pub line_fits : (cs : List Class) (ws : List (List ℕ)) (fs : List Field) → AreFields cs ws fs → FitFields cs fs
line_fits [] [] [] h = tt
line_fits (c ∷ cs) (w ∷ ws) (Number z ∷ fs) h = (field_fits c w z h.0, line_fits cs ws fs h.1)
line_fits (Within n ∷ cs) (w ∷ ws) (Word b ∷ fs) h = absurd (no_name (Within n) (whole_of w) b h.0)
line_fits (UpTo n ∷ cs) (w ∷ ws) (Word b ∷ fs) h = absurd (no_name (UpTo n) (whole_of w) b h.0)
line_fits (Lines ∷ cs) (w ∷ ws) (Word b ∷ fs) h = absurd (no_name Lines (whole_of w) b h.0)
line_fits (Angle ∷ cs) (w ∷ ws) (Word b ∷ fs) h = absurd (no_name Angle (whole_of w) b h.0)
line_fits (Basename ∷ cs) (w ∷ ws) (Word b ∷ fs) h = line_fits cs ws fs h.1
line_fits cs ws fs h = absurd h

-- what was read as a number not below 0, or as a flag, is that number
pub natural_back : (c : Class) (z : ℤ) → ((n : ℕ) → fits c (negsuc n) ≡ false) → fits c z ≡ true → natural (natural_in z) ≡ Number z
natural_back c (pos n) low h = refl
natural_back c (negsuc n) low h = absurd (let e = low n in cc)

pub flag_back : (z : ℤ) → fits (UpTo 1) z ≡ true → bit (flag_in z) ≡ Number z
flag_back (pos n) h = go (eqb n 1) refl
  where
    go : (b : Bool) → eqb n 1 ≡ b → natural (if b then 1 else 0) ≡ Number (pos n)
    go true e = let same = eqb-true n 1 e in ap (λ (k : ℕ). Number (pos k)) (sym same)
    go false e = let same : 0 ≡ n = grind (arith, leb-true n 1 h, nat_tests, e) in ap (λ (k : ℕ). Number (pos k)) same
flag_back (negsuc n) h = absurd cc

pub bit_back : (b : Bool) → flag_in (pos (if b then 1 else 0)) ≡ b
bit_back true = refl
bit_back false = refl
