-- Where the first text of each name stands, with one text more.
use Rattle.std.proofs.Common.{◌≡◌, ◌∙◌, ◌++◌, ◌∷◌, [], ℕ, suc, List, Bool, true, false, cond, not, ◌&&◌, nat_lt, Option, None, Some, option_map, is_some, length, slice_get, refl, sym, ap, nat_cmp}
use Rattle.std.specs.BTreeMap.{UpdatesBy}
use Rattle.std.specs.Cmp.Lexicographic.{slice_cmp}
use Rattle.std.specs.List.{cons_option, list_any}
use Rattle.std.specs.Option.{option_or}
use Rattle.std.specs.Str.{bytes_eq}
use Rattle.std.proofs.lemmas.Bool.{and_parts}
use Rattle.std.proofs.lemmas.Map.Text.{btree_map_updates_str}
use Rattle.std.proofs.lemmas.Slice.Eq.{bytes_eq-Decides}
use Rattle.geda_defs.proofs.OnceLaws.{option_or-none}
use Rattle.geda_geom.specs.declared.conductor.Point.{Point}
use Rattle.geda_model.specs.Data.{TextData}
use Rattle.geda_model.specs.Limits.{most_lines}
use Rattle.geda_model.specs.Ranges.{line_feeds}
use Rattle.attr_rules.specs.Attributes.{value_if, value_named, values_named}
use Rattle.attr_rules.specs.Splits.{split_of}
use Rattle.edit_attr.specs.Attributes.{attr_line, is_attr_named, new_label, attr_place, set_text, with_content}
use Rattle.attr_table.specs.Cells.{Cell, can_be_set, is_cr}
use Rattle.attr_table.specs.steps.Places.{ArePlaces, Firsts, firsts_at, value_in}
use Rattle.attr_table.proofs.AgainCells.{split_line}

-- a name and a value
abbrev pub Split : Type 0
Split = List ℕ × List ℕ

-- the place of a text that comes last
pub place_more : (before : List TextData) (t : TextData) (q : List ℕ)
    → attr_place q (before ++ t ∷ []) ≡ option_or (attr_place q before) (cond (is_attr_named q t) (Some (length before)) None)
place_more [] t q = refl
place_more (x ∷ before) t q = ap (λ (o : Option ℕ). cond (is_attr_named q x) (Some 0) (option_map suc o)) (place_more before t q) ∙ by (is_attr_named q x) (attr_place q before) (is_attr_named q t)
  where
    by : (b : Bool) (o : Option ℕ) (c : Bool) → cond b (Some 0) (option_map suc (option_or o (cond c (Some (length before)) None)))
        ≡ option_or (cond b (Some 0) (option_map suc o)) (cond c (Some (suc (length before))) None)
    by true o c = refl
    by false None true = refl
    by false None false = refl
    by false (Some i) c = refl

-- whether a text that is cut is an attribute of a name
pub named_cut : (q : List ℕ) (t : TextData) (s : Split) → split_of t.content ≡ Some s → is_attr_named q t ≡ bytes_eq s.0 q
named_cut q t s e = ap (λ (o : Option Split). is_some (value_if q o)) e ∙ by (bytes_eq s.0 q)
  where
    by : (b : Bool) → is_some (cond b (Some s.1) None) ≡ b
    by true = refl
    by false = refl

named_none : (q : List ℕ) (t : TextData) → split_of t.content ≡ None → is_attr_named q t ≡ false
named_none q t e = ap (λ (o : Option Split). is_some (value_if q o)) e

-- a text of no name
pub plain_places : (before : List TextData) (t : TextData) (firsts : Firsts) → ArePlaces before firsts → split_of t.content ≡ None
    → ArePlaces (before ++ t ∷ []) firsts
plain_places before t firsts are e q =
    are q
    ∙ sym (option_or-none (attr_place q before))
    ∙ ap (λ (b : Bool). option_or (attr_place q before) (cond b (Some (length before)) None)) (sym (named_none q t e))
    ∙ sym (place_more before t q)

-- a text whose name is there already
pub still_places : (before : List TextData) (t : TextData) (s : Split) (firsts : Firsts) → ArePlaces before firsts → split_of t.content ≡ Some s
    → is_some (firsts_at firsts s.0) ≡ true → ArePlaces (before ++ t ∷ []) firsts
still_places before t s firsts are e there q =
    are q
    ∙ sym (same q (bytes_eq s.0 q) refl (ap is_some (sym (are s.0)) ∙ there))
    ∙ ap (λ (b : Bool). option_or (attr_place q before) (cond b (Some (length before)) None)) (sym (named_cut q t s e))
    ∙ sym (place_more before t q)
  where
    kept : (f g : Option ℕ) → is_some f ≡ true → option_or f g ≡ f
    kept None g e = absurd (let clash : false ≡ true = e in cc)
    kept (Some x) g e = refl

    same : (q : List ℕ) (b : Bool) → bytes_eq s.0 q ≡ b → is_some (attr_place s.0 before) ≡ true
        → option_or (attr_place q before) (cond b (Some (length before)) None) ≡ attr_place q before
    same q true e known = kept (attr_place q before) (Some (length before)) (rw ((bytes_eq-Decides s.0 q).0 e) at known)
    same q false e known = option_or-none (attr_place q before)

-- the place of a name changes
abbrev pub Puts : Firsts → Firsts → List ℕ → ℕ → Type 0
Puts old new name place = UpdatesBy (λ x y. slice_cmp nat_cmp x.now y.now) (λ k. slice_cmp nat_cmp name k.now) old new (Some place)

-- a text whose name is new
pub more_places : (before : List TextData) (t : TextData) (name : List ℕ) (old new : Firsts) → ArePlaces before old
    → ((q : List ℕ) → is_attr_named q t ≡ bytes_eq name q) → is_some (firsts_at old name) ≡ false → Puts old new name (length before)
    → ArePlaces (before ++ t ∷ []) new
more_places before t name old new are named none put q =
    btree_map_updates_str name old new (Some (length before)) put q
    ∙ ap (cond (bytes_eq name q) (Some (length before))) (are q)
    ∙ placed q (bytes_eq name q) refl (ap is_some (sym (are name)) ∙ none)
    ∙ ap (λ (b : Bool). option_or (attr_place q before) (cond b (Some (length before)) None)) (sym (named q))
    ∙ sym (place_more before t q)
  where
    first : (f : Option ℕ) (n : ℕ) → is_some f ≡ false → Some n ≡ option_or f (Some n)
    first None n e = refl
    first (Some x) n e = absurd (let clash : true ≡ false = e in cc)

    placed : (q : List ℕ) (b : Bool) → bytes_eq name q ≡ b → is_some (attr_place name before) ≡ false
        → cond b (Some (length before)) (attr_place q before) ≡ option_or (attr_place q before) (cond b (Some (length before)) None)
    placed q true e unknown = first (attr_place q before) (length before) (rw ((bytes_eq-Decides name q).0 e) at unknown)
    placed q false e unknown = sym (option_or-none (attr_place q before))

-- the value of a text that has one of this name is what it was cut into
cut_value : (q : List ℕ) (s : Option Split) (v : List ℕ) → value_if q s ≡ Some v → option_map (λ (a : Split). a.1) s ≡ Some v
cut_value q None v e = absurd (let clash : None ≡ Some v = e in cc)
cut_value q (Some s) v e = by (bytes_eq s.0 q) e
  where
    by : (b : Bool) → cond b (Some s.1) None ≡ Some v → Some s.1 ≡ Some v
    by true h = h
    by false h = absurd (let clash : None ≡ Some v = h in cc)

-- the first value of a name is that of the text at its place
pub value_there : (q : List ℕ) (texts : List TextData) (i : ℕ) → attr_place q texts ≡ Some i → value_in (slice_get texts i) ≡ slice_get (values_named q texts) 0
value_there q [] i e = absurd (let clash : None ≡ Some i = e in cc)
value_there q (t ∷ ts) i e = by (value_named q t) refl (λ k. value_there q ts k) e
  where
    more : (o : Option ℕ) (i : ℕ) → option_map suc o ≡ Some i → (k : ℕ) × (o ≡ Some k) × (i ≡ suc k)
    more None i h = absurd (let clash : None ≡ Some i = h in cc)
    more (Some k) i h = (k, refl, let clash : Some (suc k) ≡ Some i = h in cc)

    by : (m : Option (List ℕ)) → value_named q t ≡ m
        → ((k : ℕ) → attr_place q ts ≡ Some k → value_in (slice_get ts k) ≡ slice_get (values_named q ts) 0)
        → cond (is_some m) (Some 0) (option_map suc (attr_place q ts)) ≡ Some i
        → value_in (slice_get (t ∷ ts) i) ≡ slice_get (cons_option m (values_named q ts)) 0
    by None none rest h = let s = more (attr_place q ts) i h in rw s.2 (rest s.0 s.1)
    by (Some v) some rest h = let z : 0 ≡ i = (let k : Some 0 ≡ Some i = h in cc) in rw (← z) (cut_value q (split_of t.content) v some)

-- where it has no place, there is none
pub no_value : (q : List ℕ) (texts : List TextData) → attr_place q texts ≡ None → slice_get (values_named q texts) 0 ≡ None
no_value q [] e = refl
no_value q (t ∷ ts) e = by (value_named q t) (no_value q ts) e
  where
    none : (o : Option ℕ) → option_map suc o ≡ None → o ≡ None
    none None h = refl
    none (Some k) h = absurd (let clash : Some (suc k) ≡ None = h in cc)

    by : (m : Option (List ℕ)) → (attr_place q ts ≡ None → slice_get (values_named q ts) 0 ≡ None)
        → cond (is_some m) (Some 0) (option_map suc (attr_place q ts)) ≡ None → slice_get (cons_option m (values_named q ts)) 0 ≡ None
    by None rest h = rest (none (attr_place q ts) h)
    by (Some v) rest h = absurd (let clash : Some 0 ≡ None = h in cc)

-- a text that is an attribute of one name is one of no other
one_name : (name q : List ℕ) (t : TextData) (s : Option Split) → split_of t.content ≡ s → is_some (value_if name s) ≡ true → is_attr_named q t ≡ bytes_eq name q
one_name name q t None is e = absurd (let clash : false ≡ true = e in cc)
one_name name q t (Some s) is e = named_cut q t s is ∙ ap (λ (n : List ℕ). bytes_eq n q) ((bytes_eq-Decides s.0 name).0 (by (bytes_eq s.0 name) e))
  where
    by : (b : Bool) → is_some (cond b (Some s.1) None) ≡ true → b ≡ true
    by true h = refl
    by false h = absurd (let clash : false ≡ true = h in cc)

-- no place changes where the first text of a name is set
pub same_places : (name value : List ℕ) (p : Point) (texts : List TextData) (i : ℕ) (q : List ℕ) → split_of (attr_line name value) ≡ Some (name, value)
    → attr_place name texts ≡ Some i → attr_place q (set_text name (attr_line name value) p texts) ≡ attr_place q texts
same_places name value p [] i q line e = absurd (let clash : None ≡ Some i = e in cc)
same_places name value p (t ∷ ts) i q line e = by (is_attr_named name t) refl (λ k. same_places name value p ts k q line) e
  where
    more : (o : Option ℕ) → option_map suc o ≡ Some i → (k : ℕ) × (o ≡ Some k)
    more None h = absurd (let clash : None ≡ Some i = h in cc)
    more (Some k) h = (k, refl)

    by : (b : Bool) → is_attr_named name t ≡ b
        → ((k : ℕ) → attr_place name ts ≡ Some k → attr_place q (set_text name (attr_line name value) p ts) ≡ attr_place q ts)
        → cond b (Some 0) (option_map suc (attr_place name ts)) ≡ Some i
        → attr_place q (cond b (with_content (attr_line name value) t ∷ ts) (t ∷ set_text name (attr_line name value) p ts)) ≡ attr_place q (t ∷ ts)
    by true is rest h =
        ap (λ (b : Bool). cond b (Some 0) (option_map suc (attr_place q ts)))
        (named_cut q (with_content (attr_line name value) t) (name, value) line ∙ sym (one_name name q t (split_of t.content) refl is))
    by false is rest h =
        let k = more (attr_place name ts) h in
        ap (λ (o : Option ℕ). cond (is_attr_named q t) (Some 0) (option_map suc o)) (rest k.0 k.1)

-- the label that comes last is of its name
pub label_named : (name value : List ℕ) (p : Point) (q : List ℕ) → split_of (attr_line name value) ≡ Some (name, value)
    → is_attr_named q (new_label (attr_line name value) p) ≡ bytes_eq name q
label_named name value p q line = named_cut q (new_label (attr_line name value) p) (name, value) line

-- the line of a cell that can be set is cut where it was joined
pub good_line : (cell : Cell) → can_be_set cell ≡ true → split_of (attr_line cell.0 cell.1) ≡ Some (cell.0, cell.1)
good_line cell good =
    let line = attr_line cell.0 cell.1 in
    split_line cell.0 cell.1 (and_parts (is_some (value_if cell.0 (split_of line))) (not (list_any is_cr line) && nat_lt (line_feeds line) most_lines) good).0
