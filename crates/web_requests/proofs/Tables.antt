-- What matchit's table of the routes finds is the route of a path.
use Rattle.std.proofs.Common.{◌≡◌, ℕ, Bool, true, false, ◌||◌, not, ◌==◌, cond, List, [], ◌∷◌, ◌++◌, length, take, drop, Option, Some, None, codes, refl, sym, ap, ◌∙◌, subst}
use Rattle.std.proofs.lemmas.Bool.{eqb-true, eq-eqb}
use Rattle.std.proofs.lemmas.List.{take_at, take-append-drop}
use Rattle.std.proofs.Math.Seq.{drop-append_seam}
use Rattle.std.proofs.lemmas.Slice.Eq.{bytes_eq-Decides}
use Rattle.std.specs.Bool.{if◌then◌else◌, one_answer}
use Rattle.std.specs.List.{list_any}
use Rattle.std.specs.Str.{bytes_eq}
use Rattle.matchit.specs.Rows.{RowsOf}
use Rattle.matchit.specs.Router.{RouteOf}
use Rattle.matchit.specs.Seek.{first, has_slash}
use Rattle.net_list.specs.declared.form.Form.TheVariants as forms
use Rattle.web_requests.specs.declared.route.Route.{Route}
use Rattle.web_requests.specs.declared.route.Route.TheVariants.{Edits, Net, Drc, Sheets, Sheet, Symbol, Objects}
use Rattle.web_requests.specs.Paths.{is_path_separator, behind, is_segment, first_route, fixed, named_route, route_at}
use Rattle.web_requests.specs.Rows.{path_row, name_row, route_rows}
use Rattle.web_requests.proofs.Walks.{is_nil, takes, found, walk}

-- bytes alone
abbrev pub literal : List ℕ → Bool
literal [] = true
literal (x ∷ p) = cond (x == 256) false (literal p)

literal_head : (x : ℕ) (p : List ℕ) → literal (x ∷ p) ≡ true → ((x == 256) ≡ false) × (literal p ≡ true)
literal_head x p h = go (x == 256) refl
  where
    go : (f : Bool) → (x == 256) ≡ f → ((x == 256) ≡ false) × (literal p ≡ true)
    go false e = (e, subst (λ f. cond f false (literal p) ≡ true) e h)
    go true e = let t : false ≡ true = subst (λ f. cond f false (literal p) ≡ true) e h in absurd (let u = t in cc)

-- one byte of a pattern that is no parameter
byte_step : (x b : ℕ) (p path : List ℕ) → (x == 256) ≡ false → takes (x ∷ p) (b ∷ path) ≡ cond (x == b) (takes p path) false
byte_step x b p path e = ap (λ f. cond f (cond (x == b) (takes p path) false || not (has_slash (b ∷ path))) (cond (x == b) (takes p path) false)) e

byte_takes : (x b : ℕ) (p path : List ℕ) → cond (x == b) (takes p path) false ≡ true → (x ≡ b) × (takes p path ≡ true)
byte_takes x b p path h = go (x == b) refl
  where
    go : (e : Bool) → (x == b) ≡ e → (x ≡ b) × (takes p path ≡ true)
    go true i = (eqb-true x b i, subst (λ e. cond e (takes p path) false ≡ true) i h)
    go false i = let t : false ≡ true = subst (λ e. cond e (takes p path) false ≡ true) i h in absurd (let u = t in cc)

byte_taken : (x : ℕ) (p path : List ℕ) → takes p path ≡ true → cond (x == x) (takes p path) false ≡ true
byte_taken x p path h = ap (λ e. cond e (takes p path) false) (eq-eqb x x refl) ∙ h

text_takes : (text path : List ℕ) → literal text ≡ true → takes text path ≡ true → path ≡ text
text_takes [] [] l h = refl
text_takes [] (b ∷ path) l h = absurd (let u = h in cc)
text_takes (x ∷ text) [] l h = absurd (let u = h in cc)
text_takes (x ∷ text) (b ∷ path) l h =
    let k = literal_head x text l in
    let s = byte_takes x b text path (sym (byte_step x b text path k.0) ∙ h) in
    ap (λ c. c ∷ path) (sym s.0) ∙ ap (λ t. x ∷ t) (text_takes text path k.1 s.1)

text_taken : (text : List ℕ) → literal text ≡ true → takes text text ≡ true
text_taken [] l = refl
text_taken (x ∷ text) l =
    let k = literal_head x text l in
    byte_step x x text text k.0 ∙ byte_taken x text text (text_taken text k.1)

pub text_test : (text path : List ℕ) → literal text ≡ true → takes text path ≡ bytes_eq path text
text_test text path l = one_answer (takes text path) (bytes_eq path text)
    (text_takes text path l, λ e. ap (takes text) e ∙ text_taken text l)
    (bytes_eq-Decides path text)

slash_same : (xs : List ℕ) → has_slash xs ≡ list_any is_path_separator xs
slash_same [] = refl
slash_same (b ∷ xs) = go (b == 47) (slash_same xs)
  where
    go : (e : Bool) → has_slash xs ≡ list_any is_path_separator xs → cond e true (has_slash xs) ≡ (e || list_any is_path_separator xs)
    go true tail = refl
    go false tail = tail

-- what a parameter takes
param_test : (path : List ℕ) → takes (256 ∷ []) path ≡ is_segment path
param_test [] = refl
param_test (b ∷ path) = both (256 == b) refl ∙ ap not (slash_same (b ∷ path))
  where
    both : (e : Bool) → (256 == b) ≡ e → (cond e (is_nil path) false || not (has_slash (b ∷ path))) ≡ not (has_slash (b ∷ path))
    both false i = refl
    both true i = here path
      where
        slashed : (path : List ℕ) → has_slash (b ∷ path) ≡ has_slash path
        slashed path = ap (λ (f : Bool). cond f true (has_slash path)) (ap (λ c. c == 47) (sym (eqb-true 256 b i)))

        here : (path : List ℕ) → (is_nil path || not (has_slash (b ∷ path))) ≡ not (has_slash (b ∷ path))
        here [] = sym (ap not (slashed []))
        here (c ∷ path) = refl

name_takes : (prefix path : List ℕ) → literal prefix ≡ true → takes (prefix ++ 256 ∷ []) path ≡ true → (rest : List ℕ) × (path ≡ prefix ++ rest) × (is_segment rest ≡ true)
name_takes [] path l h = (path, refl, sym (param_test path) ∙ h)
name_takes (x ∷ prefix) [] l h = absurd (let u = h in cc)
name_takes (x ∷ prefix) (b ∷ path) l h =
    let k = literal_head x prefix l in
    let s = byte_takes x b (prefix ++ 256 ∷ []) path (sym (byte_step x b (prefix ++ 256 ∷ []) path k.0) ∙ h) in
    let r = name_takes prefix path k.1 s.1 in
    (r.0, ap (λ c. c ∷ path) (sym s.0) ∙ ap (λ t. x ∷ t) r.1, r.2)

name_taken : (prefix rest : List ℕ) → literal prefix ≡ true → is_segment rest ≡ true → takes (prefix ++ 256 ∷ []) (prefix ++ rest) ≡ true
name_taken [] rest l h = param_test rest ∙ h
name_taken (x ∷ prefix) rest l h =
    let k = literal_head x prefix l in
    byte_step x x (prefix ++ 256 ∷ []) (prefix ++ rest) k.0 ∙ byte_taken x (prefix ++ 256 ∷ []) (prefix ++ rest) (name_taken prefix rest k.1 h)

behind_takes : (prefix path : List ℕ) → is_segment (behind prefix path) ≡ true → (rest : List ℕ) × (path ≡ prefix ++ rest) × (is_segment rest ≡ true)
behind_takes prefix path h = go (bytes_eq (take (length prefix) path) prefix) refl
  where
    go : (e : Bool) → bytes_eq (take (length prefix) path) prefix ≡ e → (rest : List ℕ) × (path ≡ prefix ++ rest) × (is_segment rest ≡ true)
    go true i = (
      drop (length prefix) path,
      sym (take-append-drop (length prefix) path) ∙ ap (λ t. t ++ drop (length prefix) path) ((bytes_eq-Decides (take (length prefix) path) prefix).0 i),
      subst (λ e. is_segment (if e then drop (length prefix) path else []) ≡ true) i h,
    )
    go false i = let t : false ≡ true = subst (λ e. is_segment (if e then drop (length prefix) path else []) ≡ true) i h in absurd (let u = t in cc)

behind_taken : (prefix rest : List ℕ) → is_segment (behind prefix (prefix ++ rest)) ≡ is_segment rest
behind_taken prefix rest =
    let same : bytes_eq (take (length prefix) (prefix ++ rest)) prefix ≡ true = (bytes_eq-Decides (take (length prefix) (prefix ++ rest)) prefix).1 (take_at prefix rest (length prefix) refl) in
    ap (λ e. is_segment (if e then drop (length prefix) (prefix ++ rest) else [])) same ∙ ap is_segment (drop-append_seam prefix rest)

pub name_test : (prefix path : List ℕ) → literal prefix ≡ true → takes (prefix ++ 256 ∷ []) path ≡ is_segment (behind prefix path)
name_test prefix path l = one_answer (takes (prefix ++ 256 ∷ []) path) (is_segment (behind prefix path))
    (name_takes prefix path l, λ r. ap (takes (prefix ++ 256 ∷ [])) r.1 ∙ name_taken prefix r.0 l r.2)
    (behind_takes prefix path, λ r. ap (λ t. is_segment (behind prefix t)) r.1 ∙ behind_taken prefix r.0 ∙ r.2)

abbrev pub value_of : Option (RouteOf Route) → Option Route
value_of None = None
value_of (Some row) = Some row.value

module _ (path : List ℕ) (rest : RowsOf (RouteOf Route)) (other : Option Route) (h : value_of (found rest path) ≡ other) where
  pub text_first : (text : List ℕ) (route : Route) → literal text ≡ true → value_of (found (path_row text route ∷ rest) path) ≡ first_route (fixed text route path) other
  text_first text route l = ap (λ t. value_of (cond t (Some (path_row text route).1) (found rest path))) (text_test text path l) ∙ go (bytes_eq path text)
    where
      go : (t : Bool) → value_of (cond t (Some (path_row text route).1) (found rest path)) ≡ first_route (if t then Some route else None) other
      go true = refl
      go false = h

  pub name_first : (prefix : List ℕ) (route : Route) → literal prefix ≡ true → value_of (found (name_row prefix route ∷ rest) path) ≡ first_route (named_route prefix route path) other
  name_first prefix route l = ap (λ t. value_of (cond t (Some (name_row prefix route).1) (found rest path))) (name_test prefix path l) ∙ go (is_segment (behind prefix path))
    where
      go : (t : Bool) → value_of (cond t (Some (name_row prefix route).1) (found rest path)) ≡ first_route (if t then Some route else None) other
      go true = refl
      go false = h

-- the rows from the last on
abbrev rows_10 : RowsOf (RouteOf Route)
rows_10 = name_row (codes "/symbols/") Symbol ∷ []

abbrev rows_9 : RowsOf (RouteOf Route)
rows_9 = path_row (codes "/sheets") Sheets ∷ rows_10

abbrev rows_8 : RowsOf (RouteOf Route)
rows_8 = name_row (codes "/sheets/") Sheet ∷ rows_9

abbrev rows_7 : RowsOf (RouteOf Route)
rows_7 = name_row (codes "/objects/") Objects ∷ rows_8

abbrev rows_6 : RowsOf (RouteOf Route)
rows_6 = path_row (codes "/netlist/tango") (Net forms.Tango) ∷ rows_7

abbrev rows_5 : RowsOf (RouteOf Route)
rows_5 = path_row (codes "/netlist/pcb") (Net forms.Pcb) ∷ rows_6

abbrev rows_4 : RowsOf (RouteOf Route)
rows_4 = path_row (codes "/netlist/list") (Net forms.List) ∷ rows_5

abbrev rows_3 : RowsOf (RouteOf Route)
rows_3 = path_row (codes "/netlist/bom") (Net forms.Bom) ∷ rows_4

abbrev rows_2 : RowsOf (RouteOf Route)
rows_2 = path_row (codes "/edits") Edits ∷ rows_3

abbrev rows_1 : RowsOf (RouteOf Route)
rows_1 = path_row (codes "/drc") Drc ∷ rows_2

pub table : (path : List ℕ) → value_of (first route_rows path) ≡ route_at path
table path =
    let t10 = name_first path [] None refl (codes "/symbols/") Symbol refl in
    let t9 = text_first path rows_10 _ t10 (codes "/sheets") Sheets refl in
    let t8 = name_first path rows_9 _ t9 (codes "/sheets/") Sheet refl in
    let t7 = name_first path rows_8 _ t8 (codes "/objects/") Objects refl in
    let t6 = text_first path rows_7 _ t7 (codes "/netlist/tango") (Net forms.Tango) refl in
    let t5 = text_first path rows_6 _ t6 (codes "/netlist/pcb") (Net forms.Pcb) refl in
    let t4 = text_first path rows_5 _ t5 (codes "/netlist/list") (Net forms.List) refl in
    let t3 = text_first path rows_4 _ t4 (codes "/netlist/bom") (Net forms.Bom) refl in
    let t2 = text_first path rows_3 _ t3 (codes "/edits") Edits refl in
    let t1 = text_first path rows_2 _ t2 (codes "/drc") Drc refl in
    ap value_of (walk route_rows path refl) ∙ t1
