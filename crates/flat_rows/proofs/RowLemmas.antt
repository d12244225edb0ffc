-- Rows and lists of few, as the conductors that they stand for.
use Rattle.std.proofs.Common.{◌≡◌, ℕ, zero, suc, ◌+◌, ◌<◌, List, [], ◌∷◌, ◌++◌, Option, Some, None, All, length, map, refl, sym, ap, ap₂, subst, ◌∙◌, arith}
use Rattle.std.specs.Option.{option_map, option_to_list}
use Rattle.std.proofs.lemmas.List.{length_push, map-append, map_push}
use Rattle.std.proofs.lemmas.List.Elements.{All-cons, All-head, All-nil, All-push, All-tail, All-weaker}
use Rattle.net_list.specs.declared.member.Member.{Member}
use Rattle.net_list.specs.declared.package.Package.{Package}
use Rattle.flat_rows.specs.Conductors.{FlatConductor}
use Rattle.flat_rows.specs.Keyed.{Keyed, keyed_at, keyed_from}
use Rattle.flat_rows.specs.Rows.{IsPartOf, conductor_of, member_of, refdes_at, row_of}
use Rattle.flat_rows.specs.declared.lists.Lists.{Lists}
use Rattle.flat_rows.specs.declared.rows.FlatRow.{FlatRow}
use Rattle.flat_rows.specs.declared.rows.NewConductor.{NewConductor}
use Rattle.flat_rows.specs.declared.rows.RowMember.{RowMember}
use Rattle.flat_rows.specs.steps.Lists.{AreListsOf, AreRows, HasPart, HaveParts, bare_row, conductor_at, conductors_from, conductors_in, first_of, flat_in}
use Rattle.flat_rows.proofs.KeyedLemmas.{Tells, keyed_map, tells_all, tells_first, tells_rest}

-- how many rows there are
pub rows_length : (cs : List NewConductor) → length (map bare_row cs) ≡ length cs
rows_length [] = refl
rows_length (c ∷ cs) = ap suc (rows_length cs)

pub first_option : {A : Type 0} (o : Option A) → first_of (option_to_list o) ≡ o
first_option None = refl
first_option (Some a) = refl

-- lists tell of each place from this one on what these conductors have
record ListsTell (ls : Lists) (place : ℕ) (cs : List NewConductor) : Type 0 where
  global_names : Tells (λ (c : NewConductor). c.global_names) ls.global_names.items place cs
  drawn_names : Tells (λ (c : NewConductor). c.drawn_names) ls.drawn_names.items place cs
  members : Tells (λ (c : NewConductor). option_to_list c.member) ls.members.items place cs
  downs : Tells (λ (c : NewConductor). option_to_list c.leads_down) ls.downs.items place cs
  ups : Tells (λ (c : NewConductor). option_to_list c.leads_up) ls.ups.items place cs

conductor_is : (ls : Lists) (place : ℕ) (c : NewConductor) (cs : List NewConductor) → ListsTell ls place (c ∷ cs) → conductor_at ls place (bare_row c) ≡ c
conductor_is ls place c cs tell =
    let global_names = tells_first (λ (c : NewConductor). c.global_names) ls.global_names.items place c cs tell.global_names in
    let drawn_names = tells_first (λ (c : NewConductor). c.drawn_names) ls.drawn_names.items place c cs tell.drawn_names in
    let member = ap (λ ms. first_of ms) (tells_first (λ (c : NewConductor). option_to_list c.member) ls.members.items place c cs tell.members) ∙ first_option c.member in
    let leads_down = ap (λ ps. first_of ps) (tells_first (λ (c : NewConductor). option_to_list c.leads_down) ls.downs.items place c cs tell.downs) ∙ first_option c.leads_down in
    let leads_up = ap (λ ps. first_of ps) (tells_first (λ (c : NewConductor). option_to_list c.leads_up) ls.ups.items place c cs tell.ups) ∙ first_option c.leads_up in
    λ i. record {
      instance = c.instance;
      key = c.key;
      shape = c.shape;
      global_names = global_names i;
      drawn_names = drawn_names i;
      member = member i;
      leads_down = leads_down i;
      leads_up = leads_up i;
      directive = c.directive;
    }

conductors_are : (ls : Lists) (place : ℕ) (cs : List NewConductor) → ListsTell ls place cs → conductors_from ls place (map bare_row cs) ≡ cs
conductors_are ls place [] tell = refl
conductors_are ls place (c ∷ cs) tell =
    ap₂ (λ (d : NewConductor) (ds : List NewConductor). d ∷ ds) (conductor_is ls place c cs tell) (conductors_are ls (place + 1) cs (record {
      global_names = tells_rest (λ (c : NewConductor). c.global_names) ls.global_names.items place c cs tell.global_names;
      drawn_names = tells_rest (λ (c : NewConductor). c.drawn_names) ls.drawn_names.items place c cs tell.drawn_names;
      members = tells_rest (λ (c : NewConductor). option_to_list c.member) ls.members.items place c cs tell.members;
      downs = tells_rest (λ (c : NewConductor). option_to_list c.leads_down) ls.downs.items place c cs tell.downs;
      ups = tells_rest (λ (c : NewConductor). option_to_list c.leads_up) ls.ups.items place c cs tell.ups;
    }))

-- the conductors of lists are those of which they have all
pub lists_are : (ls : Lists) (cs : List NewConductor) → AreListsOf ls cs → conductors_in ls ≡ cs
lists_are ls cs are =
    ap (conductors_from ls 0) are.rows ∙ conductors_are ls 0 cs (record {
      global_names = tells_all (λ (c : NewConductor). c.global_names) ls.global_names.items cs are.global_names;
      drawn_names = tells_all (λ (c : NewConductor). c.drawn_names) ls.drawn_names.items cs are.drawn_names;
      members = tells_all (λ (c : NewConductor). option_to_list c.member) ls.members.items cs are.members;
      downs = tells_all (λ (c : NewConductor). option_to_list c.leads_down) ls.downs.items cs are.downs;
      ups = tells_all (λ (c : NewConductor). option_to_list c.leads_up) ls.ups.items cs are.ups;
    })

-- lists of conductors of parts that are there
pub rows_are : (parts : List Package) (ls : Lists) (cs : List NewConductor) → AreListsOf ls cs → HaveParts (length parts) cs → AreRows parts ls
rows_are parts ls cs are known =
    let is = sym (lists_are ls cs are) in
    record { lists = subst (AreListsOf ls) is are; known = subst (HaveParts (length parts)) is known }

pub no_rows : (parts : List Package) (ls : Lists) → AreListsOf ls [] → AreRows parts ls
no_rows parts ls are = rows_are parts ls [] are (All-nil (HasPart (length parts)))

-- what they stand for
pub flat_is : (parts : List Package) (ls : Lists) (cs : List NewConductor) → AreListsOf ls cs → flat_in parts ls ≡ map (conductor_of parts) cs
flat_is parts ls cs are = ap (map (conductor_of parts)) (lists_are ls cs are)

module _ (parts : List Package) (ls new : Lists) (c : NewConductor) (rows : AreRows parts ls) (more : AreListsOf new (conductors_in ls ++ c ∷ [])) where
  -- with one more conductor
  pub rows_push : IsPartOf (length parts) c.member → AreRows parts new
  rows_push part = rows_are parts new (conductors_in ls ++ c ∷ []) more (All-push (HasPart (length parts)) (conductors_in ls) c rows.known part)

  pub flat_push : flat_in parts new ≡ flat_in parts ls ++ conductor_of parts c ∷ []
  flat_push = flat_is parts new (conductors_in ls ++ c ∷ []) more ∙ map_push (conductor_of parts) (conductors_in ls) c

-- a part keeps its refdes when one more comes
refdes_kept : (parts : List Package) (part : Package) (place : ℕ) → place < length parts → refdes_at (parts ++ part ∷ []) place ≡ refdes_at parts place
refdes_kept [] part place lt = absurd (omega (arith, lt))
refdes_kept (p ∷ parts) part zero lt = refl
refdes_kept (p ∷ parts) part (suc place) lt = refdes_kept parts part place (omega (arith, lt))

member_kept : (parts : List Package) (part : Package) (m : Option RowMember) → IsPartOf (length parts) m → option_map (member_of (parts ++ part ∷ [])) m ≡ option_map (member_of parts) m
member_kept parts part None is = refl
member_kept parts part (Some m) is = ap (λ (refdes : List ℕ). Some (record { refdes = refdes; pin = m.pin; kind = m.kind })) (refdes_kept parts part m.part is)

conductor_kept : (parts : List Package) (part : Package) (c : NewConductor) → HasPart (length parts) c → conductor_of (parts ++ part ∷ []) c ≡ conductor_of parts c
conductor_kept parts part c has =
    let member = member_kept parts part c.member has in
    λ i. record {
      instance = c.instance;
      key = c.key;
      shape = c.shape;
      global_names = c.global_names;
      drawn_names = c.drawn_names;
      member = member i;
      leads_down = c.leads_down;
      leads_up = c.leads_up;
      directive = c.directive;
    }

-- so conductors stay when one more part comes
pub conductors_kept : (parts : List Package) (part : Package) (cs : List NewConductor) → HaveParts (length parts) cs → map (conductor_of (parts ++ part ∷ [])) cs ≡ map (conductor_of parts) cs
conductors_kept parts part [] have = refl
conductors_kept parts part (c ∷ cs) have =
    ap₂ (λ (d : FlatConductor) (ds : List FlatConductor). d ∷ ds) (conductor_kept parts part c (All-head (HasPart (length parts)) c cs have))
    (conductors_kept parts part cs (All-tail (HasPart (length parts)) c cs have))

part_more : (count : ℕ) (m : Option RowMember) → IsPartOf count m → IsPartOf (count + 1) m
part_more count None is = is
part_more count (Some m) is = omega (arith, is)

pub parts_more : (parts : List Package) (part : Package) (cs : List NewConductor) → HaveParts (length parts) cs → HaveParts (length (parts ++ part ∷ [])) cs
parts_more parts part cs have =
    subst (λ (n : ℕ). HaveParts n cs) (sym (length_push parts part))
    (All-weaker (HasPart (length parts)) (HasPart (length parts + 1)) (λ c has. part_more (length parts) c.member has) cs have)

pub rows_more : (parts : List Package) (part : Package) (ls : Lists) → AreRows parts ls → AreRows (parts ++ part ∷ []) ls
rows_more parts part ls rows = record { lists = rows.lists; known = parts_more parts part (conductors_in ls) rows.known }

-- ---- what rows and lists say of the conductors

bare_rows : (parts : List Package) (cs : List NewConductor) → map bare_row cs ≡ map row_of (map (conductor_of parts) cs)
bare_rows parts [] = refl
bare_rows parts (c ∷ cs) = ap (λ (rows : List FlatRow). bare_row c ∷ rows) (bare_rows parts cs)

module _ (parts : List Package) (ls : Lists) (rows : AreRows parts ls) where
  pub rows_tell : ls.rows.items ≡ map row_of (flat_in parts ls)
  rows_tell = rows.lists.rows ∙ bare_rows parts (conductors_in ls)

  pub global_names_tell : ls.global_names.items ≡ keyed_from (λ c. c.global_names) 0 (flat_in parts ls)
  global_names_tell = rows.lists.global_names ∙ sym (keyed_map (conductor_of parts) (λ (c : FlatConductor). c.global_names) 0 (conductors_in ls))

  pub drawn_names_tell : ls.drawn_names.items ≡ keyed_from (λ c. c.drawn_names) 0 (flat_in parts ls)
  drawn_names_tell = rows.lists.drawn_names ∙ sym (keyed_map (conductor_of parts) (λ (c : FlatConductor). c.drawn_names) 0 (conductors_in ls))

  pub downs_tell : ls.downs.items ≡ keyed_from (λ c. option_to_list c.leads_down) 0 (flat_in parts ls)
  downs_tell = rows.lists.downs ∙ sym (keyed_map (conductor_of parts) (λ (c : FlatConductor). option_to_list c.leads_down) 0 (conductors_in ls))

  pub ups_tell : ls.ups.items ≡ keyed_from (λ c. option_to_list c.leads_up) 0 (flat_in parts ls)
  ups_tell = rows.lists.ups ∙ sym (keyed_map (conductor_of parts) (λ (c : FlatConductor). option_to_list c.leads_up) 0 (conductors_in ls))

module _ (parts : List Package) where
  members_at : (place : ℕ) (o : Option RowMember) → map {B = Keyed Member} (λ m. (member_of parts m.0, m.1)) (keyed_at place (option_to_list o)) ≡ keyed_at place (option_to_list (option_map (member_of parts) o))
  members_at place None = refl
  members_at place (Some m) = refl

  members_from : (place : ℕ) (cs : List NewConductor) → map {B = Keyed Member} (λ m. (member_of parts m.0, m.1)) (keyed_from (λ c. option_to_list c.member) place cs)
      ≡ keyed_from (λ c. option_to_list c.member) place (map (conductor_of parts) cs)
  members_from place [] = refl
  members_from place (c ∷ cs) =
      map-append {B = Keyed Member} (λ m. (member_of parts m.0, m.1)) (keyed_at place (option_to_list c.member)) (keyed_from (λ c. option_to_list c.member) (place + 1) cs)
      ∙ ap₂ (λ (xs ys : List (Keyed Member)). xs ++ ys) (members_at place c.member) (members_from (place + 1) cs)

  pub members_tell : (ls : Lists) → AreRows parts ls → map {B = Keyed Member} (λ m. (member_of parts m.0, m.1)) ls.members.items ≡ keyed_from (λ c. option_to_list c.member) 0 (flat_in parts ls)
  members_tell ls rows = ap (map {B = Keyed Member} (λ m. (member_of parts m.0, m.1))) rows.lists.members ∙ members_from 0 (conductors_in ls)

-- the part of a keyed member is among the first few
abbrev IsBelow : ℕ → Keyed RowMember → Type 0
IsBelow count m = m.0.part < count

below : (count place : ℕ) (o : Option RowMember) (rest : List (Keyed RowMember)) → IsPartOf count o → All (IsBelow count) rest → All (IsBelow count) (keyed_at place (option_to_list o) ++ rest)
below count place None rest is all = all
below count place (Some m) rest is all = All-cons (IsBelow count) (m, place) rest is all

all_below : (count place : ℕ) (cs : List NewConductor) → HaveParts count cs → All (IsBelow count) (keyed_from (λ c. option_to_list c.member) place cs)
all_below count place [] have = All-nil (IsBelow count)
all_below count place (c ∷ cs) have =
    below count place c.member (keyed_from (λ c. option_to_list c.member) (place + 1) cs) (All-head (HasPart count) c cs have)
    (all_below count (place + 1) cs (All-tail (HasPart count) c cs have))

-- members are pins of parts that are there
pub members_below : (parts : List Package) (ls : Lists) → AreRows parts ls → All (λ m. m.0.part < length parts) ls.members.items
members_below parts ls rows = subst (λ (ms : List (Keyed RowMember)). All (IsBelow (length parts)) ms) (sym rows.lists.members) (all_below (length parts) 0 (conductors_in ls) rows.known)
