-- Steps of the code; no public clause cites them.
-- Rows of conductors, with what few of them have in lists of their own (own).
use Rattle.std.specs.Prelude.{◌≡◌, ℕ, ◌+◌, ◌==◌, All, cond, List, [], ◌∷◌, Option, Some, None, length, map}
use Rattle.std.specs.Option.{option_to_list}
use Rattle.net_list.specs.declared.package.Package.{Package}
use Rattle.flat_rows.specs.Conductors.{FlatConductor}
use Rattle.flat_rows.specs.Keyed.{Keyed, keyed_from}
use Rattle.flat_rows.specs.Rows.{IsPartOf, conductor_of}
use Rattle.flat_rows.specs.declared.lists.Lists.{Lists}
use Rattle.flat_rows.specs.declared.rows.FlatRow.{FlatRow}
use Rattle.flat_rows.specs.declared.rows.NewConductor.{NewConductor}

-- the keys of a place
abbrev pub keys_at : {K : Type 0} → ℕ → List (Keyed K) → List K
keys_at place [] = []
keys_at place (k ∷ ks) = cond (k.1 == place) (k.0 ∷ keys_at place ks) (keys_at place ks)

-- the first of a list
abbrev pub first_of : {A : Type 0} → List A → Option A
first_of [] = None
first_of (x ∷ xs) = Some x

-- the conductor of a row at a place
abbrev pub conductor_at : Lists → ℕ → FlatRow → NewConductor
conductor_at ls place row = record {
  instance = row.instance;
  key = row.key;
  shape = row.shape;
  global_names = keys_at place ls.global_names.items;
  drawn_names = keys_at place ls.drawn_names.items;
  member = first_of (keys_at place ls.members.items);
  leads_down = first_of (keys_at place ls.downs.items);
  leads_up = first_of (keys_at place ls.ups.items);
  directive = row.directive;
}

-- the conductors of rows, of which the first has this place
abbrev pub conductors_from : Lists → ℕ → List FlatRow → List NewConductor
conductors_from ls place [] = []
conductors_from ls place (row ∷ rows) =
    conductor_at ls place row ∷ conductors_from ls (place + 1) rows

-- the conductors of lists
abbrev pub conductors_in : Lists → List NewConductor
conductors_in ls = conductors_from ls 0 ls.rows.items

-- what a row keeps of a conductor
abbrev pub bare_row : NewConductor → FlatRow
bare_row c = record {
  instance = c.instance;
  key = c.key;
  shape = c.shape;
  directive = c.directive;
}

-- lists have just what these conductors have, in order
pub record AreListsOf (ls : Lists) (cs : List NewConductor) : Type 0 where
  pub rows : ls.rows.items ≡ map bare_row cs
  pub global_names : ls.global_names.items ≡ keyed_from (λ c. c.global_names) 0 cs
  pub drawn_names : ls.drawn_names.items ≡ keyed_from (λ c. c.drawn_names) 0 cs
  pub members : ls.members.items ≡ keyed_from (λ c. option_to_list c.member) 0 cs
  pub downs : ls.downs.items ≡ keyed_from (λ c. option_to_list c.leads_down) 0 cs
  pub ups : ls.ups.items ≡ keyed_from (λ c. option_to_list c.leads_up) 0 cs

-- keys of which the places count from another one
abbrev pub keys_behind : {K : Type 0} → ℕ → List (Keyed K) → List (Keyed K)
keys_behind first keys = map (λ k. (k.0, first + k.1)) keys

-- a member is a pin of a part that is there
abbrev pub HasPart : ℕ → NewConductor → Type 0
HasPart count c = IsPartOf count c.member

-- all members are
abbrev pub HaveParts : ℕ → List NewConductor → Type 0
HaveParts count cs = All (HasPart count) cs

-- lists of conductors of the parts that are there
pub record AreRows (parts : List Package) (ls : Lists) : Type 0 where
  pub lists : AreListsOf ls (conductors_in ls)
  pub known : HaveParts (length parts) (conductors_in ls)

-- the conductors that lists and parts stand for
abbrev pub flat_in : List Package → Lists → List FlatConductor
flat_in parts ls = map (conductor_of parts) (conductors_in ls)
