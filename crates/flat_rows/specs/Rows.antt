-- Rows of conductors and of members, as the conductors and members that they stand for (own).
use Rattle.std.specs.Prelude.{ℕ, ◌<◌, List, [], Option, option_map, None, Some, map, slice_index_or}
use Rattle.net_list.specs.declared.member.Member.{Member}
use Rattle.net_list.specs.declared.package.Package.{Package}
use Rattle.flat_rows.specs.Conductors.{FlatConductor}
use Rattle.flat_rows.specs.declared.rows.FlatRow.{FlatRow}
use Rattle.flat_rows.specs.declared.rows.NewConductor.{NewConductor}
use Rattle.flat_rows.specs.declared.rows.RowMember.{RowMember}

-- what a row keeps of a conductor
abbrev pub row_of : FlatConductor → FlatRow
row_of c = record {
  instance = c.instance;
  key = c.key;
  shape = c.shape;
  directive = c.directive;
}

-- the printed refdes of the part at a place
abbrev pub refdes_at : List Package → ℕ → List ℕ
refdes_at parts place = slice_index_or (map (λ p. p.refdes) parts) place []

-- the member that a pin of the part at its place is
abbrev pub member_of : List Package → RowMember → Member
member_of parts m = record { refdes = refdes_at parts m.part; pin = m.pin; kind = m.kind }

-- a conductor, of which a member has the place of its part
abbrev pub conductor_of : List Package → NewConductor → FlatConductor
conductor_of parts c = record {
  instance = c.instance;
  key = c.key;
  shape = c.shape;
  global_names = c.global_names;
  drawn_names = c.drawn_names;
  member = option_map (member_of parts) c.member;
  leads_down = c.leads_down;
  leads_up = c.leads_up;
  directive = c.directive;
}

-- a conductor without names and ports, by its row and the member that it is
abbrev pub plain_conductor : FlatRow → Option RowMember → NewConductor
plain_conductor row member = record {
  instance = row.instance;
  key = row.key;
  shape = row.shape;
  global_names = [];
  drawn_names = [];
  member = member;
  leads_down = None;
  leads_up = None;
  directive = row.directive;
}

-- the same with these global names
abbrev pub named_conductor : FlatRow → Option RowMember → List (List ℕ) → NewConductor
named_conductor row member names = record {
  instance = row.instance;
  key = row.key;
  shape = row.shape;
  global_names = names;
  drawn_names = [];
  member = member;
  leads_down = None;
  leads_up = None;
  directive = row.directive;
}

-- the part of a member, if there is one, is among the first few
abbrev pub IsPartOf : ℕ → Option RowMember → Type 0
IsPartOf count None = Unit {0}
IsPartOf count (Some m) = m.part < count
