-- What joins in a project, and its listed parts (own).
use Rattle.std.specs.Prelude.{ℕ, Bool, List, Option}
use Rattle.geda_geom.specs.declared.conductor.Conductor.{Conductor}
use Rattle.geda_geom.specs.declared.conductor.Key.{Key}
use Rattle.net_list.specs.declared.member.Member.{Member}
use Rattle.net_list.specs.declared.package.Package.{Package}
use Rattle.flat_rows.specs.declared.conductors.PortPins.{PortPins}

-- a segment, the active end of a pin, or a hidden pin, as it stands in an instance of its sheet:
-- the place of the instance among all; the object's id and the pin's place (0 for a hidden pin);
-- what is drawn, none for a hidden pin; the names of a pin by values of `net`, and those of a
-- segment by `netname`; the member that a pin of a listed part is; for a pin with a label of a
-- component that leads down, the pins of that label; for a pin of a port, the pins above for which
-- the port stands; whether it is a pin of a no-connection directive
pub record FlatConductor : Type 0 where
  pub instance : ℕ
  pub key : Key
  pub shape : Option Conductor
  pub global_names : List (List ℕ)
  pub drawn_names : List (List ℕ)
  pub member : Option Member
  pub leads_down : Option PortPins
  pub leads_up : Option PortPins
  pub directive : Bool

-- the listed parts of a project, and all that joins in it
pub record FlatData : Type 0 where
  pub parts : List Package
  pub conductors : List FlatConductor

-- the same while objects are taken in: what is drawn, and the hidden pins
pub record GrowingData : Type 0 where
  pub parts : List Package
  pub drawn : List FlatConductor
  pub hidden : List FlatConductor
