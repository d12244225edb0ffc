-- Which conductors of a project are linked (own).
use Rattle.std.specs.Prelude.{◌≡◌, ◌<◌, ◌⊎◌, ℕ, List, ◌++◌, Option, Some, length, slice_index_or, Contains}
use Rattle.geda_geom.specs.declared.conductor.Conductor.{Conductor}
use Rattle.geda_geom.specs.Touch.{Touch}
use Rattle.flat_rows.specs.Conductors.{FlatConductor}
use Rattle.flat_rows.specs.declared.conductors.PortPins.{PortPins}

-- all its names
abbrev pub names_of : FlatConductor → List (List ℕ)
names_of f = f.global_names ++ f.drawn_names

-- two drawn shapes touch
abbrev pub ShapesTouch : Option Conductor → Option Conductor → Type 0
ShapesTouch (Some a) (Some b) = Touch a b
ShapesTouch one other = ⊥

-- they stand in one instance of a sheet, and touch
pub record AreTouching (f g : FlatConductor) : Type 0 where
  pub together : f.instance ≡ g.instance
  pub touch : ShapesTouch f.shape g.shape

-- they have a name in common
abbrev pub ShareName : FlatConductor → FlatConductor → Type 0
ShareName f g = (name : List ℕ) × Contains (names_of f) name × Contains (names_of g) name

-- the first is a pin of a port, and the second one of the pins above for which it stands
pub record LeadsTo (f g : FlatConductor) : Type 0 where
  pub pins : PortPins
  pub below : f.leads_up ≡ Some pins
  pub above : g.leads_down ≡ Some pins

-- a port ties them, in either order
abbrev pub AreTied : FlatConductor → FlatConductor → Type 0
AreTied f g = LeadsTo f g ⊎ LeadsTo g f

-- so are the ones at two places of a list
pub record AtPlaces (R : FlatConductor → FlatConductor → Type 0) (conductors : List FlatConductor)
    (i j : ℕ) : Type 0 where
  pub first : i < length conductors
  pub second : j < length conductors
  pub related : (d : FlatConductor)
      → R (slice_index_or conductors i d) (slice_index_or conductors j d)

-- what stands at two places is linked: it touches, shares a name, or is tied by a port
abbrev pub Linked : List FlatConductor → ℕ → ℕ → Type 0
Linked conductors i j =
    AtPlaces AreTouching conductors i j
    ⊎ (AtPlaces ShareName conductors i j ⊎ AtPlaces AreTied conductors i j)
