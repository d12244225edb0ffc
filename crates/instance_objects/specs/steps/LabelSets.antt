-- Steps of the code; no public clause cites them.
-- The labels of components above instances, as sets by the id of the component.
use Rattle.std.specs.Prelude.{◌≡◌, ◌==◌, ◌||◌, ℕ, All, Bool, false, List, Option, None, Some, String}
use Rattle.std.specs.HashMap.{HashMap, get}
use Rattle.std.specs.HashSet.{HashSet, contains_text}
use Rattle.std.specs.List.{list_any}
use Rattle.std.specs.Str.{bytes_eq}
use Rattle.project_model.specs.Projects.{ProjectData}
use Rattle.hierarchy.specs.declared.instances.Instance.{Instance}
use Rattle.instance_objects.specs.Ports.{component_above, is_port, labels_of}

-- the label is this text
abbrev pub is_label : List ℕ → Option (List ℕ) → Bool
is_label text None = false
is_label text (Some label) = bytes_eq text label

-- a set has a label too, if there is one
abbrev pub AddsLabel :
    {Y S : Type 0} → Option (List ℕ) → HashSet (String Y) S → HashSet (String Y) S → Type 0
AddsLabel label old new =
    (text : List ℕ) → contains_text new text ≡ (contains_text old text || is_label text label)

-- a set has exactly these labels
abbrev pub HasLabels : {Y S : Type 0} → List (List ℕ) → HashSet (String Y) S → Type 0
HasLabels labels set =
    (text : List ℕ) → contains_text set text ≡ list_any (bytes_eq text) labels

-- each set has the labels of its component
abbrev pub AreLabelSets :
    {Y S T : Type 0} → ProjectData → HashMap ℕ (HashSet (String Y) S) T → Type 0
AreLabelSets {Y} {S} p sets = (id : ℕ) (set : HashSet (String Y) S)
    → get ◌==◌ sets id ≡ Some set → HasLabels (labels_of p (Some id)) set

-- a text is in the set, if there is one
abbrev pub has_text : {Y S : Type 0} → Option (HashSet (String Y) S) → List ℕ → Bool
has_text None text = false
has_text (Some set) text = contains_text set text

-- the set of the component above, if there are both
abbrev pub set_above : {Y S T : Type 0}
    → HashMap ℕ (HashSet (String Y) S) T → Option ℕ → Option (HashSet (String Y) S)
set_above sets None = None
set_above sets (Some id) = get ◌==◌ sets id

-- by the sets, exactly the labels of the component above are told
abbrev pub AreTold :
    {Y S T : Type 0} → ProjectData → HashMap ℕ (HashSet (String Y) S) T → Option ℕ → Type 0
AreTold p sets above = (text : List ℕ)
    → has_text (set_above sets above) text ≡ list_any (bytes_eq text) (labels_of p above)

-- what is told stays told
abbrev pub KeepsTold : {Y S T : Type 0} → ProjectData
    → HashMap ℕ (HashSet (String Y) S) T → HashMap ℕ (HashSet (String Y) S) T → Type 0
KeepsTold p old new = (above : Option ℕ) → AreTold p old above → AreTold p new above

-- the sets tell the ports of these instances
abbrev pub TellPorts :
    {Y S T : Type 0} → ProjectData → List Instance → HashMap ℕ (HashSet (String Y) S) T → Type 0
TellPorts p is sets = All (λ i. AreTold p sets (component_above i)) is

-- the set tells the ports of this instance
abbrev pub ArePortsBy :
    {Y S : Type 0} → ProjectData → Instance → Option (HashSet (String Y) S) → Type 0
ArePortsBy p i labels = (refdes : List ℕ) → has_text labels refdes ≡ is_port p i refdes

-- an instance of a project
pub record PortsData : Type 0 where
  pub project : ProjectData
  pub instance : Instance

-- instances of a project
pub record InstancesData : Type 0 where
  pub project : ProjectData
  pub instances : List Instance
