-- The definitions, evaluated on few conductors.
use Rattle.std.proofs.Common.{◌≡◌, ℕ, ◌≢◌, pos, false, List, [], ◌∷◌, Option, Some, None, refl, arith, inl, inr}
use Rattle.std.specs.Prelude.{codes}
use Rattle.geda_geom.specs.declared.conductor.Conductor.TheVariants.{End}
use Rattle.geda_geom.specs.declared.conductor.Key.{Key}
use Rattle.flat_rows.specs.Conductors.{FlatConductor}
use Rattle.flat_rows.specs.declared.conductors.PortPins.{PortPins}
use Rattle.link_classes.specs.InstanceGroups.{AreGrouped, Groups}
use Rattle.link_classes.specs.Links.{AreTied, AreTouching, Linked}

-- a pin at one point, in this instance
abbrev pin_in : ℕ → FlatConductor
pin_in instance = record { instance = instance; key = record { id = 0; place = 0 }; shape = Some (End (record { x = pos 0; y = pos 0 })); global_names = []; drawn_names = []; member = None; leads_down = None; leads_up = None; directive = false }

-- pins at one point of one instance touch
one_instance_touches : (i : ℕ) → AreTouching (pin_in i) (pin_in i)
one_instance_touches i = record { together = refl; touch = inl (refl, refl) }

-- in two instances they do not
two_instances_stay_apart : (i j : ℕ) → i ≢ j → AreTouching (pin_in i) (pin_in j) → ⊥
two_instances_stay_apart i j apart touching = apart touching.together

-- a hidden pin of one global name, and a segment of another instance that has that name drawn
abbrev hidden : FlatConductor
hidden = record { instance = 1; key = record { id = 1; place = 0 }; shape = None; global_names = codes "Vcc" ∷ []; drawn_names = []; member = None; leads_down = None; leads_up = None; directive = false }

abbrev drawn : FlatConductor
drawn = record { instance = 0; key = record { id = 0; place = 0 }; shape = Some (End (record { x = pos 0; y = pos 0 })); global_names = []; drawn_names = codes "out" ∷ codes "Vcc" ∷ []; member = None; leads_down = None; leads_up = None; directive = false }

-- conductors of one instance that have one group stand in it
one_group : (i : ℕ) (group : Key) → AreGrouped (λ key. Some group) (pin_in i) (pin_in i)
one_group i group = record { together = refl; group = group; first = record { drawn = refl; has = refl }; second = record { drawn = refl; has = refl } }

-- a hidden pin stands in none
hidden_stands_apart : (groups : Groups) (f : FlatConductor) → AreGrouped groups hidden f → ⊥
hidden_stands_apart groups f grouped = absurd (let e = grouped.first.drawn in cc)

-- a name in common links them, whichever of the two kinds it is
one_name_links : Linked (drawn ∷ hidden ∷ []) 0 1
one_name_links = inr (inl (record { first = omega arith; second = omega arith; related = λ d. (codes "Vcc", (1, omega arith, refl), (0, omega arith, refl)) }))

-- a pin with this label of a component that leads down
abbrev above : List ℕ → FlatConductor
above label = record { instance = 0; key = record { id = 7; place = 0 }; shape = None; global_names = []; drawn_names = []; member = None; leads_down = Some (record { instance = 0; id = 7; label = label }); leads_up = None; directive = false }

-- the pin of a port of this name on the sheet below
abbrev below : List ℕ → FlatConductor
below name = record { instance = 1; key = record { id = 0; place = 0 }; shape = None; global_names = []; drawn_names = []; member = None; leads_down = None; leads_up = Some (record { instance = 0; id = 7; label = name }); directive = false }

-- a port's pin is linked with the pin above of that label
port_links : (label : List ℕ) → Linked (above label ∷ below label ∷ []) 0 1
port_links label = inr (inr (record { first = omega arith; second = omega arith; related = λ d. inr (record { pins = record { instance = 0; id = 7; label = label }; below = refl; above = refl }) }))

none_leads_up : (pins : PortPins) → ◌≡◌ {A = Option PortPins} None (Some pins) → ⊥
none_leads_up pins e = absurd (cc)

-- two pins above with one label alone are not tied to one another
label_alone_ties_nothing : (label : List ℕ) → AreTied (above label) (above label) → ⊥
label_alone_ties_nothing label tied = elim tied [ inl to ↦ none_leads_up to.pins to.below | inr to ↦ none_leads_up to.pins to.below ]
