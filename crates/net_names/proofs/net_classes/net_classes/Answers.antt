use Rattle.std.proofs.Common.{◌<◌, ℕ, length, sym, subst}
use Rattle.std.specs.Prelude.{All}
use Rattle.flat_rows.specs.Keyed.{keyed_from}
use Rattle.net_names.specs.steps.Classes.{pins_by}
use Rattle.net_names.proofs.GatheredLemmas.{gathered, keys_within, labels_below}
use Rattle.net_names.proofs.OrderedLemmas.{pins_placed}
use Rattle.net_names.proofs.net_classes.net_classes.Goals as goal

pub labels_of_pins-requires-clause-pins : goal.labels_of_pins-requires-clause-pins
labels_of_pins-requires-clause-pins c =
    subst (λ (n : ℕ). All (λ m. m.1 < n) c.in_ok-ordered.ordered.members.now) (sym c.requires.len) c.in_ok-ordered.ensures.pins

pub chains_of-requires : goal.chains_of-requires
chains_of-requires c =
    let labels = c.args.labels.now in
    let ordered = c.in_ok-ordered.ordered in
    let inside = pins_placed ordered (length labels) (subst (λ (n : ℕ). All (λ m. m.1 < n) ordered.members.now) (sym c.requires.len) c.in_ok-ordered.ensures.pins) in
    let below = subst (λ (n : ℕ). All (λ l. l < n) labels) (sym c.requires.len) c.requires.labels in
    rw (c.deref.ensures.value, c.in_ok-pin_labels.ensures) (labels_below (length labels) (pins_by ordered) ordered.places.items labels inside below)

pub labels_met-requires : goal.labels_met-requires
labels_met-requires c =
    let labels = c.args.labels.now in
    let ordered = c.in_ok-ordered.ordered in
    let inside = pins_placed ordered (length labels) (subst (λ (n : ℕ). All (λ m. m.1 < n) ordered.members.now) (sym c.requires.len) c.in_ok-ordered.ensures.pins) in
    let below = subst (λ (n : ℕ). All (λ l. l < n) labels) (sym c.requires.len) c.requires.labels in
    rw (c.deref-2.ensures.value, c.in_ok-pin_labels.ensures) (labels_below (length labels) (pins_by ordered) ordered.places.items labels inside below)

pub grown-requires-clause-global : goal.grown-requires-clause-global
grown-requires-clause-global c =
    let conductors = c.args.flat.now.conductors in
    rw c.global_names.ensures (subst (λ (n : ℕ). All (λ k. k.1 < n) (keyed_from (λ c. c.global_names) 0 conductors)) (sym c.requires.len) (keys_within (λ c. c.global_names) conductors))

pub grown-requires-clause-drawn : goal.grown-requires-clause-drawn
grown-requires-clause-drawn c =
    let conductors = c.args.flat.now.conductors in
    rw c.drawn_names.ensures (subst (λ (n : ℕ). All (λ k. k.1 < n) (keyed_from (λ c. c.drawn_names) 0 conductors)) (sym c.requires.len) (keys_within (λ c. c.drawn_names) conductors))

pub returns : goal.returns
returns c =
    gathered c.args.flat.now.conductors c.args.labels.now _ c.in_ok-pin_labels.pin_labels.items c.requires.len c.requires.labels c.in_ok-ordered.ensures
    c.in_ok-pin_labels.ensures
    (rw c.deref.ensures.value at c.in_ok-chains.ensures)
    (rw c.deref-2.ensures.value at c.in_ok-met.ensures)
    (rw (c.rows.ensures, c.global_names.ensures, c.drawn_names.ensures) at c.in_ok-growing.ensures)
