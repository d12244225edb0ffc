use Rattle.std.proofs.Common.{◌≡◌, take}
use Rattle.net_names.specs.steps.Classes.{pins_by}
use Rattle.net_names.specs.steps.Pins.{labels_at}
use Rattle.net_names.proofs.net_classes.labels_of_pins.Given as goal

abbrev pub invariant-loop-at : goal.invariant-loop-at
invariant-loop-at l = l.found.items ≡ labels_at (pins_by l.ordered) (take l.at l.ordered.places.items) l.labels
