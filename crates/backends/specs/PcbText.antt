-- The text of a net list for PCB (own): a line for each net that is no unconnected pin.
use Rattle.std.specs.Prelude.{ℕ, List}
use Rattle.std.specs.List.{flat_map}
use Rattle.net_list.specs.declared.nets.Nets.{Nets}
use Rattle.backends.specs.ListText.{net_line_text}
use Rattle.backends.specs.Joined.{joined_nets}

-- the lines of these nets, as in the list text
abbrev pub pcb_text : Nets → List ℕ
pcb_text nets = flat_map net_line_text (joined_nets nets.nets)
