use Rattle.std.proofs.Common.{◌++◌, append_assoc, codes}
use Rattle.std.specs.List.{flat_map}
use Rattle.geda_defs.specs.Lines.{ended}
use Rattle.spice_out.specs.Nodes.{noded_nets}
use Rattle.spice_out.specs.SpiceText.{node_comment, package_card}
use Rattle.spice_out.proofs.writing.spice_text.Goals as goal

pub returns-clause-text : goal.returns-clause-text
returns-clause-text c =
    let list = c.args.nets.now in
    let nets = ended (codes "* gafd") ++ flat_map (λ n. ended (node_comment n)) (noded_nets list.nets) in
    let packages = flat_map (λ p. ended (package_card list.nets p)) list.packages in
    rw (c.in_ok-extend_from_slice-2.ensures.items, c.in_ok-put_packages.ensures.text, c.in_ok-put_nets.ensures, c.in_ok-extend_from_slice.ensures.items, c.new-out.ensures.items, c.as_slice-2.ensures.value, c.in_ok-noded.ensures, c.as_slice-list.ensures, c.as_slice-3.ensures)
    (append_assoc nets packages (ended (codes ".end")))
