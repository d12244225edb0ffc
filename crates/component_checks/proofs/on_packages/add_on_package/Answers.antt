use Rattle.std.proofs.Common.{◌≡◌, ◌++◌, List, append_assoc, subst}
use Rattle.std.specs.Prelude.{OnOk}
use Rattle.drc_findings.specs.declared.finding.Finding.{Finding}
use Rattle.drc_findings.specs.Findings.{same_text}
use Rattle.component_checks.specs.OnPackages.{found_on_package, package_refdeses, unused_slots}
use Rattle.component_checks.proofs.SlotLemmas.{all_unused-are}
use Rattle.component_checks.proofs.on_packages.add_on_package.Goals as goal

pub returns : goal.returns
returns c = λ cs all slots alike.
    let refdes = c.args.part.now.refdes in
    let same : c.add_unused_slots.new.found.items ++ same_text (package_refdeses all) c.as_str.result.now
    ≡ c.args.found.now.items ++ found_on_package cs all c.args.part.now =
    rw (c.in_ok-add_unused_slots.ensures, c.as_str.ensures.text, all_unused-are cs c.args.rows.now slots refdes)
    (append_assoc c.args.found.now.items (unused_slots cs refdes) (same_text (package_refdeses all) refdes)) in
    subst (λ (items : List Finding). OnOk c.add_same_text.result (c.add_same_text.new.found.items ≡ items)) same
    (c.add_same_text.ensures (package_refdeses all) alike)
